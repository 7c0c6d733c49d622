-- A type and its parts by number, where only the cells of the table are at hand: what types' readers tell of them.
use mathlib.Core.Path.{◌≡◌, sym, ap, ◌∙◌}
use mathlib.Core.List.{List}
use Prim.Native.Nat.{ℕ, ◌<◌}
use lib.ListN.{length}
use Rattle.meaning.specs.Types.{kind, parts, part}
use Rattle.types.specs.declared.Kind.{Kind}
use Rattle.types.specs.Kinds.{kind_number}
use Rattle.types.specs.Table.{most_numbers, denote}
use Rattle.types.specs.Reading.{Known, type_at, KindOf, PartsOf, HasPart, PartAt}
use Rattle.types.proofs.Parts.{type_is, number_small}

-- r is part j of number i: a lower number
pub record PartIs (cs : List ℕ) (i j r : ℕ) : Type 0 where
  pub lower : r < i
  pub known : Known cs r
  pub means : type_at cs r ≡ part j (type_at cs i)

module _ {cs : List ℕ} {i : ℕ} (k : Known cs i) where
  own_type : type_at cs i ≡ denote k.table i
  own_type = type_is k.table cs k.cells i k.below

  pub known_number : i < most_numbers
  known_number = number_small k.wf i k.below

  pub known_kind : {r : Kind} → KindOf cs i r → kind_number r ≡ kind (type_at cs i)
  known_kind h = h.says k.table k.cells k.wf k.below ∙ ap kind (sym own_type)

  pub known_parts : {r : ℕ} → PartsOf cs i r → r ≡ length (parts (type_at cs i))
  known_parts h = h.says k.table k.cells k.wf k.below ∙ ap (λ ty. length (parts ty)) (sym own_type)

  pub known_part : {j : ℕ} → j < length (parts (type_at cs i)) → HasPart cs i j
  known_part l = record { known = k; within = rw own_type at l }

  pub part_is : {j r : ℕ} → PartAt cs i j r → j < length (parts (type_at cs i)) → PartIs cs i j r
  part_is {j} {r} p l =
      let t = k.table in
      let within : j < length (parts (denote t i)) = rw own_type at l in
      let m = p.says t k.cells k.wf k.below within in
      record {
        lower = p.lower t k.cells k.wf k.below within;
        known = record { table = t; cells = k.cells; wf = k.wf; below = m.below };
        means = type_is t cs k.cells r m.below ∙ m.means ∙ ap (part j) (sym own_type);
      }
