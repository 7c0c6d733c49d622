-- The names of an accepted program are within the sheet's limits: their types are numbers of the check's table, which has no more than
-- 2,048 structured types, and whose Tuples have no more elements than are in use, at most 2,047.
use mathlib.Core.Path.{◌≡◌, sym, ap, ◌∙◌}
use mathlib.Core.Bool.{true}
use mathlib.Core.Logic.{⊎_elim}
use mathlib.Core.Option.{none, some, none-ne-some, some-injective}
use mathlib.Core.List.{List, [], ◌∷◌, map, Memᴰ}
use Prim.Native.Nat.{ℕ, zero, suc, ◌+◌, ◌-◌, ◌≤◌, ◌<◌}
use native.Mathlib.Omega.{arith}
use native.Mathlib.Decide.{dec_lt, ℕ_discrete}
use borrow.Author.Tests.{le-leb}
use lib.ListN.{length, get_or, length-map}
use Rattle.meaning.specs.Limits.{most_names, most_types, most_elements}
use Rattle.meaning.specs.Base.{count}
use Rattle.meaning.specs.Types.{Ty, unknown, kind, parts, part}
use Rattle.meaning.specs.Image.{names_of, nodes_of}
use Rattle.meaning.specs.Bound.{may_bind}
use Rattle.meaning.specs.Decode.{tree_of}
use Rattle.meaning.specs.Sheet.{Entry, types_of, elements_of, entries, listed_frame, listing, within_limits}
use Rattle.meaning.proofs.Choices.{both, count_long}
use Rattle.meaning.proofs.Faults.{Sound}
use Rattle.meaning.proofs.SheetTypes.{Known}
use Rattle.meaning.proofs.SheetRoom.{sheet_room}
use Rattle.meaning.proofs.SheetNames.{names_many, texts_stand_lem}
use Rattle.meaning.proofs.Listed.{listing_of, listing_lists}
use Rattle.types.specs.Table.{Tab, denote, Means, Wf}
use Rattle.types.proofs.Parts.{part_number, plain_kind_of}
use Rattle.types.proofs.Elements.{elements_few}
use Rattle.meaning.specs.Frames.{Binding, binding}
use Rattle.frames.specs.Env.{Rows, type_in, node_in, node_from, slot_as, frame_of, Fit}

-- ---- lists

pub in_count : (a n x : ℕ) → a ≤ x → x < a + n → Memᴰ x (count a n)
unfolding count
in_count a zero x h l = absurd (omega arith)
in_count a (suc n) x h l = elim (ℕ_discrete x a) [
  | yes e ↦ mathlib.Core.List.Memᴰ.head e
  | no e ↦ mathlib.Core.List.Memᴰ.tail (in_count (suc a) n x (omega arith) (omega arith))
]

of_count : (a n x : ℕ) → Memᴰ x (count a n) → x < a + n
unfolding count
of_count a zero x m = absurd (mathlib.Core.List.Memᴰ.not-nil m)
of_count a (suc n) x m = ⊎_elim (λ e. omega arith) (λ r. omega (arith, of_count (suc a) n x r)) (mathlib.Core.List.Memᴰ.cases_cons m)

place_of : (xs : List Ty) (x : Ty) → Memᴰ x xs → (j : ℕ) × ((j < length xs) × (get_or xs j unknown ≡ x))
place_of [] x m = absurd (mathlib.Core.List.Memᴰ.not-nil m)
place_of (y ∷ xs) x m =
    ⊎_elim (λ e. (0, (omega arith, sym e))) (λ r. let p = place_of xs x r in (suc p.0, (omega (arith, p.1.0), p.1.1))) (mathlib.Core.List.Memᴰ.cases_cons m)

-- ---- the structured types of a table

module _ {t : Tab} (w : Wf t) where
  abbrev held : List Ty
  held = map (denote t) (count 8 (t.n - 8))

  means_held : {r : ℕ} {ty : Ty} → Means t r ty → 8 ≤ kind ty → Memᴰ ty held
  means_held {r} {ty} m k = elim (dec_lt r 8) [
    | yes l ↦ absurd (omega (arith, plain_kind_of w r m.below l, ap kind m.means))
    | no l ↦ mathlib.Core.List.Memᴰ.cast (sym m.means) (mathlib.Core.List.Memᴰ.map (denote t) (in_count 8 (t.n - 8) r (omega arith) (omega (arith, m.below))))
  ]

  closed : (ty : Ty) → Memᴰ ty held → Known held (parts ty)
  unfolding part
  closed ty m p q k =
      let f = mathlib.Core.List.Memᴰ.of_map (denote t) (count 8 (t.n - 8)) m in
      let q₁ : Memᴰ p (parts (denote t f.0)) = rw f.2 q in
      let a = place_of (parts (denote t f.0)) p q₁ in
      let b : f.0 < t.n = omega (arith, of_count 8 (t.n - 8) f.0 f.1, w.base) in
      let n = (part_number w f.0 b a.0 a.1.0).means in
      means_held (record { below = n.below; means = n.means ∙ a.1.1 }) k

  -- what a row's cell holds is a type of the table
  cell_held : (row : List ℕ) → ((x : ℕ) → type_in (get_or row x 0) ≤ t.n) → (x : ℕ) (b : Binding) → get_or (frame_of t row) x none ≡ some b → 8 ≤ kind b.type
      → Memᴰ b.type held
  unfolding frame_of slot_as
  cell_held [] k x b e h = absurd (none-ne-some b e)
  cell_held (c ∷ row) k zero b e h = here (type_in c) (node_in c) (k 0) e
    where
      here : (i n : ℕ) → i ≤ t.n → slot_as t i n ≡ some b → Memᴰ b.type held
      here zero n l q = absurd (none-ne-some b q)
      here (suc i) n l q = means_held (record { below = l; means = ap (λ (d : Binding). d.type) (some-injective (binding (denote t i) (node_from n)) b q) }) h
  cell_held (c ∷ row) k (suc x) b e h = cell_held row (λ y. k (suc y)) x b e h

  -- so the names that are listed over a row have types of the table: what is added is Unknown
  listed_held : {bs : List ℕ} → Sound bs → (row : List ℕ) → ((x : ℕ) → type_in (get_or row x 0) ≤ t.n) → Known held (map (λ e. e.1) (listing_of bs (frame_of t row)))
  unfolding kind
  listed_held {bs} s row k ty m h =
      let f = mathlib.Core.List.Memᴰ.of_map (λ (e : Entry). e.1) (listing_of bs (frame_of t row)) m in
      let l = (listing_lists bs s (frame_of t row) f.0.0 f.0.1).0 f.1 in
      ⊎_elim (λ a. cell_held row k l.slot (binding ty a.0) (a.1 ∙ ap (λ (y : Ty). some (binding y a.0)) f.2) h) (λ a. absurd (omega (arith, h, ap kind (sym f.2 ∙ a.2)))) l.typed

module _ {bs : List ℕ} {t : Tab} {fs : Rows} {top : ℕ} (s : Sound bs) (w : Wf t) (f : Fit t fs top) (few : t.m ≤ most_elements) where
  pub sheet_within : within_limits (listing_of bs (frame_of t (get_or fs top []))) ≡ true
  unfolding within_limits listing
  sheet_within =
      let row = get_or fs top [] in
      let F = listed_frame (may_bind (tree_of (nodes_of bs))) (frame_of t row) in
      let es = entries (names_of bs) F in
      let room = sheet_room es (held w) (listed_held w s row (λ x. f.known top x f.high)) (closed w) in
      both _ _
      (both _ _ (both _ _ (texts_stand_lem bs s F) (le-leb (length es) most_names (names_many bs s F)))
      (le-leb (length (types_of es [])) most_types (omega (arith, room.0, length-map (count 8 (t.n - 8)) (denote t), count_long 8 (t.n - 8), w.room, w.most))))
      (le-leb (length (elements_of (types_of es []))) most_elements (omega (arith, room.1, elements_few w)))
