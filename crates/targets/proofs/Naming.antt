-- Assignment to a name.
use mathlib.Core.Path.{◌≡◌, refl, sym, ap, ◌∙◌}
use Rattle.std.specs.Prelude.{Option, Some, None}
use mathlib.Core.List.{[]}
use Prim.Native.Nat.{ℕ, ◌<◌}
use native.Mathlib.Omega.{arith}
use Rattle.meaning.specs.Base.{if_some, base_open}
use Rattle.meaning.specs.Frames.{write}
use Rattle.meaning.specs.Walk.{state, done, assign_name}
use Rattle.types.specs.Table.{tab}
use Rattle.types.specs.Reading.{Agreement}
use Rattle.types.proofs.Answers.{perhaps_yes, perhaps_no}
use Rattle.frames.specs.Env.{Rows, First, cell_room, frames_of, Known, Looked, Bound}
use Rattle.frames.specs.declared.Binding.{Binding as Found}
use Rattle.rules.specs.Outcome.{types_named, pieces}
use Rattle.state.specs.Notes.{places}
use Rattle.targets.specs.Ending.{first_at, ended}
use Rattle.targets.specs.Spreading.{Written}
use Rattle.targets.proofs.Endings.{ended_well, named_none}

-- what is agreed on fits a cell
pub fits_cell : {old ty k : ℕ} {r : Option ℕ} → old < cell_room → ty < 2056 → Agreement old ty r → r ≡ Some k → k < cell_room
fits_cell h l a e = a.below (tab [] cell_room 0) (omega arith) (omega arith) _ e

names_two : types_named 25 ≡ 2
unfolding types_named base_open
names_two = refl

module _ {fs : Rows} {top ty : ℕ} {old : Found} {r : Option ℕ} (n x : ℕ) (m : First) (o : Looked fs top x old) (a : Agreement old.ty ty r) where
  pub name_written : {k : ℕ} {gs : Rows} {b : Found} → Known old.first n k b → Bound fs gs top x b → r ≡ Some k → Written fs gs top (places n m) x ty 0 0 0
  unfolding assign_name if_some
  name_written {gs = gs} k g y = record {
    says = λ ws t ret w f b.
        let h = o.known t w f in
        rw (o.says t w f, a.says t w h b, perhaps_yes t y)
        (sym (ended_well ws t gs top ret 0 (places n m) 0 0 refl
        ∙ ap (λ Γ. done (state Γ ret)) (g.says t f ∙ ap (λ c. write x c (frames_of t fs top)) (k.says t w (a.below t h b _ y)))));
    fit = λ t w f b. g.fit t f (rw k.type_is (a.below t (o.known t w f) b _ y));
    named = λ t w f b M l. named_none refl;
    typing = λ c. absurd (omega arith);
  }

  pub name_differs : r ≡ None → m ≡ old.first → Written fs fs top (places n m) x ty 25 ty old.ty
  unfolding assign_name if_some ended first_at pieces types_named base_open
  name_differs y e = record {
    says = λ ws t ret w f b.
        rw (o.says t w f, a.says t w (o.known t w f) b, perhaps_no t y, e);
    fit = λ t w f b. f;
    named = λ t w f b M l. record { first = λ c. b; second = λ c. o.known t w f; small = λ c d. absurd (omega (arith, names_two)); placed = λ c. l };
    typing = λ c. absurd (omega arith);
  }
