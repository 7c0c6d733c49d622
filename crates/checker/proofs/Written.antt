-- A sheet's bytes written into so much room: code 0 and all of them, or 10 and none.
use mathlib.Core.Path.{◌≡◌, refl}
use mathlib.Core.Bool.{Bool, true, false}
use mathlib.Core.List.{List, []}
use Prim.Native.Nat.{ℕ, ◌≤◌, ◌<◌}
use native.Mathlib.Omega.{arith}
use borrow.Author.Tests.{leb-true, leb-false}
use lib.Dec.{leb}
use lib.ListN.{length}
use Rattle.meaning.specs.Limits.{largest_sheet}
use Rattle.meaning.specs.Base.{test◌then◌else◌}
use Rattle.meaning.specs.Sheet.{Entry, sheet_of, within_limits}
use Rattle.meaning.specs.Read.{is_sheet}
use Rattle.meaning.specs.Answer.{Answer, bare, written}
use Rattle.meaning.proofs.SheetForm.{is_sheet_lem, sheet_length}

-- what holds of both ends
pub by_room : (P : Answer → Type 0) (room : ℕ) (bs : List ℕ)
    → (length bs ≤ room → P (record { code = 0; place = 0; span_start = 0; span_end = 0; second_start = 0; second_end = 0; sheet = bs; message = [] }))
    → (room < length bs → P (bare 10 0)) → P (written room bs)
unfolding written test◌then◌else◌
by_room P room bs f g = by (leb (length bs) room) refl
  where
    by : (b : Bool) → leb (length bs) room ≡ b
        → P (test b then record { code = 0; place = 0; span_start = 0; span_end = 0; second_start = 0; second_end = 0; sheet = bs; message = [] } else bare 10 0)
    by true e = f (leb-true (length bs) room e)
    by false e = g (leb-false (length bs) room e)

module _ (room : ℕ) (bs : List ℕ) where
  pub no_message : (written room bs).message ≡ []
  no_message = by_room (λ a. a.message ≡ []) room bs (λ h. refl) (λ h. refl)

  pub no_place : (written room bs).place ≡ 0
  no_place = by_room (λ a. a.place ≡ 0) room bs (λ h. refl) (λ h. refl)

  pub written_sheet : (written room bs).code ≡ 0 → (written room bs).sheet ≡ bs
  written_sheet = by_room (λ a. a.code ≡ 0 → a.sheet ≡ bs) room bs (λ h e. refl) (λ h e. absurd (omega (arith, e)))

  pub written_well : length bs ≤ room → (written room bs).code ≡ 0
  written_well l = by_room (λ a. a.code ≡ 0) room bs (λ h. refl) (λ h. absurd (omega (arith, h, l)))

-- of entries within the limits
module _ (room : ℕ) (es : List Entry) (w : within_limits es ≡ true) where
  -- room for the largest sheet is room for this one
  pub written_roomy : largest_sheet ≤ room → (written room (sheet_of es)).code ≡ 10 → ⊥
  written_roomy l =
      by_room (λ a. a.code ≡ 10 → ⊥) room (sheet_of es) (λ h e. absurd (omega (arith, e))) (λ h e. absurd (omega (arith, h, l, sheet_length es w)))

  pub written_form : (written room (sheet_of es)).code ≡ 0 → is_sheet (written room (sheet_of es)).sheet ≡ true
  written_form =
      by_room (λ a. a.code ≡ 0 → is_sheet a.sheet ≡ true) room (sheet_of es)
      (λ h e. is_sheet_lem (sheet_of es) es (record { written = refl; limits = w })) (λ h e. absurd (omega (arith, e)))
