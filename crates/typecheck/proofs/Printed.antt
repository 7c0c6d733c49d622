-- The line that is printed, by the arguments: that of an image is `printed` of the words, however long the input is. Assumes nothing.
use mathlib.Core.Path.{◌≡◌, sym, ap, ◌∙◌}
use mathlib.Core.List.{List, [], ◌∷◌}
use Prim.Native.Nat.{ℕ, ◌≤◌}
use lib.ListN.{length}
use Rattle.meaning.specs.Limits.{sheet_buffer, message_buffer}
use Rattle.meaning.specs.Answer.{answer}
use Rattle.meaning.specs.Line.{setting_told, line_of, printed}
use Rattle.meaning.proofs.Cut.{printed_whole}
use Rattle.line.specs.Printing.{Lined}
use Rattle.typecheck.specs.Words.{Told, Shown, Shows}

module _ (setting : ℕ) (input : List ℕ) {old new s s₁ m m₁ : List ℕ} {size code count : ℕ}
    (l : Lined (answer setting input sheet_buffer message_buffer) old new s s₁ m m₁ size code count) (room : sheet_buffer ≤ length s) where
  shown : (words : List (List ℕ)) → setting ≡ setting_told words → Shown words input old new size
  shown words e =
      let line : printed words input ≡ line_of (answer setting input sheet_buffer message_buffer) =
      printed_whole input words ∙ ap (λ n. line_of (answer n input sheet_buffer message_buffer)) (sym e) in
      record { front = rw line l.front; never_ten = λ t. l.roomy room (ap (λ n. (answer n input sheet_buffer message_buffer).code) e ∙ t) }

  pub shows : {arguments : ℕ} (w : List ℕ) → Told arguments w setting → Shows arguments w input old new size
  shows w t =
      record {
        none = λ h. shown [] (t.none h);
        one = λ h. shown (w ∷ []) (t.one h);
        more = λ h v vs. shown (w ∷ v ∷ vs) (t.more h v vs);
      }
