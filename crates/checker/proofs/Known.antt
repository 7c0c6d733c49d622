-- Known stays known (document 02, request Ten), of one run of `check` or of its C twin that accepts: of each strict run, and of a plain one
-- whose program has no Def anywhere inside an If. "Slots shall be laid out while a script is read."
use mathlib.Core.Path.{◌≡◌, sym, ap, ◌∙◌}
use mathlib.Core.List.{List, Memᴰ}
use Prim.Native.Nat.{ℕ, ◌≤◌, ◌<◌}
use lib.ListN.{length}
use Rattle.meaning.specs.Types.{Ty, unknown}
use Rattle.meaning.specs.Image.{names_of, nodes_of, name_of}
use Rattle.meaning.specs.Decode.{tree_of}
use Rattle.meaning.specs.Frames.{Frame, newest, lookup}
use Rattle.meaning.specs.Walk.{Setting, plain, strict, State, End, done, start}
use Rattle.meaning.specs.Sheet.{Entry}
use Rattle.meaning.specs.Read.{entries_in}
use Rattle.meaning.specs.Answer.{Answer as Meant, walked, answer_under, answer}
use Rattle.meaning.specs.Known.{NoDefInIf, after_first}
use Rattle.meaning.proofs.Answers.{plain_is, strict_is}
use Rattle.meaning.proofs.Faults.{Sound}
use Rattle.meaning.proofs.Strict.{accepts_program}
use Rattle.meaning.proofs.Listed.{listing_of, listing_once}
use Rattle.meaning.proofs.KnownStays.{StillKnown, one_frame, known_stays, strict_known_stays, each_accepted, known_in_sheet}
use Rattle.meaning.proofs.Keeping.{strict_not_plain}
use Rattle.checker.specs.Answers.{Numbers, Replies}
use Rattle.checker.specs.Module.{sheet_in}
use Rattle.checker.proofs.Demand.{sheet_tells_listed, ends_well}
use Rattle.checker.proofs.Demand.{one_frame as only_frame}

-- where the walk over an image's program stands behind its first k statements
abbrev pub behind : ℕ → Setting → List ℕ → End
behind k setting image = after_first k (names_of image) setting (tree_of (nodes_of image))

-- a sheet has a name with this type, and with no other
pub record Has (sheet : List Entry) (name : List ℕ) (t : Ty) : Type 0 where
  pub there : Memᴰ (name, t) sheet
  pub alone : (u : Ty) → Memᴰ (name, u) sheet → u ≡ t

-- Who reads an accepted script statement by statement may lay out a slot as soon as a type is known: behind each statement the walk stands well,
-- in one frame; a name whose type is known keeps it, with its node; and it is the name's type in the sheet.
pub record Steadily (image : List ℕ) (setting : Setting) (sheet : List Entry) : Type 0 where
  pub stands : (k : ℕ) → (s : State) × (behind k setting image ≡ done s)
  pub one : (k : ℕ) (s : State) → behind k setting image ≡ done s → length s.frames ≡ 1
  pub stays : (j k : ℕ) (s s₁ : State) → j ≤ k → behind j setting image ≡ done s → behind k setting image ≡ done s₁ → StillKnown s.frames s₁.frames
  pub sheets : (k : ℕ) (s : State) → behind k setting image ≡ done s → (x : ℕ) → x < length (names_of image) → ((lookup s.frames x).type ≡ unknown → ⊥)
      → Has sheet (name_of (names_of image) x).spelling (lookup s.frames x).type

module _ (number : ℕ) (image : List ℕ) (room told : ℕ) {n : Numbers} {old new old_message new_message : List ℕ}
    (x : Replies (answer number image room told) n old new old_message new_message) (c : n.code ≡ 0)
    (setting : Setting) (is : answer number image room told ≡ answer_under setting image room told) where
  -- what is accepted ends well
  ended_well : Sound image × ((s : State) × (walked setting image ≡ done s))
  ended_well = let w = ends_well image room told setting (ap (λ (a : Meant). a.code) (sym is) ∙ sym (ap (λ (k : Numbers). k.code) x.numbers) ∙ c) in (w.0, w.2)

  -- the sheet is that of the frame with which the walk ended
  known_has : (setting ≡ plain → NoDefInIf (tree_of (nodes_of image))) → (e : State) → walked setting image ≡ done e → walked plain image ≡ done e
      → (k : ℕ) (s : State) → behind k setting image ≡ done s → (y : ℕ) → y < length (names_of image) → ((lookup s.frames y).type ≡ unknown → ⊥)
      → Has (entries_in (sheet_in n new)) (name_of (names_of image) y).spelling (lookup s.frames y).type
  known_has h e w v k s d y l known =
      let sound = ended_well.0 in
      let frame : Frame = newest e.frames in
      let said : entries_in (sheet_in n new) ≡ listing_of image frame =
      sheet_tells_listed number image room told x c ∙ ap (λ (f : Frame). listing_of image f) (sym (only_frame image room told e v)) in
      let there = known_in_sheet image sound setting h k s e d w y l known in
      record { there = rw said there; alone = λ u m. listing_once image sound frame _ u _ (rw said at m) there }

module _ (image : List ℕ) (room told : ℕ) {n : Numbers} {old new old_message new_message : List ℕ} where
  -- Of what plain accepts, if it has no Def anywhere inside an If. (False without that: run 11 has x as Int behind its first statement and as String
  -- in its sheet.)
  pub plain_steadily : Replies (answer 0 image room told) n old new old_message new_message → n.code ≡ 0 → NoDefInIf (tree_of (nodes_of image))
      → Steadily image plain (entries_in (sheet_in n new))
  unfolding walked
  plain_steadily x c h =
      let ends = (ended_well 0 image room told x c plain (plain_is image room told)).1 in
      record {
        stands = each_accepted (names_of image) plain _ ends.0 ends.1;
        one = λ k s d. one_frame (names_of image) plain _ k s d;
        stays = λ j k s s₁ l d e. known_stays (names_of image) _ j k s s₁ h l d e;
        sheets = known_has 0 image room told x c plain (plain_is image room told) (λ p. h) ends.0 ends.1 ends.1;
      }

  -- Of what strict accepts, without it. (False of a strict that drops the errors of Defs alone: run 11.)
  pub strict_steadily : Replies (answer 1 image room told) n old new old_message new_message → n.code ≡ 0 → Steadily image strict (entries_in (sheet_in n new))
  unfolding walked
  strict_steadily x c =
      let ends = (ended_well 1 image room told x c strict (strict_is image room told)).1 in
      let well = accepts_program (names_of image) (tree_of (nodes_of image)) start ends.0 ends.1 in
      record {
        stands = each_accepted (names_of image) strict _ ends.0 ends.1;
        one = λ k s d. one_frame (names_of image) strict _ k s d;
        stays = λ j k s s₁ l d e. strict_known_stays (names_of image) _ j k s s₁ l d e;
        sheets = known_has 1 image room told x c strict (strict_is image room told) (λ p. absurd (strict_not_plain p)) ends.0 ends.1 well;
      }
