-- The answer: its code is one of document 01's numbers, and what it leaves at 0 or empty is told by the code.
use mathlib.Core.Path.{◌≡◌, refl, ◌∙◌, ap, sym}
use mathlib.Core.Bool.{Bool, true, false}
use mathlib.Core.Logic.{◌⊎◌, inl, inr, ⊎_elim}
use mathlib.Core.Option.{Option, none, some}
use mathlib.Core.List.{List, []}
use Prim.Native.Nat.{ℕ, ◌≤◌, ◌<◌}
use native.Mathlib.Omega.{arith}
use borrow.Author.Tests.{leb-true, ne_eqb}
use lib.Dec.{leb}
use lib.ListN.{length, take, drop, length-append, length-drop}
use lib.Seq.{take-append_seam}
use Rattle.meaning.specs.Base.{test◌then◌else◌, choose, if_some}
use Rattle.meaning.specs.Image.{Fault, Name, Node, image_fault, first_tree_set, check_fault, names_of, nodes_of}
use Rattle.meaning.specs.Message.{Refusal}
use Rattle.meaning.specs.Walk.{Setting, plain, strict, State, End, done, wrong, too_deep}
use Rattle.meaning.specs.Sheet.{Entry}
use Rattle.meaning.specs.Read.{read_sheet}
use Rattle.meaning.specs.Answer.{Answer, setting_of, bare, written, fitting, ended, walked, walk_answer, unless_fault, answer_under, answer, former_under, former_answer, read_answer, write_answer, overlaid}
use Rattle.meaning.proofs.Faults.{Sound, sound, walks, Early, check_told, check_found, fault_told, fault_early, fault_14, no_check_fault}
use Rattle.meaning.proofs.Codes.{Typing}
use Rattle.meaning.proofs.Kept.{refused_typing}
use Rattle.meaning.proofs.SheetForm.{read_some}

-- an answer to a caller who lends so much room
pub record Answered (sheet_room message_room : ℕ) (a : Answer) : Type 0 where
  -- 0 to 10, 13, 14, or 20 to 50
  pub code : ((a.code ≤ 10) ⊎ ((a.code ≡ 13) ⊎ (a.code ≡ 14))) ⊎ ((20 ≤ a.code) × (a.code ≤ 50))
  -- "Codes outside 20..50 have span 0,0"
  pub span : a.code < 20 → (a.span_start ≡ 0) × (a.span_end ≡ 0)
  -- "Codes 25 and 23 answer with a second span .. ; every other code has 0,0 there."
  pub second : (a.code ≡ 23 → ⊥) → (a.code ≡ 25 → ⊥) → (a.second_start ≡ 0) × (a.second_end ≡ 0)
  -- "and place 0 where none is told"
  pub place : (a.code < 4) ⊎ ((a.code ≡ 10) ⊎ (a.code ≡ 13)) → a.place ≡ 0
  -- "every other code has sheet length 0"
  pub sheet : 0 < a.code → a.sheet ≡ []
  -- "for other codes, length is 0"
  pub message : a.code < 20 → a.message ≡ []
  pub sheet_fits : length a.sheet ≤ sheet_room
  pub message_fits : length a.message ≤ message_room

module _ (sheet_room message_room : ℕ) where
  bare_answered : (c n : ℕ) → (c ≤ 10) ⊎ ((c ≡ 13) ⊎ (c ≡ 14)) → ((c < 4) ⊎ ((c ≡ 10) ⊎ (c ≡ 13)) → n ≡ 0) → Answered sheet_room message_room (bare c n)
  bare_answered c n h p =
      record {
        code = inl h;
        span = λ l. (refl, refl);
        second = λ p q. (refl, refl);
        place = p;
        sheet = λ l. refl;
        message = λ l. refl;
        sheet_fits = omega arith;
        message_fits = omega arith;
      }

  full_answered : (bs : List ℕ) → length bs ≤ sheet_room
      → Answered sheet_room message_room (record { code = 0; place = 0; span_start = 0; span_end = 0; second_start = 0; second_end = 0; sheet = bs; message = [] })
  full_answered bs h =
      record {
        code = inl (inl (omega arith));
        span = λ l. (refl, refl);
        second = λ p q. (refl, refl);
        place = λ l. refl;
        sheet = λ l. absurd (omega arith);
        message = λ l. refl;
        sheet_fits = h;
        message_fits = omega arith;
      }

  if_answered : (b : Bool) (x y : Answer) → (b ≡ true → Answered sheet_room message_room x) → Answered sheet_room message_room y
      → Answered sheet_room message_room (test b then x else y)
  unfolding test◌then◌else◌
  if_answered true x y f g = f refl
  if_answered false x y f g = g

  pub written_answered : (bs : List ℕ) → Answered sheet_room message_room (written sheet_room bs)
  unfolding written
  written_answered bs =
      if_answered _ _ _ (λ e. full_answered bs (leb-true (length bs) sheet_room e)) (bare_answered 10 0 (inl (omega arith)) (λ l. refl))

  fitting_fits : (bs : List ℕ) → length (fitting message_room bs) ≤ message_room
  unfolding fitting test◌then◌else◌
  fitting_fits bs = by (leb (length bs) message_room) refl
    where
      by : (b : Bool) → leb (length bs) message_room ≡ b → length (test b then bs else []) ≤ message_room
      by true e = leb-true (length bs) message_room e
      by false e = omega arith

  ended_answered : (ws : List Name) (ds : List Node) (e : End) → ((r : Refusal) (s : State) → e ≡ wrong r s → Typing r)
      → Answered sheet_room message_room (ended ws ds sheet_room message_room e)
  unfolding ended if_some
  ended_answered ws ds (done s) h = written_answered _
  ended_answered ws ds (wrong r s) h =
      let t = h r s refl in
      record {
        code = inr (t.above, t.below);
        span = λ l. absurd (omega (arith, t.above));
        second = λ p q. rw (t.alone p q) (refl, refl);
        place = λ l. absurd (⊎_elim (λ a. omega (arith, t.above)) (λ a. ⊎_elim (λ b. omega (arith, t.above)) (λ b. omega (arith, t.above)) a) l);
        sheet = λ l. refl;
        message = λ l. absurd (omega (arith, t.above));
        sheet_fits = omega arith;
        message_fits = fitting_fits _;
      }
  ended_answered ws ds (too_deep n) h = bare_answered 9 n (inl (omega arith)) (λ l. absurd (⊎_elim (λ a. omega arith) (λ a. ⊎_elim (λ b. omega arith) (λ b. omega arith) a) l))

  walk_answered : (setting : Setting) (bs : List ℕ) → Answered sheet_room message_room (walk_answer setting bs sheet_room message_room)
  unfolding walk_answer walked
  walk_answered setting bs = ended_answered (names_of bs) (nodes_of bs) _ (λ r s e. refused_typing (names_of bs) setting _ r s e)

  early_answered : (f : Fault) → Early f → Answered sheet_room message_room (bare f.code f.place)
  early_answered f t =
      bare_answered f.code f.place (⊎_elim (λ l. inl (omega arith)) (λ e. inr (inr e)) t.below)
      (λ l. ⊎_elim (λ e. t.nowhere e)
      (λ a. absurd (⊎_elim (λ e. ⊎_elim (λ u. omega arith) (λ u. omega arith) t.below) (λ e. ⊎_elim (λ u. omega arith) (λ u. omega arith) t.below) a)) l)

  fault_answered : (o : Option Fault) (setting : Setting) (bs : List ℕ) → ((f : Fault) → o ≡ some f → Early f)
      → Answered sheet_room message_room (unless_fault o setting bs sheet_room message_room)
  unfolding unless_fault if_some
  fault_answered none setting bs t = walk_answered setting bs
  fault_answered (some f) setting bs t = early_answered f (t f refl)

  under_answered : (setting : Setting) (bs : List ℕ) → Answered sheet_room message_room (answer_under setting bs sheet_room message_room)
  unfolding answer_under
  under_answered setting bs = fault_answered (check_fault bs) setting bs (λ f e. check_told bs f e)

  chosen_answered : (o : Option Setting) (bs : List ℕ)
      → Answered sheet_room message_room (if_some o (λ setting. answer_under setting bs sheet_room message_room) (bare 13 0))
  unfolding if_some
  chosen_answered none bs = bare_answered 13 0 (inr (inl refl)) (λ l. refl)
  chosen_answered (some setting) bs = under_answered setting bs

  pub answered : (n : ℕ) (bs : List ℕ) → Answered sheet_room message_room (answer n bs sheet_room message_room)
  unfolding answer
  answered n bs = chosen_answered (setting_of n) bs

-- ---- the setting: 0 is plain, 1 is strict, and "a setting other than the two gives 13, before code 1"

module _ (bs : List ℕ) (sheet_room message_room : ℕ) where
  pub plain_is : answer 0 bs sheet_room message_room ≡ answer_under plain bs sheet_room message_room
  unfolding answer setting_of choose if_some test◌then◌else◌
  plain_is = refl

  pub strict_is : answer 1 bs sheet_room message_room ≡ answer_under strict bs sheet_room message_room
  unfolding answer setting_of choose if_some test◌then◌else◌
  strict_is = refl

  pub no_setting : (n : ℕ) → 2 ≤ n → answer n bs sheet_room message_room ≡ bare 13 0
  unfolding answer setting_of choose if_some test◌then◌else◌
  no_setting n h = rw (ne_eqb n 0 (λ e. omega (arith, e)), ne_eqb n 1 (λ e. omega (arith, e)))

-- ---- the order of the codes: 13, then 1 to 8, then 14, then what the walk says, 10 last

module _ (setting : Setting) (bs : List ℕ) (sheet_room message_room : ℕ) where
  pub fault_first : (f : Fault) → image_fault bs ≡ some f → answer_under setting bs sheet_room message_room ≡ bare f.code f.place
  unfolding answer_under unless_fault if_some
  fault_first f e = rw (fault_early bs f e)

  -- "after code 8 and before 9 and all typing codes": whatever the walk would say, and wherever the TreeSet stands
  pub tree_set_next : (i : ℕ) → Sound bs → first_tree_set bs ≡ some i → answer_under setting bs sheet_room message_room ≡ bare 14 i
  unfolding answer_under unless_fault if_some
  tree_set_next i s e = rw (fault_14 s e)

  pub walk_last : Sound bs → first_tree_set bs ≡ none → answer_under setting bs sheet_room message_room ≡ walk_answer setting bs sheet_room message_room
  unfolding answer_under unless_fault if_some
  walk_last s e = rw (no_check_fault s e)

  former_fault : (f : Fault) → image_fault bs ≡ some f → former_under setting bs sheet_room message_room ≡ bare f.code f.place
  unfolding former_under unless_fault if_some
  former_fault f e = rw e

  former_walk : Sound bs → former_under setting bs sheet_room message_room ≡ walk_answer setting bs sheet_room message_room
  unfolding former_under unless_fault if_some
  former_walk s = rw ((sound bs).1 s)

  -- an image without TreeSets has the answer that it had
  pub under_former : first_tree_set bs ≡ none → answer_under setting bs sheet_room message_room ≡ former_under setting bs sheet_room message_room
  under_former t = by (image_fault bs) refl
    where
      by : (o : Option Fault) → image_fault bs ≡ o → answer_under setting bs sheet_room message_room ≡ former_under setting bs sheet_room message_room
      by none e = walk_last ((sound bs).0 e) t ∙ sym (former_walk ((sound bs).0 e))
      by (some f) e = fault_first f e ∙ sym (former_fault f e)

module _ (n : ℕ) (bs : List ℕ) (sheet_room message_room : ℕ) where
  pub as_former : first_tree_set bs ≡ none → answer n bs sheet_room message_room ≡ former_answer n bs sheet_room message_room
  unfolding answer former_answer if_some
  as_former t = by (setting_of n)
    where
      by : (o : Option Setting) → if_some o (λ setting. answer_under setting bs sheet_room message_room) (bare 13 0)
          ≡ if_some o (λ setting. former_under setting bs sheet_room message_room) (bare 13 0)
      by none = refl
      by (some setting) = under_former setting bs sheet_room message_room t

-- Accepted, with a sheet that fits (0) or does not (10): nothing was found before the walk, and the walk ended well. So 10 is the last of all.
module _ (bs : List ℕ) (sheet_room message_room : ℕ) (setting : Setting) where
  ended_well : (e : End) → walked setting bs ≡ e → let a : Answer = ended (names_of bs) (nodes_of bs) sheet_room message_room e in
      (a.code ≡ 0) ⊎ (a.code ≡ 10) → (s : State) × (walked setting bs ≡ done s)
  unfolding ended walked
  ended_well (done s) w c = (s, w)
  ended_well (wrong r s) w c =
      let t = (refused_typing (names_of bs) setting _ r s w).above in absurd (⊎_elim (λ z. omega (arith, t)) (λ z. omega (arith, t)) c)
  ended_well (too_deep n) w c = absurd (⊎_elim (λ z. omega arith) (λ z. omega arith) c)

  fault_well : (o : Option Fault) → check_fault bs ≡ o → let a : Answer = unless_fault o setting bs sheet_room message_room in
      (a.code ≡ 0) ⊎ (a.code ≡ 10) → Sound bs × (first_tree_set bs ≡ none) × ((s : State) × (walked setting bs ≡ done s))
  unfolding unless_fault walk_answer if_some
  fault_well none e c = let w = (walks bs).0 e in (w.0, w.1, ended_well (walked setting bs) refl c)
  fault_well (some f) e c =
      let t = check_told bs f e in
      absurd (⊎_elim (λ z. omega (arith, t.above)) (λ z. ⊎_elim (λ l. omega arith) (λ l. omega arith) t.below) c)

  pub accepted_last : let a : Answer = answer_under setting bs sheet_room message_room in
      (a.code ≡ 0) ⊎ (a.code ≡ 10) → Sound bs × (first_tree_set bs ≡ none) × ((s : State) × (walked setting bs ≡ done s))
  unfolding answer_under
  accepted_last = fault_well (check_fault bs) refl

-- 14 is given for nothing else: the image is well formed, and the place is that of its first TreeSet
module _ (bs : List ℕ) (sheet_room message_room : ℕ) where
  Fourteen : Answer → Type 0
  Fourteen a = a.code ≡ 14 → Sound bs × (first_tree_set bs ≡ some a.place)

  written_fourteen : (xs : List ℕ) → Fourteen (written sheet_room xs)
  unfolding Fourteen written test◌then◌else◌
  written_fourteen xs = by (leb (length xs) sheet_room)
    where
      full : Answer
      full = record { code = 0; place = 0; span_start = 0; span_end = 0; second_start = 0; second_end = 0; sheet = xs; message = [] }

      by : (q : Bool) → Fourteen (test q then full else bare 10 0)
      by true c = absurd (omega arith)
      by false c = absurd (omega arith)

  ended_fourteen : (ws : List Name) (ds : List Node) (e : End) → ((r : Refusal) (s : State) → e ≡ wrong r s → Typing r)
      → Fourteen (ended ws ds sheet_room message_room e)
  unfolding Fourteen ended
  ended_fourteen ws ds (done s) h = written_fourteen _
  ended_fourteen ws ds (wrong r s) h = λ c. absurd (omega (arith, (h r s refl).above))
  ended_fourteen ws ds (too_deep m) h = λ c. absurd (omega arith)

  fault_fourteen : (setting : Setting) (o : Option Fault) → check_fault bs ≡ o → Fourteen (unless_fault o setting bs sheet_room message_room)
  unfolding Fourteen unless_fault walk_answer walked if_some
  fault_fourteen setting none e = ended_fourteen (names_of bs) (nodes_of bs) _ (λ r s w. refused_typing (names_of bs) setting _ r s w)
  fault_fourteen setting (some f) e =
      λ c. ⊎_elim (λ i. absurd (omega (arith, c, (fault_told bs f i).below))) (λ t. (t.1, t.2)) (check_found bs f e)

  chosen_fourteen : (o : Option Setting) → Fourteen (if_some o (λ setting. answer_under setting bs sheet_room message_room) (bare 13 0))
  unfolding Fourteen answer_under if_some
  chosen_fourteen none = λ c. absurd (omega arith)
  chosen_fourteen (some setting) = fault_fourteen setting (check_fault bs) refl

  pub only_tree_sets : (n : ℕ) → (answer n bs sheet_room message_room).code ≡ 14 → Sound bs × (first_tree_set bs ≡ some (answer n bs sheet_room message_room).place)
  unfolding Fourteen answer
  only_tree_sets n = chosen_fourteen (setting_of n)

-- ---- the sheet's reader and writer

-- "writing what it read gives the same bytes"
pub write_read : (bs : List ℕ) (es : List Entry) (room : ℕ) → read_sheet bs ≡ some es → write_answer es room ≡ written room bs
unfolding write_answer
write_read bs es room e = ap (written room) (sym ((read_some bs es).0 e).written)

-- it takes every sheet, and 12 is for anything else
pub read_code : (bs : List ℕ) → (read_answer bs ≡ bare 0 0) ⊎ (read_answer bs ≡ bare 12 0)
unfolding read_answer if_some
read_code bs = by (read_sheet bs)
  where
    by : (o : Option (List Entry)) → (if_some o (λ es. bare 0 0) (bare 12 0) ≡ bare 0 0) ⊎ (if_some o (λ es. bare 0 0) (bare 12 0) ≡ bare 12 0)
    by none = inr refl
    by (some es) = inl refl

-- ---- the buffers

pub overlaid_length : (bs old : List ℕ) → length bs ≤ length old → length (overlaid bs old) ≡ length old
unfolding overlaid
overlaid_length bs old h = omega (arith, length-append bs (drop (length bs) old), length-drop (length bs) old)

pub overlaid_front : (bs old : List ℕ) → take (length bs) (overlaid bs old) ≡ bs
unfolding overlaid
overlaid_front bs old = take-append_seam bs _

pub overlaid_none : (old : List ℕ) → overlaid [] old ≡ old
unfolding overlaid
overlaid_none old = refl
