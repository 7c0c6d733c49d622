-- What `check` promises, from the ends of its parts; and that no second outcome fits.
use mathlib.Core.Path.{◌≡◌, refl, sym, ap, ◌∙◌}
use mathlib.Core.Bool.{true, false}
use mathlib.Core.List.{List, [], ◌∷◌}
use mathlib.Core.Option.{none, some}
use Prim.Native.Nat.{ℕ, ◌≤◌, ◌<◌}
use native.Mathlib.Omega.{arith}
use borrow.Author.Tests.{ne_eqb}
use lib.Dec.{eqb}
use lib.ListN.{length}
use Rattle.std.specs.Prelude.{Result, Ok, Err}
use Rattle.meaning.specs.Base.{choose, test◌then◌else◌, all}
use Rattle.meaning.specs.Image.{image_fault, first_tree_set, nodes_from}
use Rattle.meaning.specs.Frames.{newest}
use Rattle.meaning.specs.Sheet.{sheet_of, within_limits}
use Rattle.meaning.specs.Walk.{Setting}
use Rattle.meaning.specs.Answer.{Answer as Meant, bare, written, walk_answer, answer_under, answer, overlaid}
use Rattle.meaning.proofs.Faults.{Sound, sizes, fault_told}
use Rattle.meaning.proofs.Listed.{listing_of}
use Rattle.meaning.proofs.Answers.{overlaid_none, plain_is, strict_is, no_setting, fault_first, tree_set_next, walk_last}
use Rattle.types.specs.Table.{Tab}
use Rattle.frames.specs.Env.{Rows, frames_of}
use Rattle.state.specs.Notes.{code_in, Places, places_in}
use Rattle.state.specs.declared.Notes.{Notes}
use Rattle.stmt.specs.Contract.{Ran}
use Rattle.image.specs.Outcome.{fault_in}
use Rattle.image.specs.declared.Fault.{Fault}
use Rattle.image.specs.declared.Fault.TheVariants.{BadHead, BadCount, BadOffset, BadName, UnsafeName, BadNode, BadNesting, TooDeep}
use Rattle.checker.specs.Answers.{Answer, setting_meant, SettingOf, Answers, Wrote, Told, Numbers, bare_numbers, numbers_of, Stands, Replies, reply_means}
use Rattle.checker.specs.Steps.{Accepting, Refusing, second_place, refused_as}
use Rattle.checker.specs.declared.Reply.{Reply}
use Rattle.checker.specs.declared.Setting.{Setting as Chosen}
use Rattle.checker.specs.declared.Setting.TheVariants.{Plain, Strict}
use Rattle.checker.specs.declared.Refused.{Refused}
use Rattle.checker.specs.declared.Refused.TheVariants.{Faulty, NinthFrame, ShortBuffer, NoSetting, Retired, Typing}
use Rattle.checker.proofs.Places.{fault_near, tree_set_near}
use Rattle.checker.proofs.Limited.{sheet_within}
use Rattle.checker.proofs.Readable.{message_legible}
use Rattle.checker.proofs.Written.{no_message, no_place, written_roomy, written_form}
use Rattle.checker.proofs.Ends.{newest_row, ran_well, ran_deep, ran_ill, ran_typing, ran_near}

-- a buffer that nothing was written to
kept : (m : List ℕ) → m ≡ overlaid [] m
kept m = sym (overlaid_none m)

-- a code alone leaves both buffers
bare_replies : (c p : ℕ) {n : Numbers} (s m : List ℕ) → n ≡ bare_numbers c p → p < 4294967296 → 1 ≤ c → (c ≡ 10 → ⊥) → Replies (bare c p) n s s m m
unfolding all
bare_replies c p s m e h l z = record {
  numbers = e;
  near = h;
  roomy = λ r t. z t;
  form = λ t. absurd (omega (arith, t, l));
  legible = refl;
  sheet = kept s;
  message = kept m;
}

-- what comes of an image under one of the two settings: the image's fault, or its first TreeSet, or what the walk says
module _ (setting : Setting) (bs : List ℕ) (x y : ℕ) where
  answers_fault : (f : Fault) {s m : List ℕ} → some (fault_in f) ≡ image_fault bs → Answers (answer_under setting bs x y) (Err (Faulty f)) s s m m
  answers_fault f {s} {m} e =
      let k = fault_told bs (fault_in f) (sym e) in
      rw (fault_first setting bs x y (fault_in f) (sym e)) record {
        replies = bare_replies (fault_in f).code (fault_in f).place s m refl (fault_near bs (fault_in f) (sym e)) k.above (λ t. omega (arith, t, k.below));
        stands = tt;
      }

  answers_retired : (i : ℕ) {s m : List ℕ} → Sound bs → some i ≡ first_tree_set bs → Answers (answer_under setting bs x y) (Err (Retired i)) s s m m
  answers_retired i {s} {m} h e =
      rw (tree_set_next setting bs x y i h (sym e))
      record { replies = bare_replies 14 i s m refl (tree_set_near bs h.headed i (sym e)) (omega arith) (λ t. omega (arith, t)); stands = tt }

  answers_walked : {q : Answer} {s s₁ m m₁ : List ℕ} → Sound bs → none ≡ first_tree_set bs
      → Answers (walk_answer setting bs x y) q s s₁ m m₁ → Answers (answer_under setting bs x y) q s s₁ m m₁
  answers_walked h e a = rw (walk_last setting bs x y h (sym e)) a

module _ {bs : List ℕ} {setting : Setting} {t u : Tab} {gs : Rows} {top code a b : ℕ} {place : Places} (h : Sound bs)
    (r : Ran bs setting t u gs top code place a b) where
  pub ran_accepting : t.m ≡ 0 → code ≡ 0 → Accepting bs u gs top
  ran_accepting m z =
      let l = r.left (λ n. absurd (omega arith)) in
      record {
        sound = h;
        wf = l.grown.wf;
        fit = l.fit;
        few = omega (arith, l.elements_spent, m, (sizes h.headed).nodes);
      }

  pub answers_accepted : {q : Answer} {old new m : List ℕ} → t.m ≡ 0 → code ≡ 0
      → Wrote (written (length old) (sheet_of (listing_of bs (newest (frames_of u gs top))))) q old new → Answers (walk_answer setting bs (length old) (length m)) q old new m m
  unfolding all
  answers_accepted {q} {old} {new} {m} k z w =
      let es = listing_of bs (newest (frames_of u gs top)) in
      let a = ran_accepting k z in
      let l : within_limits es ≡ true = rw (newest_row u gs top) (sheet_within a.sound a.wf a.fit a.few) in
      rw (ran_well r z (length old) (length m)) record {
        replies = record {
          numbers = w.numbers;
          near = rw (no_place (length old) (sheet_of es)) (omega arith);
          roomy = written_roomy (length old) es l;
          form = written_form (length old) es l;
          legible = rw (no_message (length old) (sheet_of es)) refl;
          sheet = w.sheet;
          message = rw (no_message (length old) (sheet_of es)) (kept m);
        };
        stands = w.stands;
      }

  pub answers_deep : (x y : ℕ) {s m : List ℕ} → code ≡ 9 → Answers (walk_answer setting bs x y) (Err (NinthFrame place.here)) s s m m
  answers_deep x y {s} {m} n =
      rw (ran_deep r n x y) record {
        replies = bare_replies 9 place.here s m refl (omega (arith, (r.deep n).placed, (sizes h.headed).nodes)) (omega arith) (λ t. omega (arith, t));
        stands = tt;
      }

module _ {bs : List ℕ} {setting : Setting} {t u : Tab} {gs : Rows} {top : ℕ} (ns : Notes) (h : Sound bs)
    (r : Ran bs setting t u gs top (code_in ns) (places_in ns) ns.first ns.second) (z : (code_in ns) ≡ 0 → ⊥) (n : (code_in ns) ≡ 9 → ⊥) where
  pub ran_refusing : {nodes : ℕ} → nodes ≡ nodes_from bs → Refusing bs nodes u ns
  ran_refusing e = record {
    sound = h;
    nodes_at = e;
    wf = (r.left n).grown.wf;
    named = r.named n;
    near = ran_near ns h r z n;
    typing = ran_typing ns h r z n;
  }

  pub answers_refused : (x : ℕ) {q : Answer} {s old new : List ℕ} → Told (refused_as bs u ns (length old)) q old new
      → Answers (walk_answer setting bs x (length old)) q s s old new
  unfolding refused_as
  answers_refused x {q} {s} {old} {new} w =
      let k = ran_typing ns h r z n in
      rw (ran_ill ns h r z n x (length old)) record {
        replies = record {
          numbers = w.numbers;
          near = omega (arith, (r.named n).placed z, (sizes h.headed).nodes);
          roomy = λ l t. omega (arith, t, k.0);
          form = λ t. absurd (omega (arith, t, k.0));
          legible = message_legible h u (code_in ns) ns.place (second_place ns) ns.first ns.second (length old);
          sheet = kept s;
          message = w.message;
        };
        stands = w.stands;
      }

-- ---- the whole, by the setting's number: "before code 1", whatever the image, one that is none of the two

module _ (n : ℕ) (bs : List ℕ) (x y : ℕ) where
  chosen : (c : Chosen) → SettingOf n (Ok c) → answer n bs x y ≡ answer_under (setting_meant c) bs x y
  chosen Plain e = rw e (plain_is bs x y)
  chosen Strict e = rw e (strict_is bs x y)

  pub check_none : {s m : List ℕ} (r : Refused) → SettingOf n (Err r) → Answers (answer n bs x y) (Err r) s s m m
  check_none {s} {m} r e =
      rw (e.0, no_setting bs x y n e.1)
      record { replies = bare_replies 13 0 s m refl (omega arith) (omega arith) (λ t. omega (arith, t)); stands = tt }

  module _ (c : Chosen) (k : SettingOf n (Ok c)) where
    pub check_fault : (f : Fault) {s m : List ℕ} → some (fault_in f) ≡ image_fault bs → Answers (answer n bs x y) (Err (Faulty f)) s s m m
    check_fault f e = rw (chosen c k) (answers_fault (setting_meant c) bs x y f e)

    pub check_retired : (i : ℕ) {s m : List ℕ} → Sound bs → some i ≡ first_tree_set bs → Answers (answer n bs x y) (Err (Retired i)) s s m m
    check_retired i h e = rw (chosen c k) (answers_retired (setting_meant c) bs x y i h e)

    pub check_walked : {q : Answer} {s s₁ m m₁ : List ℕ} → Sound bs → none ≡ first_tree_set bs
        → Answers (walk_answer (setting_meant c) bs x y) q s s₁ m m₁ → Answers (answer n bs x y) q s s₁ m m₁
    check_walked h e a = rw (chosen c k) (answers_walked (setting_meant c) bs x y h e a)

-- ---- no second outcome fits

-- the answer that has these numbers
unfoldable answer_from : Numbers → Answer
answer_from n =
    choose n.code
    (Err (Typing (record { code = n.code; place = n.place; begins = n.span_start; ends = n.span_end; second_begins = n.second_start; second_ends = n.second_end; message = n.message })))
    ((0, Ok n.sheet) ∷ (1, Err (Faulty BadHead)) ∷ (2, Err (Faulty BadCount)) ∷ (3, Err (Faulty BadOffset)) ∷ (4, Err (Faulty (BadName n.place)))
    ∷ (5, Err (Faulty (UnsafeName n.place))) ∷ (6, Err (Faulty (BadNode n.place))) ∷ (7, Err (Faulty (BadNesting n.place))) ∷ (8, Err (Faulty (TooDeep n.place)))
    ∷ (9, Err (NinthFrame n.place)) ∷ (10, Err ShortBuffer) ∷ (13, Err NoSetting) ∷ (14, Err (Retired n.place)) ∷ [])

not_below : (c k : ℕ) → 20 ≤ c → k ≤ 14 → eqb c k ≡ false
not_below c k h l = ne_eqb c k (λ e. absurd (omega arith))

answer_back : (r : Answer) → Stands r → answer_from (numbers_of r) ≡ r
unfolding answer_from choose test◌then◌else◌
answer_back (Ok n) s = refl
answer_back (Err (Faulty BadHead)) s = refl
answer_back (Err (Faulty BadCount)) s = refl
answer_back (Err (Faulty BadOffset)) s = refl
answer_back (Err (Faulty (BadName i))) s = refl
answer_back (Err (Faulty (UnsafeName i))) s = refl
answer_back (Err (Faulty (BadNode i))) s = refl
answer_back (Err (Faulty (BadNesting i))) s = refl
answer_back (Err (Faulty (TooDeep i))) s = refl
answer_back (Err (NinthFrame i)) s = refl
answer_back (Err ShortBuffer) s = refl
answer_back (Err NoSetting) s = refl
answer_back (Err (Retired i)) s = refl
answer_back (Err (Typing q)) s =
    let n : (k : ℕ) → k ≤ 14 → eqb q.code k ≡ false = λ k l. not_below q.code k s.0 l in
    rw (
      n 0 (omega arith),
      n 1 (omega arith),
      n 2 (omega arith),
      n 3 (omega arith),
      n 4 (omega arith),
      n 5 (omega arith),
      n 6 (omega arith),
      n 7 (omega arith),
      n 8 (omega arith),
      n 9 (omega arith),
      n 10 (omega arith),
      n 13 (omega arith),
      n 14 (omega arith),
    )

-- answers with the same numbers are equal
pub same_answer : (r q : Answer) → Stands r → Stands q → numbers_of r ≡ numbers_of q → r ≡ q
same_answer r q s t e = sym (answer_back r s) ∙ ap answer_from e ∙ answer_back q t

abbrev reply_from : Numbers → Reply
reply_from n =
    record {
      code = n.code;
      span_start = n.span_start;
      span_end = n.span_end;
      second_start = n.second_start;
      second_end = n.second_end;
      place = n.place;
      sheet_length = n.sheet;
      message_length = n.message;
    }

-- and so are C's
pub same_reply : (r q : Reply) → reply_means r ≡ reply_means q → r ≡ q
same_reply r q e = ap reply_from e

-- the numbers and the bytes leave no choice
pub one_told : {a : Meant} {n k : Numbers} {s s₁ s₂ m m₁ m₂ : List ℕ} → Replies a n s s₁ m m₁ → Replies a k s s₂ m m₂ → (n ≡ k) × (s₁ ≡ s₂) × (m₁ ≡ m₂)
one_told x y = (x.numbers ∙ sym y.numbers, x.sheet ∙ sym y.sheet, x.message ∙ sym y.message)

-- two outcomes that both meet the promise of `check` are equal, answer and bytes
pub one_outcome : (a : Meant) {r q : Answer} {s s₁ s₂ m m₁ m₂ : List ℕ} → Answers a r s s₁ m m₁ → Answers a q s s₂ m m₂ → (r ≡ q) × (s₁ ≡ s₂) × (m₁ ≡ m₂)
one_outcome a {r} {q} x y = let o = one_told x.replies y.replies in (same_answer r q x.stands y.stands o.0, o.1, o.2)

-- ---- for other languages

pub replies : {a : Meant} {n k : Numbers} {s s₁ m m₁ : List ℕ} → n ≡ k → Replies a k s s₁ m m₁ → Replies a n s s₁ m m₁
replies e x = record { numbers = e ∙ x.numbers; near = x.near; roomy = x.roomy; form = x.form; legible = x.legible; sheet = x.sheet; message = x.message }

-- the same of `cablebirch_check`: every field and every byte
pub one_reply : (a : Meant) (r q : Reply) {s s₁ s₂ m m₁ m₂ : List ℕ} → Replies a (reply_means r) s s₁ m m₁ → Replies a (reply_means q) s s₂ m m₂
    → (r ≡ q) × (s₁ ≡ s₂) × (m₁ ≡ m₂)
one_reply a r q x y = let o = one_told x y in (same_reply r q o.0, o.1, o.2)
