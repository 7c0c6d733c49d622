-- The line of an image, from what the check left in the buffers. Assumes nothing.
use mathlib.Core.Path.{◌≡◌, refl, sym, ap, ◌∙◌}
use mathlib.Core.Bool.{Bool, true, false}
use mathlib.Core.List.{List, []}
use mathlib.Core.Option.{Option, none, some}
use Prim.Native.Nat.{ℕ, ◌+◌, ◌≤◌, ◌<◌}
use native.Mathlib.Omega.{arith}
use lib.Dec.{leb}
use lib.ListN.{length, take, drop, length-append}
use lib.Seq.{length-take-le}
use Rattle.meaning.specs.Base.{test◌then◌else◌, if_some}
use Rattle.meaning.specs.Image.{Fault, Name, Node, check_fault, names_of, nodes_of}
use Rattle.meaning.specs.Decode.{tree_of}
use Rattle.meaning.specs.Sheet.{listing, sheet_of}
use Rattle.meaning.specs.Frames.{newest}
use Rattle.meaning.specs.Message.{Refusal}
use Rattle.meaning.specs.Walk.{Setting, State, End, done, wrong, too_deep}
use Rattle.meaning.specs.Answer.{Answer, bare, written, ended, walked, walk_answer, unless_fault, answer_under, setting_of, answer, overlaid}
use Rattle.meaning.specs.Line.{refused_line, line_of}
use Rattle.meaning.proofs.Faults.{check_told}
use Rattle.meaning.proofs.Kept.{refused_typing}
use Rattle.meaning.proofs.Answers.{overlaid_length, overlaid_front}
use Rattle.meaning.proofs.Answers.{answered as bounds}
use Rattle.meaning.proofs.SheetForm.{sheet_size}
use Rattle.line.specs.Printing.{Printable, answered, Fronted, Lined, SecondTold}
use Rattle.checker.specs.Answers.{Numbers, Replies}
use Rattle.checker.proofs.Demand.{reply_short}

-- ---- an accepted program's sheet has a header

pub record Header (a : Answer) : Type 0 where
  pub forty : a.code ≡ 0 → 40 ≤ length a.sheet

pub bare_header : (c n : ℕ) → 1 ≤ c → Header (bare c n)
bare_header c n h = record { forty = λ e. absurd (omega arith) }

pub written_header : (room : ℕ) (bs : List ℕ) → 40 ≤ length bs → Header (written room bs)
unfolding written test◌then◌else◌
written_header room bs h = by (leb (length bs) room)
  where
    by : (b : Bool) → Header (test b then record { code = 0; place = 0; span_start = 0; span_end = 0; second_start = 0; second_end = 0; sheet = bs; message = [] } else bare 10 0)
    by true = record { forty = λ e. h }
    by false = bare_header 10 0 (omega arith)

ended_header : (ws : List Name) (ds : List Node) (x y : ℕ) (e : End) → ((r : Refusal) (s : State) → e ≡ wrong r s → 20 ≤ r.code) → Header (ended ws ds x y e)
unfolding ended
ended_header ws ds x y (done s) h = let es = listing ws (tree_of ds) (newest s.frames) in written_header x (sheet_of es) (omega (arith, sheet_size es))
ended_header ws ds x y (wrong r s) h = let k = h r s refl in record { forty = λ e. absurd (omega arith) }
ended_header ws ds x y (too_deep n) h = bare_header 9 n (omega arith)

fault_header : (o : Option Fault) (a : Answer) → ((f : Fault) → o ≡ some f → 1 ≤ f.code) → Header a → Header (if_some o (λ f. bare f.code f.place) a)
unfolding if_some
fault_header none a h g = g
fault_header (some f) a h g = bare_header f.code f.place (h f refl)

chosen_header : (o : Option Setting) (bs : List ℕ) (x y : ℕ) → Header (if_some o (λ setting. answer_under setting bs x y) (bare 13 0))
unfolding if_some answer_under unless_fault walk_answer walked
chosen_header none bs x y = bare_header 13 0 (omega arith)
chosen_header (some setting) bs x y =
    fault_header (check_fault bs) _ (λ f e. (check_told bs f e).above)
    (ended_header (names_of bs) (nodes_of bs) x y _ (λ r s e. (refused_typing (names_of bs) setting _ r s e).above))

answer_header : (setting : ℕ) (bs : List ℕ) (x y : ℕ) → Header (answer setting bs x y)
unfolding answer
answer_header setting bs x y = chosen_header (setting_of setting) bs x y

-- what was laid over a buffer without making it longer lies inside
pub within : (old : List ℕ) {new : List ℕ} {size : ℕ} (w : List ℕ) → new ≡ overlaid w old → size ≡ length w → length new ≡ length old → size ≤ length old
unfolding overlaid
within old {new} {size} w e f kept =
    let long : length new ≡ length w + length (drop (length w) old) = ap length e ∙ length-append w (drop (length w) old) in
    omega (arith, long, f, kept)

pub fronted : (old : List ℕ) {new : List ℕ} {size : ℕ} (w : List ℕ) → new ≡ overlaid w old → size ≡ length w → length new ≡ length old → Fronted w old new size
fronted old w e f kept = record { line = e; ends = f; long = kept; inside = omega (arith, kept, within old w e f kept) }

-- the line tells no second span
line_only : (a : Answer) → line_of (answered a.code a.place a.span_start a.span_end a.sheet a.message) ≡ line_of a
unfolding line_of refused_line
line_only a = refl

-- ---- the buffers

module _ (setting : ℕ) (bs : List ℕ) {n : Numbers} (s s₁ m m₁ : List ℕ) (r : Replies (answer setting bs (length s) (length m)) n s s₁ m m₁) where
  long_s : length s₁ ≡ length s
  long_s = ap length r.sheet ∙ overlaid_length _ s (bounds (length s) (length m) setting bs).sheet_fits

  long_m : length m₁ ≡ length m
  long_m = ap length r.message ∙ overlaid_length _ m (bounds (length s) (length m) setting bs).message_fits

  code_is : n.code ≡ (answer setting bs (length s) (length m)).code
  code_is = ap (λ k. k.code) r.numbers

  size_is : n.sheet ≡ length (answer setting bs (length s) (length m)).sheet
  size_is = ap (λ k. k.sheet) r.numbers

  message_is : n.message ≡ length (answer setting bs (length s) (length m)).message
  message_is = ap (λ k. k.message) r.numbers

  pub place_near : n.place < 4294967296
  place_near = rw (ap (λ k. k.place) r.numbers) r.near

  pub sheet_in : n.sheet ≤ length s₁
  sheet_in = omega (arith, size_is, long_s, (bounds (length s) (length m) setting bs).sheet_fits)

  pub message_in : n.message ≤ length m₁
  message_in = omega (arith, message_is, long_m, (bounds (length s) (length m) setting bs).message_fits)

  sheet_part : take n.sheet s₁ ≡ (answer setting bs (length s) (length m)).sheet
  sheet_part = rw (size_is, r.sheet) (overlaid_front _ s)

  message_part : take n.message m₁ ≡ (answer setting bs (length s) (length m)).message
  message_part = rw (message_is, r.message) (overlaid_front _ m)

  has_header : n.code ≡ 0 → 40 ≤ length (answer setting bs (length s) (length m)).sheet
  has_header z = (answer_header setting bs (length s) (length m)).forty (sym code_is ∙ z)

  short_sheet : length (answer setting bs (length s) (length m)).sheet < 4294967296
  short_sheet = reply_short setting bs (length s) (length m) r

  pub printable : {out : List ℕ} → 64 + length m ≤ length out → Printable n.code (take n.sheet s₁) (take n.message m₁) out
  printable room =
      let q = length-take-le n.sheet s₁ sheet_in in
      let t = length-take-le n.message m₁ message_in in
      record {
        headed = λ z. omega (arith, q, size_is, has_header z);
        short = omega (arith, q, size_is, short_sheet);
        room = omega (arith, t, message_in, long_m, room);
      }

  pub lined : {old new : List ℕ} {size p : ℕ} → p ≡ n.place
      → (new ≡ overlaid (line_of (answered n.code p n.span_start n.span_end (take n.sheet s₁) (take n.message m₁))) old)
      × (size ≡ length (line_of (answered n.code p n.span_start n.span_end (take n.sheet s₁) (take n.message m₁))))
      → length new ≡ length old
      → Lined (answer setting bs (length s) (length m)) old new s s₁ m m₁ size n.code n.sheet
  lined {old} {new} {size} {p} e w kept =
      let l : line_of (answered n.code p n.span_start n.span_end (take n.sheet s₁) (take n.message m₁)) ≡ line_of (answer setting bs (length s) (length m)) =
      rw (e, sheet_part, message_part, r.numbers) (line_only (answer setting bs (length s) (length m))) in
      record {
        front = fronted old (line_of (answer setting bs (length s) (length m))) (w.0 ∙ rw l) (w.1 ∙ ap length l) kept;
        sheet = r.sheet;
        message = r.message;
        told = code_is;
        counted = size_is;
        roomy = r.roomy;
      }

  pub line_short : {r : ℕ} → r ≤ 64 + length (take n.message m₁) → r ≤ 64 + length m
  line_short h = omega (arith, h, length-take-le n.message m₁ message_in, message_in, long_m)

  pub seconds : SecondTold (answer setting bs (length s) (length m)) n.second_start n.second_end
  seconds = record { from = ap (λ k. k.second_start) r.numbers; to = ap (λ k. k.second_end) r.numbers }
