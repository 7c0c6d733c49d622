-- What comes back: "Code, place, span, sheet length, message length", and the second span of "point at the first place too".
use Rattle.std.specs.Prelude.{List, [], ◌∷◌, ◌++◌, ℕ, leb, length, drop}
use Rattle.std.proofs.Math.Option.{Option, none, some}
use Rattle.meaning.specs.Base.{test◌then◌else◌, choose, if_some, base_open}
use Rattle.meaning.specs.Types.{types_open}
use Rattle.meaning.specs.Tree.{tree_open}
use Rattle.meaning.specs.Bound.{bound_open}
use Rattle.meaning.specs.Image.{Fault, image_fault, check_fault, names_of, nodes_of, Name, Node, node_of, image_open}
use Rattle.meaning.specs.Decode.{tree_of, decode_open}
use Rattle.meaning.specs.Message.{message, message_open}
use Rattle.meaning.specs.Frames.{newest, frames_open}
use Rattle.meaning.specs.Operators.{operators_open}
use Rattle.meaning.specs.Rules.{rules_open}
use Rattle.meaning.specs.Walk.{Setting, plain, strict, End, done, wrong, too_deep, program, start, walk_open}
use Rattle.meaning.specs.Sheet.{Entry, sheet_of, listing, sheet_open}
use Rattle.meaning.specs.Read.{read_sheet, read_open}

-- sheet and message are what is written at the front of the two buffers
pub record Answer : Type 0 where
  pub code : ℕ
  pub place : ℕ
  pub span_start : ℕ
  pub span_end : ℕ
  pub second_start : ℕ
  pub second_end : ℕ
  pub sheet : List ℕ
  pub message : List ℕ

-- "Codes outside 20..50 have span 0,0"; "every other code has sheet length 0"
abbrev pub bare : ℕ → ℕ → Answer
bare c n = record { code = c; place = n; span_start = 0; span_end = 0; second_start = 0; second_end = 0; sheet = []; message = [] }

-- "Code 0 writes the sheet"; 10: "accepted, but the sheet buffer is too short"
unfoldable pub written : ℕ → List ℕ → Answer
written room bs =
    test leb (length bs) room
    then record { code = 0; place = 0; span_start = 0; span_end = 0; second_start = 0; second_end = 0; sheet = bs; message = [] }
    else bare 10 0

-- "Codes 20..50 write the message at the front of the message buffer if it fits; if not, .. length is 0 and no byte changes."
unfoldable pub fitting : ℕ → List ℕ → List ℕ
fitting room bs = test leb (length bs) room then bs else []

-- how the walk ended, over the image's names and nodes. "Codes 25 and 23 answer with a second span .. ; every other code has 0,0 there."
unfoldable pub ended : List Name → List Node → ℕ → ℕ → End → Answer
ended ws ds sheet_room message_room (done s) = written sheet_room (sheet_of (listing ws (tree_of ds) (newest s.frames)))
ended ws ds sheet_room message_room (wrong r s) =
    record {
      code = r.code;
      place = r.node;
      span_start = (node_of ds r.node).span_start;
      span_end = (node_of ds r.node).span_end;
      second_start = if_some r.first (λ m. (node_of ds m).span_start) 0;
      second_end = if_some r.first (λ m. (node_of ds m).span_end) 0;
      sheet = [];
      message = fitting message_room (message r);
    }
ended ws ds sheet_room message_room (too_deep n) = bare 9 n

-- the walk over an image's program
unfoldable pub walked : Setting → List ℕ → End
walked setting bs = program (names_of bs) setting (tree_of (nodes_of bs)) start

-- what the walk answers: "9 and the typing codes come from one walk in program order", and so do 0 and 10
unfoldable pub walk_answer : Setting → List ℕ → ℕ → ℕ → Answer
walk_answer setting bs sheet_room message_room = ended (names_of bs) (nodes_of bs) sheet_room message_room (walked setting bs)

-- the same, unless something was found before it
unfoldable pub unless_fault : Option Fault → Setting → List ℕ → ℕ → ℕ → Answer
unless_fault fault setting bs sheet_room message_room =
    let sound : Answer = walk_answer setting bs sheet_room message_room in
    if_some fault (λ f. bare f.code f.place) sound

-- the answer for an image and the lengths of the sheet and message buffers
unfoldable pub answer_under : Setting → List ℕ → ℕ → ℕ → Answer
answer_under setting bs sheet_room message_room = unless_fault (check_fault bs) setting bs sheet_room message_room

-- "The caller chooses plain or strict", by a number
unfoldable pub setting_of : ℕ → Option Setting
setting_of n = choose n none ((0, some plain) ∷ (1, some strict) ∷ [])

-- "a setting other than the two gives 13, before code 1"
unfoldable pub answer : ℕ → List ℕ → ℕ → ℕ → Answer
answer n bs sheet_room message_room = if_some (setting_of n) (λ setting. answer_under setting bs sheet_room message_room) (bare 13 0)

-- "the answer the old one got before the retirement": the same two, for which a TreeSet was an expression like any other
unfoldable pub former_under : Setting → List ℕ → ℕ → ℕ → Answer
former_under setting bs sheet_room message_room = unless_fault (image_fault bs) setting bs sheet_room message_room

unfoldable pub former_answer : ℕ → List ℕ → ℕ → ℕ → Answer
former_answer n bs sheet_room message_room = if_some (setting_of n) (λ setting. former_under setting bs sheet_room message_room) (bare 13 0)

-- the reader's: "one refusal, 12, place 0, for anything else, with no buffer touched"
unfoldable pub read_answer : List ℕ → Answer
read_answer bs = if_some (read_sheet bs) (λ es. bare 0 0) (bare 12 0)

-- "Writing what was read into too short a buffer gives 10."
unfoldable pub write_answer : List Entry → ℕ → Answer
write_answer es room = written room (sheet_of es)

-- a buffer after that many bytes were written at its front: the rest is kept
unfoldable pub overlaid : List ℕ → List ℕ → List ℕ
overlaid bs old = bs ++ drop (length bs) old

-- to unfold this is to unfold every definition
unfoldable pub meaning_open : Unit {0}
unfolding base_open types_open tree_open bound_open image_open decode_open message_open frames_open operators_open rules_open walk_open sheet_open read_open written fitting ended walked walk_answer unless_fault answer_under setting_of answer former_under former_answer read_answer write_answer overlaid
meaning_open = tt
