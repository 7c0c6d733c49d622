-- What the program says, verb by verb: the bytes for standard output, and its status.
use Rattle.std.specs.Prelude.{◌≡◌, List, [], ◌∷◌, ◌++◌, ℕ, ◌+◌, eqb, length}
use Rattle.meaning.specs.Limits.{sheet_buffer, message_buffer, largest_changes}
use Rattle.meaning.specs.Base.{◌or◌, test◌then◌else◌, if_some, bytes}
use Rattle.meaning.specs.Sheet.{Entry}
use Rattle.meaning.specs.Read.{read_sheet}
use Rattle.meaning.specs.Answer.{Answer, bare, answer, overlaid}
use Rattle.meaning.specs.Convert.{Conversion}
use Rattle.meaning.specs.Line.{spaced, refused_line, line_of}
use Rattle.meaning.specs.Show.{entries_text, Change, changes_text, changes, compared}
use Rattle.meaning.specs.Known.{Steadiness, steady, def_in_if, faulty, steadiness}
use Rattle.meaning.specs.Load.{Loading, loads, look, refused, loading}
use Rattle.line.specs.Printing.{Fronted}
use Rattle.verbs.specs.declared.Status.{Status}
use Rattle.verbs.specs.declared.Status.TheVariants.{Fine, Changed, Refused, Misused}
use Rattle.verbs.specs.declared.Done.{Done}
use Rattle.verbs.specs.declared.Written.{Written}

-- ---- the status

-- "0 loads, 1 look, 2 refused", and 3 where nothing was asked that could be done
abbrev pub status_number : Status → ℕ
status_number Fine = 0
status_number Changed = 1
status_number Refused = 2
status_number Misused = 3

-- of the check's code
unfoldable pub status_of : ℕ → Status
status_of code = test eqb code 0 then Fine else Refused

-- ---- what is said

pub record Said : Type 0 where
  pub text : List ℕ
  pub status : Status

-- it stands at the front of a buffer, and the rest of that is kept
pub record Says (s : Said) (old new : List ℕ) (d : Done) : Type 0 where
  pub front : Fronted s.text old new d.length
  pub status : d.status ≡ s.status

-- a span, and the end of the line
unfoldable pub span_text : ℕ → ℕ → List ℕ
span_text start end = spaced (start ∷ []) ++ spaced (end ∷ []) ++ bytes "\n"

-- 25 and 23 "point at the first place too": a line more, with the second span
unfoldable pub first_text : ℕ → ℕ → ℕ → List ℕ
first_text code start end = test eqb code 23 or eqb code 25 then bytes "first set here" ++ span_text start end else []

-- an answer: the line of `typecheck`, and that line
unfoldable pub told_text : Answer → List ℕ
told_text a = line_of a ++ first_text a.code a.second_start a.second_end

-- what stands around a message has fewer than 64 bytes, and the line more fewer than 40
abbrev pub line_room : ℕ
line_room = 64 + 40 + message_buffer

-- `check`
unfoldable pub check_said : Answer → Said
check_said a = record { text = told_text a; status = status_of a.code }

-- `check --known`: a line more, whether "known stays known", and why; of what is no image, none. 1 is strict, under which it does whatever
-- the program is.
unfoldable pub known_text : ℕ → Steadiness → List ℕ
known_text setting steady = bytes "known stays known: no def inside an if\n"
known_text setting (def_in_if n start end) =
    test eqb setting 1 then bytes "known stays known: strict\n" else bytes "known may change: def inside an if" ++ span_text start end
known_text setting (faulty f) = []

-- that line has fewer bytes than this
abbrev pub known_line : ℕ
known_line = 60

abbrev pub known_room : ℕ
known_room = line_room + known_line

unfoldable pub known_said : ℕ → List ℕ → Said
known_said setting bs =
    let a : Answer = answer setting bs sheet_buffer message_buffer in
    record { text = told_text a ++ known_text setting (steadiness bs); status = status_of a.code }

-- `sheet`: the sheet for standard output, and what tells of a refusal for standard error
unfoldable pub refusal_of : Answer → List ℕ
refusal_of a = test eqb a.code 0 then [] else told_text a

-- what tells of the answer stands at the front of its buffer in either case; told of it is as much as the refusal has
pub record Writes (a : Answer) (old_sheet new_sheet old_line new_line : List ℕ) (w : Written) : Type 0 where
  pub sheet : Fronted a.sheet old_sheet new_sheet w.length
  pub line : new_line ≡ overlaid (told_text a) old_line
  pub told : w.line ≡ length (refusal_of a)
  pub status : w.status ≡ status_of a.code

-- `convert`: the image for standard output, and what tells of a refusal for standard error, the line of `typecheck`
unfoldable pub unconverted_text : Conversion → List ℕ
unconverted_text a = test eqb a.code 0 then [] else refused_line (bare a.code a.place)

pub record Renews (a : Conversion) (old_image new_image old_line new_line : List ℕ) (w : Written) : Type 0 where
  pub image : Fronted a.image old_image new_image w.length
  pub line : Fronted (unconverted_text a) old_line new_line w.line
  pub status : w.status ≡ status_of a.code

-- what is no sheet has nothing to show
abbrev pub no_sheet_said : Said
no_sheet_said = record { text = []; status = Refused }

-- `show`: a line for each name
unfoldable pub show_said : List ℕ → Said
show_said bs = if_some (read_sheet bs) (λ es. record { text = entries_text es; status = Fine }) no_sheet_said

-- `changes`: a line for each name that differs
unfoldable pub changed_if : List Change → Status
changed_if [] = Fine
changed_if (c ∷ cs) = Changed

unfoldable pub changes_said : List ℕ → List ℕ → Said
changes_said old new = if_some (compared old new) (λ cs. record { text = changes_text cs; status = changed_if cs }) no_sheet_said

-- the same status by the code and the length of what `show::changes` told
unfoldable pub compared_as : ℕ → ℕ → Status
compared_as code size = test eqb code 0 then test eqb size 0 then Fine else Changed else Refused

-- `load`: what is no sheet counts as the sheet of no names, so that every name is new
unfoldable pub names_in : List ℕ → List Entry
names_in bs = if_some (read_sheet bs) (λ es. es) []

unfoldable pub look_text : List ℕ → List ℕ → List ℕ
look_text approved sheet = bytes "look\n" ++ changes_text (changes (names_in approved) (names_in sheet))

unfoldable pub load_said_by : Loading → Answer → List ℕ → Said
load_said_by loads a approved = record { text = bytes "loads\n"; status = Fine }
load_said_by look a approved = record { text = look_text approved a.sheet; status = Changed }
load_said_by refused a approved = record { text = told_text a; status = Refused }

unfoldable pub load_said : Answer → List ℕ → Said
load_said a approved = load_said_by (loading a approved) a approved

-- room for `look` and all that changed, more than a line needs
abbrev pub load_room : ℕ
load_room = 5 + largest_changes

unfoldable pub said_open : Unit {0}
unfolding status_of span_text first_text told_text check_said known_text known_said refusal_of unconverted_text show_said changed_if changes_said compared_as names_in look_text load_said_by load_said
said_open = tt
