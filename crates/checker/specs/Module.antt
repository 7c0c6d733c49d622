-- What demand 3 speaks of: the module frame that a program ends with, the names that it lists, and the sheet that an answer tells of.
use Rattle.std.specs.Prelude.{List, [], ◌∷◌, ℕ, take}
use Rattle.meaning.specs.Types.{Ty}
use Rattle.meaning.specs.Frames.{Frame, Frames}
use Rattle.meaning.specs.Walk.{plain, End, done, wrong, too_deep}
use Rattle.meaning.specs.Answer.{walked}
use Rattle.meaning.proofs.Listed.{ProgramLists, SameListed}
use Rattle.checker.specs.Answers.{Numbers}

-- the frames that a walk ends with, the newest first
unfoldable pub frames_at : End → Frames
frames_at (done s) = s.frames
frames_at (wrong r s) = s.frames
frames_at (too_deep n) = []

-- the frame below all others
unfoldable pub lowest : Frame → Frames → Frame
lowest f [] = f
lowest f (g ∷ fs) = lowest g fs

-- the module's, of the program in an image. No setting is named: where strict accepts, plain ends in the same state (meaning/proofs/Strict)
unfoldable pub module_frame : List ℕ → Frame
module_frame image = lowest [] (frames_at (walked plain image))

-- the program lists a name, spelled so, with this type: that frame's, or Unknown where it lacks a name that the module may bind
abbrev pub ModuleLists : List ℕ → List ℕ → Ty → Type 0
ModuleLists image name t = ProgramLists image (module_frame image) name t

-- "Demand 3 speaks of listed names from here": both list the same names with the same types
abbrev pub SameNames : List ℕ → List ℕ → Type 0
SameNames a b = SameListed a b (module_frame a) (module_frame b)

-- the bytes of the sheet: so many as the answer's numbers tell, at the front of the buffer that was lent
abbrev pub sheet_in : Numbers → List ℕ → List ℕ
sheet_in n buffer = take n.sheet buffer
