-- What the sheet of an accepted run lists, of `check` or of its C twin (document 02, request Two).
use mathlib.Core.Path.{◌≡◌, sym, ap, ◌∙◌}
use mathlib.Core.Bool.{true}
use mathlib.Core.Logic.{◌↔◌}
use mathlib.Core.Option.{none}
use mathlib.Core.List.{List, Memᴰ}
use Prim.Native.Nat.{ℕ, ◌<◌}
use lib.ListN.{length, get_or}
use Rattle.meaning.specs.Base.{or_else, before}
use Rattle.meaning.specs.Types.{Ty, unknown}
use Rattle.meaning.specs.Image.{names_of, nodes_of, name_of}
use Rattle.meaning.specs.Bound.{may_bind}
use Rattle.meaning.specs.Decode.{tree_of}
use Rattle.meaning.specs.Walk.{strict, start}
use Rattle.meaning.specs.Sheet.{Entry}
use Rattle.meaning.specs.Read.{entries_in}
use Rattle.meaning.specs.Answer.{Answer as Meant, walked, answer}
use Rattle.meaning.specs.Frames.{blank}
use Rattle.meaning.proofs.Faults.{Sound}
use Rattle.meaning.proofs.SheetSame.{Held}
use Rattle.meaning.proofs.Answers.{strict_is}
use Rattle.meaning.proofs.Strict.{accepts_program}
use Rattle.meaning.proofs.Formed.{strict_lists}
use Rattle.meaning.proofs.Listed.{ProgramLists, listing_lists, frame_listed, bound_listed, known_held, listing_ascends, held_stays}
use Rattle.checker.specs.Answers.{Numbers, Replies}
use Rattle.checker.specs.Module.{module_frame, ModuleLists, sheet_in}
use Rattle.checker.proofs.Demand.{own, sheet_tells_listed, ends_well, one_frame}

module _ (setting : ℕ) (image : List ℕ) (room told : ℕ) {n : Numbers} {old new old_message new_message : List ℕ}
    (x : Replies (answer setting image room told) n old new old_message new_message) (c : n.code ≡ 0) where
  -- what the sheet says
  abbrev said : List Entry
  said = entries_in (sheet_in n new)

  sound_image : Sound image
  sound_image = (own setting image room told x c).sound

  -- It says what the program lists, and nothing else. (False of a checker that lists a name which is only read, a Def's name or a parameter.)
  pub sheet_lists : (name : List ℕ) (t : Ty) → Memᴰ (name, t) said ↔ ModuleLists image name t
  sheet_lists name t = rw (sheet_tells_listed setting image room told x c) (listing_lists image sound_image (module_frame image) name t)

  -- Every name of the module frame stands there with its type. (False of one that lists by form alone: y in `if True:` with `def f():`, `y = 1`
  -- and `break` in it.)
  pub frame_in_sheet : {name : List ℕ} {t : Ty} → Held (names_of image) (module_frame image) name t → Memᴰ (name, t) said
  frame_in_sheet h = rw (sheet_tells_listed setting image room told x c) (frame_listed image sound_image (module_frame image) h)

  -- and with no other. (False of one that gives what may be bound as Unknown: x in `x = 1`, `for x in ["a"]: pass`.)
  pub frame_type_stays : {name : List ℕ} {t : Ty} → Held (names_of image) (module_frame image) name t → (u : Ty) → Memᴰ (name, u) said → u ≡ t
  frame_type_stays h u m = held_stays image sound_image (module_frame image) h u (rw (sheet_tells_listed setting image room told x c) at m)

  -- Every name that the module may bind stands there, with the frame's type or as Unknown. (False of one that misses an elif body.)
  pub bound_in_sheet : (y : ℕ) → Memᴰ y (may_bind (tree_of (nodes_of image)))
      → Memᴰ ((name_of (names_of image) y).spelling, (or_else (get_or (module_frame image) y none) blank).type) said
  bound_in_sheet y m = rw (sheet_tells_listed setting image room told x c) (bound_listed image sound_image (module_frame image) y m)

  -- A known type is the module frame's. (False of one that takes a type from a body: i in `for i in [1]: pass`.)
  pub known_in_frame : (name : List ℕ) (t : Ty) → Memᴰ (name, t) said → (t ≡ unknown → ⊥) → Held (names_of image) (module_frame image) name t
  known_in_frame name t m k = known_held image sound_image (module_frame image) name t (rw (sheet_tells_listed setting image room told x c) at m) k

  -- The names ascend, so that none stands there twice. (False of one that adds what may be bound behind the frame's names.)
  pub names_ascend : (i j : ℕ) (d : Entry) → i < j → j < length said → before (get_or said i d).0 (get_or said j d).0 ≡ true
  names_ascend i j d l h =
      rw (sheet_tells_listed setting image room told x c) (listing_ascends image sound_image (module_frame image) i j d l (rw (sheet_tells_listed setting image room told x c) at h))

-- Of a program that strict accepts the form alone tells which names are listed. (False of plain: `frame_in_sheet` has the program.)
module _ (image : List ℕ) (room told : ℕ) {n : Numbers} {old new old_message new_message : List ℕ}
    (x : Replies (answer 1 image room told) n old new old_message new_message) (c : n.code ≡ 0) where
  pub strict_by_form : (name : List ℕ) (t : Ty) → Memᴰ (name, t) (entries_in (sheet_in n new))
      → (y : ℕ) × (Memᴰ y (may_bind (tree_of (nodes_of image))) × ((name_of (names_of image) y).spelling ≡ name))
  unfolding walked
  strict_by_form name t m =
      let zero-code = ap (λ (a : Meant). a.code) (sym (strict_is image room told)) ∙ sym (ap (λ (k : Numbers). k.code) x.numbers) ∙ c in
      let w = (ends_well image room told strict zero-code).2 in
      let f = one_frame image room told w.0 (accepts_program (names_of image) (tree_of (nodes_of image)) start w.0 w.1) in
      let l : ProgramLists image (module_frame image) name t = (sheet_lists 1 image room told x c name t).0 m in
      (l.slot, (strict_lists image w.0 w.1 (module_frame image) f l, l.spelled))
