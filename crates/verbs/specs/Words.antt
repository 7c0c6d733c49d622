-- What the words behind the program's name ask for. (The program's own; in no document.)
use Rattle.std.specs.Prelude.{Bool, true, false, List, [], ◌∷◌, ℕ, ◌+◌, eqb, get_or}
use Rattle.meaning.specs.Base.{test◌then◌else◌, bytes, same_text}
use Rattle.verbs.specs.declared.Verb.{Verb}
use Rattle.verbs.specs.declared.Verb.TheVariants.{Check, Sheet, Show, Changes, Load, Convert, Help, Nothing}
use Rattle.verbs.specs.declared.Kind.{Kind}
use Rattle.verbs.specs.declared.Kind.TheVariants.{Strict, Known, Input, Name, Unknown}
use Rattle.verbs.specs.declared.Files.{Files}
use Rattle.verbs.specs.declared.Files.TheVariants.{None, One, Two, Wrong}
use Rattle.verbs.specs.declared.Asked.{Asked}
use Rattle.verbs.specs.declared.Command.{Command}
use Rattle.verbs.specs.declared.Command.TheVariants.{CheckImage, CheckKnown, WriteSheet, ShowSheet, TellChanges, LoadImage, ConvertImage, Usage, NoVerb, BadWords}

-- ---- a word

unfoldable pub verb_of : List ℕ → Verb
verb_of w =
    test same_text w (bytes "check") then Check
    else test same_text w (bytes "sheet") then Sheet
    else test same_text w (bytes "show") then Show
    else test same_text w (bytes "changes") then Changes
    else test same_text w (bytes "load") then Load
    else test same_text w (bytes "convert") then Convert
    else test same_text w (bytes "help") then Help
    else Nothing

-- `-` is standard input, and no name begins with a `-`: `./-x` is the file `-x`
unfoldable pub kind_of : List ℕ → Kind
kind_of w =
    test same_text w (bytes "--strict") then Strict
    else test same_text w (bytes "--known") then Known
    else test same_text w (bytes "-") then Input
    else test eqb (get_or w 0 0) 45 then Unknown
    else Name

-- ---- the words behind the verb, one after the other: a is the argument's number

unfoldable pub with_file : Files → ℕ → Files
with_file None a = One a
with_file (One i) a = Two i a
with_file (Two i j) a = Wrong
with_file Wrong a = Wrong

-- `--strict` once, `--known` once, standard input once, and no word of another kind
unfoldable pub with_word : Asked → ℕ → Kind → Asked
with_word w a Strict = record { strict = true; known = w.known; input = w.input; files = test w.strict then Wrong else w.files }
with_word w a Known = record { strict = w.strict; known = true; input = w.input; files = test w.known then Wrong else w.files }
with_word w a Input = record { strict = w.strict; known = w.known; input = true; files = test w.input then Wrong else with_file w.files a }
with_word w a Name = record { strict = w.strict; known = w.known; input = w.input; files = with_file w.files a }
with_word w a Unknown = record { strict = w.strict; known = w.known; input = w.input; files = Wrong }

abbrev pub nothing_asked : Asked
nothing_asked = record { strict = false; known = false; input = false; files = None }

-- the words from argument a on
unfoldable pub asked_by : Asked → ℕ → List (List ℕ) → Asked
asked_by w a [] = w
asked_by w a (v ∷ vs) = asked_by (with_word w a (kind_of v)) (a + 1) vs

-- ---- what is to be done

unfoldable pub setting_if : Bool → ℕ
setting_if strict = test strict then 1 else 0

-- no file, one or two: what is done with them, and nothing where there are others
unfoldable pub no_file : Command → Files → Command
no_file c None = c
no_file c (One i) = BadWords
no_file c (Two i j) = BadWords
no_file c Wrong = BadWords

unfoldable pub one_file : (ℕ → Command) → Files → Command
one_file c None = BadWords
one_file c (One i) = c i
one_file c (Two i j) = BadWords
one_file c Wrong = BadWords

unfoldable pub two_files : (ℕ → ℕ → Command) → Files → Command
two_files c None = BadWords
two_files c (One i) = BadWords
two_files c (Two i j) = c i j
two_files c Wrong = BadWords

-- without `--known`; only what checks an image may be strict
unfoldable pub verb_asked : Verb → Asked → Command
verb_asked Check w = one_file (λ i. CheckImage (setting_if w.strict) i) w.files
verb_asked Sheet w = one_file (λ i. WriteSheet (setting_if w.strict) i) w.files
verb_asked Load w = two_files (λ i j. LoadImage (setting_if w.strict) i j) w.files
verb_asked Show w = test w.strict then BadWords else one_file (λ i. ShowSheet i) w.files
verb_asked Changes w = test w.strict then BadWords else two_files (λ i j. TellChanges i j) w.files
verb_asked Convert w = test w.strict then BadWords else one_file (λ i. ConvertImage i) w.files
verb_asked Help w = test w.strict then BadWords else no_file Usage w.files
verb_asked Nothing w = NoVerb

-- with it: `check` alone tells whether known stays known
unfoldable pub known_asked : Verb → Asked → Command
known_asked Check w = one_file (λ i. CheckKnown (setting_if w.strict) i) w.files
known_asked Sheet w = BadWords
known_asked Load w = BadWords
known_asked Show w = BadWords
known_asked Changes w = BadWords
known_asked Convert w = BadWords
known_asked Help w = BadWords
known_asked Nothing w = NoVerb

unfoldable pub command_of : Verb → Asked → Command
command_of verb w = test w.known then known_asked verb w else verb_asked verb w

-- of all words behind the program's name; the first of them is argument 1
unfoldable pub command_told : List (List ℕ) → Command
command_told [] = NoVerb
command_told (v ∷ ws) = command_of (verb_of v) (asked_by nothing_asked 2 ws)

unfoldable pub words_open : Unit {0}
unfolding verb_of kind_of with_file with_word asked_by setting_if no_file one_file two_files verb_asked known_asked command_of command_told
words_open = tt
