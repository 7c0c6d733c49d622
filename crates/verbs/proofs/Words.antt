-- What the words ask for, case by case; and examples. Assumes nothing.
use mathlib.Core.Path.{◌≡◌, refl, sym, ap, ◌∙◌}
use mathlib.Core.Bool.{Bool, true, false}
use mathlib.Core.List.{List, [], ◌∷◌}
use Prim.Native.Nat.{ℕ, ◌+◌, ◌≤◌, min}
use native.Mathlib.Omega.{arith}
use Rattle.meaning.specs.Base.{test◌then◌else◌, bytes}
use Rattle.meaning.specs.Answer.{meaning_open}
use Rattle.verbs.specs.Words.{verb_of, kind_of, with_file, with_word, nothing_asked, asked_by, no_file, one_file, two_files, verb_asked, known_asked, command_of, command_told, words_open}
use Rattle.verbs.specs.declared.Verb.{Verb}
use Rattle.verbs.specs.declared.Verb.TheVariants.{Check, Sheet, Show, Changes, Load, Convert, Help, Nothing}
use Rattle.verbs.specs.declared.Kind.{Kind}
use Rattle.verbs.specs.declared.Kind.TheVariants.{Strict, Known, Input, Name, Unknown}
use Rattle.verbs.specs.declared.Files.{Files}
use Rattle.verbs.specs.declared.Files.TheVariants.{None, One, Two, Wrong}
use Rattle.verbs.specs.declared.Asked.{Asked}
use Rattle.verbs.specs.declared.Command.{Command}
use Rattle.verbs.specs.declared.Command.TheVariants.{CheckKnown, LoadImage, ConvertImage, NoVerb, BadWords}

-- ---- with `--known`, and without

module _ (v : Verb) (w : Asked) where
  with_known : w.known ≡ true → known_asked v w ≡ command_of v w
  unfolding command_of test◌then◌else◌
  with_known k = rw k

  without : w.known ≡ false → verb_asked v w ≡ command_of v w
  unfolding command_of test◌then◌else◌
  without k = rw k

-- ---- the first five words settle it: a verb and four behind it, of which one at least is too many

-- how much of what may be asked was asked: `--strict` once, `--known` once, and two files
counted : Files → ℕ
counted None = 0
counted (One i) = 1
counted (Two i j) = 2
counted Wrong = 4

flagged : Bool → ℕ
flagged true = 1
flagged false = 0

spent : Asked → ℕ
spent w = flagged w.strict + flagged w.known + counted w.files

file_counts : (f : Files) (a : ℕ) → min 4 (counted f + 1) ≤ counted (with_file f a)
unfolding counted with_file
file_counts None a = omega arith
file_counts (One i) a = omega arith
file_counts (Two i j) a = omega arith
file_counts Wrong a = omega arith

-- a flag, once
flag_counts : (b : Bool) (f : Files) → min 4 (flagged b + counted f + 1) ≤ 1 + counted (test b then Wrong else f)
unfolding counted flagged test◌then◌else◌
flag_counts true f = omega arith
flag_counts false f = omega arith

input_counts : (b : Bool) (f : Files) (a : ℕ) → min 4 (counted f + 1) ≤ counted (test b then Wrong else with_file f a)
unfolding counted test◌then◌else◌
input_counts true f a = omega arith
input_counts false f a = file_counts f a

-- each word counts
word_counts : (w : Asked) (a : ℕ) (k : Kind) → min 4 (spent w + 1) ≤ spent (with_word w a k)
unfolding spent flagged counted with_word
word_counts w a Strict = omega (arith, flag_counts w.strict w.files)
word_counts w a Known = omega (arith, flag_counts w.known w.files)
word_counts w a Input = omega (arith, input_counts w.input w.files a)
word_counts w a Name = omega (arith, file_counts w.files a)
word_counts w a Unknown = omega arith

few_flags : (b : Bool) → flagged b ≤ 1
unfolding flagged
few_flags true = omega arith
few_flags false = omega arith

still_spent : (w : Asked) (a : ℕ) (ws : List (List ℕ)) → 4 ≤ spent w → 4 ≤ spent (asked_by w a ws)
unfolding asked_by
still_spent w a [] h = h
still_spent w a (v ∷ ws) h = still_spent (with_word w a (kind_of v)) (a + 1) ws (omega (arith, h, word_counts w a (kind_of v)))

-- no verb takes so much: two files and both flags, or what is wrong
refused_by : Verb → Command
refused_by Check = BadWords
refused_by Sheet = BadWords
refused_by Show = BadWords
refused_by Changes = BadWords
refused_by Load = BadWords
refused_by Convert = BadWords
refused_by Help = BadWords
refused_by Nothing = NoVerb

all_wrong : (f : Files) → 3 ≤ counted f → f ≡ Wrong
unfolding counted
all_wrong None h = absurd (omega (arith, h))
all_wrong (One i) h = absurd (omega (arith, h))
all_wrong (Two i j) h = absurd (omega (arith, h))
all_wrong Wrong h = refl

one_many : (c : ℕ → Command) (f : Files) → 2 ≤ counted f → one_file c f ≡ BadWords
unfolding counted one_file
one_many c None h = absurd (omega (arith, h))
one_many c (One i) h = absurd (omega (arith, h))
one_many c (Two i j) h = refl
one_many c Wrong h = refl

or_bad : (b : Bool) {c : Command} → c ≡ BadWords → (test b then BadWords else c) ≡ BadWords
unfolding test◌then◌else◌
or_bad true e = refl
or_bad false e = e

verb_refuses : (v : Verb) (w : Asked) → w.files ≡ Wrong → verb_asked v w ≡ refused_by v
unfolding verb_asked no_file one_file two_files refused_by
verb_refuses Check w e = rw e
verb_refuses Sheet w e = rw e
verb_refuses Load w e = rw e
verb_refuses Show w e = rw e (or_bad w.strict refl)
verb_refuses Changes w e = rw e (or_bad w.strict refl)
verb_refuses Convert w e = rw e (or_bad w.strict refl)
verb_refuses Help w e = rw e (or_bad w.strict refl)
verb_refuses Nothing w e = refl

known_refuses : (v : Verb) (w : Asked) → 2 ≤ counted w.files → known_asked v w ≡ refused_by v
unfolding known_asked refused_by
known_refuses Check w h = one_many _ w.files h
known_refuses Sheet w h = refl
known_refuses Load w h = refl
known_refuses Show w h = refl
known_refuses Changes w h = refl
known_refuses Convert w h = refl
known_refuses Help w h = refl
known_refuses Nothing w h = refl

settled : (v : Verb) (w : Asked) → 4 ≤ spent w → command_of v w ≡ refused_by v
unfolding spent flagged
settled v w h = by w.known refl
  where
    by : (b : Bool) → w.known ≡ b → command_of v w ≡ refused_by v
    by true e = sym (with_known v w e) ∙ known_refuses v w (omega (arith, h, few_flags w.strict, ap flagged e))
    by false e = sym (without v w e) ∙ verb_refuses v w (all_wrong w.files (omega (arith, h, few_flags w.strict, ap flagged e)))

-- (false of a program that looks at four: `load --strict a b c` would be `load --strict a b`)
pub five_words : (v a b c d : List ℕ) (ws : List (List ℕ)) → command_told (v ∷ a ∷ b ∷ c ∷ d ∷ ws) ≡ command_told (v ∷ a ∷ b ∷ c ∷ d ∷ [])
unfolding command_told asked_by spent flagged counted
five_words v a b c d ws =
    let w₁ = with_word nothing_asked 2 (kind_of a) in
    let w₂ = with_word w₁ 3 (kind_of b) in
    let w₃ = with_word w₂ 4 (kind_of c) in
    let w₄ = with_word w₃ 5 (kind_of d) in
    let four : 4 ≤ spent w₄ =
    omega (arith, word_counts nothing_asked 2 (kind_of a), word_counts w₁ 3 (kind_of b), word_counts w₂ 4 (kind_of c), word_counts w₃ 5 (kind_of d)) in
    settled (verb_of v) (asked_by w₄ 6 ws) (still_spent w₄ 6 ws four) ∙ sym (settled (verb_of v) w₄ four)

-- ---- examples: `--strict` and `--known` may stand anywhere behind the verb, once, the latter behind `check` alone; a misspelt one is no file's
-- name; and standard input is read once

pub words_so : (command_told (bytes "load" ∷ bytes "--strict" ∷ bytes "a" ∷ bytes "-" ∷ []) ≡ LoadImage 1 3 4)
    × (command_told (bytes "load" ∷ bytes "a" ∷ bytes "b" ∷ bytes "--strict" ∷ []) ≡ LoadImage 1 2 3)
    × (command_told (bytes "load" ∷ bytes "a" ∷ bytes "b" ∷ []) ≡ LoadImage 0 2 3)
    × (command_told (bytes "check" ∷ bytes "--known" ∷ bytes "a" ∷ []) ≡ CheckKnown 0 3)
    × (command_told (bytes "check" ∷ bytes "a" ∷ bytes "--known" ∷ bytes "--strict" ∷ []) ≡ CheckKnown 1 2)
    × (command_told (bytes "check" ∷ bytes "--known" ∷ bytes "--known" ∷ bytes "a" ∷ []) ≡ BadWords)
    × (command_told (bytes "load" ∷ bytes "--known" ∷ bytes "a" ∷ bytes "b" ∷ []) ≡ BadWords)
    × (command_told (bytes "check" ∷ bytes "--strickt" ∷ bytes "a" ∷ []) ≡ BadWords)
    × (command_told (bytes "check" ∷ bytes "a" ∷ bytes "b" ∷ []) ≡ BadWords)
    × (command_told (bytes "changes" ∷ bytes "-" ∷ bytes "-" ∷ []) ≡ BadWords)
    × (command_told (bytes "show" ∷ bytes "--strict" ∷ bytes "a" ∷ []) ≡ BadWords)
    × (command_told (bytes "convert" ∷ bytes "a" ∷ []) ≡ ConvertImage 2)
    × (command_told (bytes "convert" ∷ bytes "--strict" ∷ bytes "a" ∷ []) ≡ BadWords)
    × (command_told (bytes "shew" ∷ bytes "a" ∷ []) ≡ NoVerb)
    × (command_told [] ≡ NoVerb)
unfolding meaning_open words_open
words_so = (refl, refl, refl, refl, refl, refl, refl, refl, refl, refl, refl, refl, refl, refl, refl)
