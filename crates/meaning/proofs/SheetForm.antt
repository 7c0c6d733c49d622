-- The sheet: what is written is read back, no two lists of entries have one sheet, and a byte string is a sheet exactly when it is
-- that of some entries within the limits. Its length is at most 42,532.
use mathlib.Core.Path.{◌≡◌, refl, ◌∙◌, ap, sym}
use mathlib.Core.Bool.{true, false, false≢true}
use mathlib.Core.Logic.{◌↔◌}
use mathlib.Core.Option.{none, some}
use mathlib.Core.List.{List, [], ◌∷◌, ◌++◌, map, append_assoc}
use Prim.Native.Nat.{ℕ, ◌+◌, ◌*◌, ◌/◌, ◌%◌, ◌≤◌, ◌<◌}
use native.Mathlib.Omega.{arith}
use borrow.Author.Tests.{leb-true, le-leb}
use lib.ListN.{length, drop, length-append, length-map}
use lib.Seq.{drop_at, drop-drop}
use Rattle.meaning.specs.Base.{all, test◌then◌else◌, word, words}
use Rattle.meaning.specs.Limits.{most_names, longest_name, most_types, most_elements}
use Rattle.meaning.specs.Types.{Ty}
use Rattle.meaning.specs.Image.{printable, text_stands}
use Rattle.meaning.specs.Sheet.{Entry, Triple, laid, types_of, number, elements_of, type_records, spellings, name_records, sheet_of, texts_stand, within_limits}
use Rattle.meaning.specs.Read.{entries_from, entries_in, is_sheet, read_sheet, SheetOf}
use Rattle.meaning.proofs.Choices.{and_left, and_right, both, not_so, if_some_lem, if_nothing, same_text_lem, text_same}
use Rattle.meaning.proofs.SheetWords.{Small, Smalls, Small3s, four_bytes, words_length, laid_many, laid_length, words_read, triples_read}
use Rattle.meaning.proofs.SheetTypes.{Met, types_met}
use Rattle.meaning.proofs.SheetRead.{types_read, names_read, numbers_small, types_small, names_small, types_many, names_many}

-- ---- the limits

pub record Limits (es : List Entry) : Type 0 where
  pub names : length es ≤ most_names
  pub types : length (types_of es []) ≤ most_types
  pub elements : length (elements_of (types_of es [])) ≤ most_elements
  pub size : length (spellings es) ≤ longest_name * length es

pub texts_size : (last : List ℕ) (es : List Entry) → texts_stand last es ≡ true → length (spellings es) ≤ longest_name * length es
unfolding texts_stand text_stands spellings
texts_size last [] h = omega arith
texts_size last (e ∷ es) h =
    let here = leb-true (length e.0) longest_name (and_right _ _ (and_left _ _ (and_left _ _ (and_left _ _ h)))) in
    omega (arith, length-append e.0 (spellings es), texts_size e.0 es (and_right _ _ h))

pub limits : (es : List Entry) → within_limits es ≡ true → Limits es
unfolding within_limits
limits es h =
    record {
      names = leb-true _ most_names (and_right _ _ (and_left _ _ (and_left _ _ h)));
      types = leb-true _ most_types (and_right _ _ (and_left _ _ h));
      elements = leb-true _ most_elements (and_right _ _ h);
      size = texts_size [] es (and_left _ _ (and_left _ _ (and_left _ _ h)));
    }

-- ---- the length

pub sheet_size : (es : List Entry)
    → length (sheet_of es) ≡ 40 + 12 * length (types_of es []) + 4 * length (elements_of (types_of es [])) + 12 * length es + length (spellings es)
unfolding sheet_of
sheet_size es = simp (length-append, words_length, laid_many, types_many, names_many, length-map) (omega arith)

pub sheet_length : (es : List Entry) → within_limits es ≡ true → length (sheet_of es) ≤ 42532
sheet_length es w = omega (arith, limits es w, sheet_size es)

-- ---- a header and four areas read back

module _ (m k n x y z i j l : ℕ) (A B C D : List ℕ) where
  abbrev pub laid_out : List ℕ
  laid_out = words (1 ∷ m ∷ x ∷ k ∷ y ∷ n ∷ z ∷ i ∷ j ∷ l ∷ []) ++ A ++ B ++ C ++ D

  laid_words : Small m → Small k → Small n → (word laid_out 4 ≡ m) × (word laid_out 12 ≡ k) × (word laid_out 20 ≡ n)
  unfolding words
  laid_words hm hk hn = (four_bytes m hm, four_bytes k hk, four_bytes n hn)

  pub laid_drop : (a b c : ℕ) → length A ≡ a → length B ≡ b → length C ≡ c
      → (drop 40 laid_out ≡ A ++ (B ++ (C ++ D)))
      × (drop (40 + a) laid_out ≡ B ++ (C ++ D))
      × (drop (40 + a + b) laid_out ≡ C ++ D)
      × (drop (40 + a + b + c) laid_out ≡ D)
  unfolding words
  laid_drop a b c ha hb hc =
      let d₀ : drop 40 laid_out ≡ A ++ (B ++ (C ++ D)) = append_assoc (A ++ B) C D ∙ append_assoc A B (C ++ D) in
      let d₁ : drop (40 + a) laid_out ≡ B ++ (C ++ D) = sym (drop-drop a 40 laid_out) ∙ (ap (drop a) d₀ ∙ drop_at A _ a ha) in
      let d₂ : drop (40 + a + b) laid_out ≡ C ++ D = sym (drop-drop b (40 + a) laid_out) ∙ (ap (drop b) d₁ ∙ drop_at B _ b hb) in
      (d₀, d₁, d₂, sym (drop-drop c (40 + a + b) laid_out) ∙ (ap (drop c) d₂ ∙ drop_at C _ c hc))

-- what lies in the areas is what the reader takes out
areas_read : (bs : List ℕ) (T : List Triple) (E : List ℕ) (N : List Triple) (S r₀ r₁ r₂ : List ℕ) → Small3s T → Smalls E → Small3s N
    → (word bs 4 ≡ length T) × (word bs 12 ≡ length E) × (word bs 20 ≡ length N)
    → (drop 40 bs ≡ words (laid T) ++ r₀)
    × (drop (40 + 12 * length T) bs ≡ words E ++ r₁)
    × (drop (40 + 12 * length T + 4 * length E) bs ≡ words (laid N) ++ r₂)
    × (drop (40 + 12 * length T + 4 * length E + 12 * length N) bs ≡ S)
    → entries_in bs ≡ entries_from T E N S
unfolding entries_in
areas_read bs T E N S r₀ r₁ r₂ t e n c d =
    rw (c.0, c.1, c.2, d.0, d.1, d.2, d.3, triples_read T r₀ t, words_read E r₁ e, triples_read N r₂ n)

-- ---- the round trip

module _ (es : List Entry) where
  abbrev us : List Ty
  us = types_of es []

  walked : Met [] us (map (λ e. e.1) es)
  walked = types_met es [] tt

  areas : entries_from (type_records us 0 us) (map (number us) (elements_of us)) (name_records us 0 es) (spellings es) ≡ es
  unfolding entries_from
  areas = rw (types_read us (map (number us) (elements_of us)) [] us 0 refl walked.ordered refl) (names_read us (spellings es) es 0 walked.known refl)

  -- a sheet whose length is a word says its own counts
  counts : length (sheet_of es) < 4294967296
      → (word (sheet_of es) 4 ≡ length us) × (word (sheet_of es) 12 ≡ length (elements_of us)) × (word (sheet_of es) 20 ≡ length es)
  unfolding sheet_of
  counts l = let s = sheet_size es in laid_words _ _ _ _ _ _ _ _ _ _ _ _ _ (omega arith) (omega arith) (omega arith)

  -- and is read back: of the limits no more is needed
  pub short_trip : length (sheet_of es) < 4294967296 → entries_in (sheet_of es) ≡ es
  unfolding sheet_of
  short_trip l =
      let s = sheet_size es in
      let c = counts l in
      let T = type_records us 0 us in
      let E = map (number us) (elements_of us) in
      let N = name_records us 0 es in
      let few : 8 + length us < 4294967296 = omega arith in
      areas_read (sheet_of es) T E N (spellings es) _ _ _ (types_small us few 0 us (omega arith)) (numbers_small us few (elements_of us)) (names_small us few 0 es (omega arith))
      (c.0 ∙ sym (types_many us 0 us), c.1 ∙ sym (length-map (elements_of us) (number us)), c.2 ∙ sym (names_many us 0 es))
      (laid_drop _ _ _ _ _ _ _ _ _ (words (laid T)) (words E) (words (laid N)) (spellings es) _ _ _ (laid_length T) (words_length E) (laid_length N))
      ∙ areas

  word_long : within_limits es ≡ true → length (sheet_of es) < 4294967296
  word_long w = omega (arith, sheet_length es w)

  pub round_trip : within_limits es ≡ true → entries_in (sheet_of es) ≡ es
  round_trip w = short_trip (word_long w)

-- two lists of entries with one sheet are one
pub sheet_injective : (es fs : List Entry) → within_limits es ≡ true → within_limits fs ≡ true → (sheet_of es ≡ sheet_of fs) ↔ (es ≡ fs)
sheet_injective es fs v w = (λ e. sym (round_trip es v) ∙ (ap entries_in e ∙ round_trip fs w), λ e. ap sheet_of e)

-- the same of any entries, their sheets being short enough for words to count them
pub short_injective : (es fs : List Entry) → length (sheet_of es) < 4294967296 → length (sheet_of fs) < 4294967296 → (sheet_of es ≡ sheet_of fs) ↔ (es ≡ fs)
short_injective es fs v w = (λ e. sym (short_trip es v) ∙ (ap entries_in e ∙ short_trip fs w), λ e. ap sheet_of e)

-- ---- the form

pub sheet_is : (bs : List ℕ) → is_sheet bs ≡ true → SheetOf bs (entries_in bs)
unfolding is_sheet
sheet_is bs h =
    let s = and_right _ _ h in
    record { written = same_text_lem bs (sheet_of (entries_in bs)) (and_left _ _ s); limits = and_right _ _ s }

pub is_sheet_lem : (bs : List ℕ) (es : List Entry) → SheetOf bs es → is_sheet bs ≡ true
unfolding is_sheet
is_sheet_lem bs es s =
    let h = limits es s.limits in
    let c = counts es (word_long es s.limits) in
    rw (s.written, round_trip es s.limits, c.0, c.1, c.2)
    (both _ _ (both _ _ (both _ _ (le-leb _ most_types h.types) (le-leb _ most_elements h.elements)) (le-leb _ most_names h.names)) (both _ _ (text_same (sheet_of es)) s.limits))

pub sheet_form : (bs : List ℕ) → (is_sheet bs ≡ true) ↔ ((es : List Entry) × SheetOf bs es)
sheet_form bs = (λ h. (entries_in bs, sheet_is bs h), λ s. is_sheet_lem bs s.0 s.1)

-- the entries of a sheet are the only ones
pub sheet_one : (bs : List ℕ) (es : List Entry) → SheetOf bs es → entries_in bs ≡ es
sheet_one bs es s = ap entries_in s.written ∙ round_trip es s.limits

-- the reader gives those entries, and nothing where there are none
pub read_some : (bs : List ℕ) (es : List Entry) → (read_sheet bs ≡ some es) ↔ SheetOf bs es
unfolding read_sheet test◌then◌else◌
read_some bs es = (
  λ e. let h = if_some_lem (is_sheet bs) (entries_in bs) es e in rw h.1 at (sheet_is bs h.0),
  λ s. rw (is_sheet_lem bs es s) (ap some (sheet_one bs es s)),
)

pub read_none : (bs : List ℕ) → (read_sheet bs ≡ none) ↔ ((es : List Entry) → SheetOf bs es → ⊥)
unfolding read_sheet test◌then◌else◌
read_none bs = (
  λ e es s. false≢true (sym (if_nothing (is_sheet bs) (entries_in bs) e) ∙ is_sheet_lem bs es s),
  λ n. rw (not_so (is_sheet bs) (λ h. n (entries_in bs) (sheet_is bs h))),
)

-- by the test alone
pub read_yes : (bs : List ℕ) → is_sheet bs ≡ true → read_sheet bs ≡ some (entries_in bs)
unfolding read_sheet test◌then◌else◌
read_yes bs h = rw h

pub read_no : (bs : List ℕ) → is_sheet bs ≡ false → read_sheet bs ≡ none
unfolding read_sheet test◌then◌else◌
read_no bs h = rw h

-- ---- its header, its bytes

-- the ten words of the header
pub record Header (bs : List ℕ) (types elements names size : ℕ) : Type 0 where
  pub version : word bs 0 ≡ 1
  pub types_count : word bs 4 ≡ types
  pub types_from : word bs 8 ≡ 40
  pub elements_count : word bs 12 ≡ elements
  pub elements_from : word bs 16 ≡ 40 + 12 * types
  pub names_count : word bs 20 ≡ names
  pub names_from : word bs 24 ≡ 40 + 12 * types + 4 * elements
  pub texts_count : word bs 28 ≡ size
  pub texts_from : word bs 32 ≡ 40 + 12 * types + 4 * elements + 12 * names
  pub total : word bs 36 ≡ length bs

pub sheet_header : (es : List Entry) → within_limits es ≡ true
    → Header (sheet_of es) (length (types_of es [])) (length (elements_of (types_of es []))) (length es) (length (spellings es))
unfolding sheet_of words
sheet_header es w =
    let h = limits es w in
    let s = sheet_size es in
    record {
      version = refl;
      types_count = four_bytes _ (omega arith);
      types_from = refl;
      elements_count = four_bytes _ (omega arith);
      elements_from = four_bytes _ (omega arith);
      names_count = four_bytes _ (omega arith);
      names_from = four_bytes _ (omega arith);
      texts_count = four_bytes _ (omega arith);
      texts_from = four_bytes _ (omega arith);
      total = four_bytes _ (omega arith) ∙ sym s;
    }

pub data Bytes : List ℕ → Type 0 where
  no_bytes : Bytes []
  byte : {b : ℕ} {bs : List ℕ} → b < 256 → Bytes bs → Bytes (b ∷ bs)

bytes_append : {xs ys : List ℕ} → Bytes xs → Bytes ys → Bytes (xs ++ ys)
bytes_append no_bytes q = q
bytes_append (byte h p) q = byte h (bytes_append p q)

low : (n : ℕ) → n % 256 < 256
low n = omega arith

words_bytes : (ns : List ℕ) → Bytes (words ns)
unfolding words
words_bytes [] = no_bytes
words_bytes (n ∷ ns) = byte (low n) (byte (low (n / 256)) (byte (low (n / 256 / 256)) (byte (low (n / 256 / 256 / 256)) (words_bytes ns))))

printable_bytes : (s : List ℕ) → all printable s ≡ true → Bytes s
unfolding all printable
printable_bytes [] h = no_bytes
printable_bytes (b ∷ s) h = let l : b < 256 = omega (arith, leb-true b 126 (and_right _ _ (and_left _ _ h))) in byte l (printable_bytes s (and_right _ _ h))

texts_bytes : (last : List ℕ) (es : List Entry) → texts_stand last es ≡ true → Bytes (spellings es)
unfolding texts_stand text_stands spellings
texts_bytes last [] h = no_bytes
texts_bytes last (e ∷ es) h =
    bytes_append (printable_bytes e.0 (and_right _ _ (and_left _ _ (and_left _ _ h)))) (texts_bytes e.0 es (and_right _ _ h))

pub sheet_bytes : (es : List Entry) → within_limits es ≡ true → Bytes (sheet_of es)
unfolding sheet_of within_limits
sheet_bytes es w =
    bytes_append (bytes_append (bytes_append (bytes_append (words_bytes _) (words_bytes _)) (words_bytes _)) (words_bytes _))
    (texts_bytes [] es (and_left _ _ (and_left _ _ (and_left _ _ w))))
