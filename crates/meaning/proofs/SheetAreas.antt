-- The other way: a byte string whose header and areas are those of some entries is their sheet. So a reader may compare record by record.
use mathlib.Core.Path.{◌≡◌, refl, ◌∙◌, ap, sym}
use mathlib.Core.Bool.{true}
use mathlib.Core.Logic.{◌↔◌}
use mathlib.Core.List.{List, [], ◌∷◌, ◌++◌, map, append_assoc}
use Prim.Native.Nat.{ℕ, zero, suc, ◌+◌, ◌*◌, ◌/◌, ◌%◌, ◌≤◌, ◌<◌}
use native.Mathlib.Omega.{arith}
use lib.ListN.{length, take, drop, length-drop, length-map, take-append-drop}
use lib.Seq.{drop-drop, get_or-drop}
use Rattle.meaning.specs.Base.{word, words, records}
use Rattle.meaning.specs.Types.{Ty}
use Rattle.meaning.specs.Sheet.{Entry, laid, types_of, number, elements_of, type_records, spellings, name_records, sheet_of, within_limits}
use Rattle.meaning.specs.Read.{triple, SheetOf}
use Rattle.meaning.proofs.SheetForm.{limits, laid_drop, Bytes, no_bytes, byte, Header, sheet_size, sheet_header, sheet_bytes}
use Rattle.meaning.proofs.SheetWords.{words_length, laid_length, words_at, triples_at}
use Rattle.meaning.proofs.SheetRead.{numbers_small, types_small, names_small, types_many, names_many}

abbrev first : List ℕ → ℕ
first r = word r 0

digit : (a r : ℕ) → a < 256 → ((a + 256 * r) % 256 ≡ a) × ((a + 256 * r) / 256 ≡ r)
digit a r h = omega arith

four_back : (a b c d : ℕ) (ns : List ℕ) → a < 256 → b < 256 → c < 256 → d < 256
    → words ((a + 256 * b + 65536 * c + 16777216 * d) ∷ ns) ≡ a ∷ b ∷ c ∷ d ∷ words ns
unfolding words
four_back a b c d ns ha hb hc hd =
    let e : a + 256 * b + 65536 * c + 16777216 * d ≡ a + 256 * (b + 256 * (c + 256 * d)) = omega arith in
    let p = digit a (b + 256 * (c + 256 * d)) ha in
    let q = digit b (c + 256 * d) hb in
    let r = digit c d hc in
    let l : d % 256 ≡ d = omega arith in
    rw (e, p.0, p.1, q.0, q.1, r.0, r.1, l)

words_back : (n : ℕ) {bs : List ℕ} → Bytes bs → 4 * n ≤ length bs → words (records first 4 n bs) ≡ take (4 * n) bs
unfolding words records
words_back zero p h = refl
words_back (suc n) no_bytes h = absurd (omega arith)
words_back (suc n) (byte _ no_bytes) h = absurd (omega arith)
words_back (suc n) (byte _ (byte _ no_bytes)) h = absurd (omega arith)
words_back (suc n) (byte _ (byte _ (byte _ no_bytes))) h = absurd (omega arith)
words_back (suc n) (byte {b = a} ha (byte {b = b} hb (byte {b = c} hc (byte {b = d} {bs = bs} hd p)))) h =
    let e : 4 * suc n ≡ suc (suc (suc (suc (4 * n)))) = omega arith in
    rw e (four_back a b c d (records first 4 n bs) ha hb hc hd ∙ ap (λ l. a ∷ b ∷ c ∷ d ∷ l) (words_back n p (omega arith)))

laid_records : (n : ℕ) (bs : List ℕ) → laid (records triple 12 n bs) ≡ records first 4 (3 * n) bs
unfolding laid records triple
laid_records zero bs = refl
laid_records (suc n) bs =
    let e : 3 * suc n ≡ suc (suc (suc (3 * n))) = omega arith in
    rw e (simp (get_or-drop, drop-drop, laid_records n (drop 12 bs)))

laid_back : (n : ℕ) {bs : List ℕ} → Bytes bs → 12 * n ≤ length bs → words (laid (records triple 12 n bs)) ≡ take (12 * n) bs
laid_back n {bs} p h = let e : 12 * n ≡ 4 * (3 * n) = omega arith in rw (laid_records n bs, e) (words_back (3 * n) p (omega arith))

bytes_drop : (n : ℕ) {bs : List ℕ} → Bytes bs → Bytes (drop n bs)
bytes_drop zero p = p
bytes_drop (suc n) no_bytes = no_bytes
bytes_drop (suc n) (byte h p) = bytes_drop n p

-- a list is what is taken at a place, and what lies behind
at_place : (n m : ℕ) (l xs ys : List ℕ) → xs ≡ take m (drop n l) → drop (n + m) l ≡ ys → drop n l ≡ xs ++ ys
at_place n m l xs ys p q = rw (p, ← q, ← drop-drop m n l, take-append-drop)

module _ (es : List Entry) where
  abbrev us : List Ty
  us = types_of es []

  -- bs has the header and the areas of es
  pub record Areas (bs : List ℕ) : Type 0 where
    pub header : Header bs (length us) (length (elements_of us)) (length es) (length (spellings es))
    pub types : records triple 12 (length us) (drop 40 bs) ≡ type_records us 0 us
    pub elements : records first 4 (length (elements_of us)) (drop (40 + 12 * length us) bs) ≡ map (number us) (elements_of us)
    pub names : records triple 12 (length es) (drop (40 + 12 * length us + 4 * length (elements_of us)) bs) ≡ name_records us 0 es
    pub texts : drop (40 + 12 * length us + 4 * length (elements_of us) + 12 * length es) bs ≡ spellings es
    pub long : 40 + 12 * length us + 4 * length (elements_of us) + 12 * length es ≤ length bs

  head_words : (bs : List ℕ) → Areas bs
      → records first 4 10 bs
      ≡ 1 ∷ length us ∷ 40 ∷ length (elements_of us) ∷ (40 + 12 * length us) ∷ length es ∷ (40 + 12 * length us + 4 * length (elements_of us))
      ∷ length (spellings es) ∷ (40 + 12 * length us + 4 * length (elements_of us) + 12 * length es)
      ∷ (40 + 12 * length us + 4 * length (elements_of us) + 12 * length es + length (spellings es)) ∷ []
  unfolding records
  head_words bs a =
      let h = a.header in
      let t : word bs 36 ≡ 40 + 12 * length us + 4 * length (elements_of us) + 12 * length es + length (spellings es) = omega (arith, h.total, ap length a.texts, length-drop (40 + 12 * length us + 4 * length (elements_of us) + 12 * length es) bs, a.long) in
      simp (get_or-drop, drop-drop)
      (rw (h.version, h.types_count, h.types_from, h.elements_count, h.elements_from, h.names_count, h.names_from, h.texts_count, h.texts_from, t))

  behind : (n : ℕ) (bs : List ℕ) (m : ℕ) → n + m ≤ length bs → m ≤ length (drop n bs)
  behind n bs m h = omega (arith, length-drop n bs)

  pub areas_sheet : (bs : List ℕ) → Bytes bs → Areas bs → bs ≡ sheet_of es
  unfolding sheet_of
  areas_sheet bs p a =
      let k = length (elements_of us) in
      let n₁ = 40 + 12 * length us in
      let n₂ = n₁ + 4 * k in
      let l = a.long in
      let d₂ = at_place n₂ (12 * length es) bs _ _ (ap (λ r. words (laid r)) (sym a.names) ∙ laid_back (length es) (bytes_drop n₂ p) (behind n₂ bs _ (omega arith))) a.texts in
      let d₁ = at_place n₁ (4 * k) bs _ _ (ap words (sym a.elements) ∙ words_back k (bytes_drop n₁ p) (behind n₁ bs _ (omega arith))) d₂ in
      let d₀ = at_place 40 (12 * length us) bs _ _ (ap (λ r. words (laid r)) (sym a.types) ∙ laid_back (length us) (bytes_drop 40 p) (behind 40 bs _ (omega arith))) d₁ in
      let d = at_place 0 40 bs _ _ (ap words (sym (head_words bs a)) ∙ words_back 10 p (omega arith)) d₀ in
      d ∙ simp append_assoc

  pub sheet_areas : within_limits es ≡ true → Areas (sheet_of es)
  unfolding sheet_of
  sheet_areas w =
      let h = limits es w in
      let few : 8 + length us < 4294967296 = omega arith in
      let T = type_records us 0 us in
      let E = map (number us) (elements_of us) in
      let N = name_records us 0 es in
      let t : length T ≡ length us = types_many us 0 us in
      let e : length E ≡ length (elements_of us) = length-map (elements_of us) (number us) in
      let n : length N ≡ length es = names_many us 0 es in
      let d =
      laid_drop _ _ _ _ _ _ _ _ _ (words (laid T)) (words E) (words (laid N)) (spellings es) (12 * length us) (4 * length (elements_of us)) (12 * length es)
      (laid_length T ∙ omega arith) (words_length E ∙ omega arith) (laid_length N ∙ omega arith)
      in
      record {
        header = sheet_header es w;
        types = triples_at _ T _ _ t d.0 (types_small us few 0 us (omega arith));
        elements = words_at _ E _ _ e d.1 (numbers_small us few (elements_of us));
        names = triples_at _ N _ _ n d.2 (names_small us few 0 es (omega arith));
        texts = d.3;
        long = omega (arith, sheet_size es);
      }

-- a sheet, area by area
pub sheet_by_areas : (bs : List ℕ) (es : List Entry) → SheetOf bs es ↔ ((within_limits es ≡ true) × Bytes bs × Areas es bs)
sheet_by_areas bs es = (
  λ s. (s.limits, rw s.written (sheet_bytes es s.limits), rw s.written (sheet_areas es s.limits)),
  λ a. record { written = areas_sheet es bs a.1 a.2; limits = a.0 },
)
