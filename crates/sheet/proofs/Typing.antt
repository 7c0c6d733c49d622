-- The type records of a byte string, one after the other, and what they are in a sheet.
use mathlib.Core.Path.{◌≡◌, refl, sym, ap, ◌∙◌, subst}
use mathlib.Core.Bool.{true}
use mathlib.Core.List.{List, [], ◌∷◌, ◌++◌, map, map-append}
use Prim.Native.Nat.{ℕ, zero, suc, ◌+◌, ◌-◌, ◌*◌, ◌≤◌, ◌<◌}
use native.Mathlib.Nat.{mul-zero}
use native.Mathlib.Numerals.{add-one}
use native.Mathlib.Omega.{arith}
use native.Mathlib.Decide.{dec_lt, ℕ_discrete}
use borrow.Author.Tests.{eq-eqb, ne_eqb}
use lib.ListN.{length, get_or, set, take, drop, length-set, length-append, drop_of_length-le, get_or-append}
use lib.Seq.{drop-cons, drop-drop, take-suc-set, get_or-append_seam}
use Rattle.meaning.specs.Limits.{most_types}
use Rattle.meaning.specs.Base.{choose, test◌then◌else◌, word, records}
use Rattle.meaning.specs.Types.{Ty, tuple, tys, kind}
use Rattle.meaning.specs.Sheet.{Entry, Triple, types_of, elements_in, elements_of, type_record, type_records}
use Rattle.meaning.specs.Read.{triple, numbered, type_from, types_from, entries_in, is_sheet}
use Rattle.meaning.proofs.Choices.{records_many}
use Rattle.meaning.proofs.SheetForm.{sheet_is}
use Rattle.meaning.proofs.SheetAreas.{Areas, sheet_areas}
use Rattle.meaning.proofs.Records.{word_drop, first_word, record_at}
use Rattle.types.specs.Table.{most_numbers, Tab, tab, capacity, denote, Wf, Grown, Made}
use Rattle.sheet.specs.Reading.{elements_at, words_at, triples_at, tuple_sum, Bounds, Below, Tupling, tuple_at, Forming, types_left, Typing, Typed, TypesRead}
use Rattle.sheet.specs.Reading.{elements_in as elements_read}
use Rattle.sheet.proofs.Sizes.{elements_tuple, elements_none}
use Rattle.sheet.proofs.Reading.{sheet_head}

-- ---- records and words by their place

pub triple_at : (bs : List ℕ) (at : ℕ) {a b c : ℕ} → a ≡ word bs at → b ≡ word bs (at + 4) → c ≡ word bs (at + 8) → triple (drop at bs) ≡ (a, b, c)
unfolding triple
triple_at bs at ea eb ec = rw (first_word bs at, word_drop bs at 4, word_drop bs at 8, ea, eb, ec)

pub triples_step : (bs : List ℕ) (at n k : ℕ) → k < n → drop k (triples_at bs at n) ≡ triple (drop (at + 12 * k) bs) ∷ drop (k + 1) (triples_at bs at n)
unfolding triples_at
triples_step bs at n k h =
    let rs = records triple 12 n (drop at bs) in
    let inside : k < length rs = omega (arith, records_many triple 12 n (drop at bs)) in
    rw (drop-cons rs k (0, 0, 0) inside, record_at triple 12 n at bs k (0, 0, 0) h, add-one k)

pub triples_many : (bs : List ℕ) (at n : ℕ) → length (triples_at bs at n) ≡ n
unfolding triples_at
triples_many bs at n = records_many triple 12 n (drop at bs)

pub triples_get : (bs : List ℕ) (at n k : ℕ) → k < n → get_or (triples_at bs at n) k (0, 0, 0) ≡ triple (drop (at + 12 * k) bs)
unfolding triples_at
triples_get bs at n k h = record_at triple 12 n at bs k (0, 0, 0) h

take_records : {A : Type 0} (read : List ℕ → A) (size n q : ℕ) (bs : List ℕ) → q ≤ n → take q (records read size n bs) ≡ records read size q bs
unfolding records
take_records read size n zero bs h = refl
take_records read size zero (suc q) bs h = absurd (omega arith)
take_records read size (suc n) (suc q) bs h = ap (λ rs. read bs ∷ rs) (take_records read size n q (drop size bs) (omega arith))

drop_records : {A : Type 0} (read : List ℕ → A) (size n p : ℕ) (bs : List ℕ) → p ≤ n → drop p (records read size n bs) ≡ records read size (n - p) (drop (size * p) bs)
unfolding records
drop_records read size n zero bs h = let e : n - 0 ≡ n = omega arith in rw (e, mul-zero size)
drop_records read size zero (suc p) bs h = absurd (omega arith)
drop_records read size (suc n) (suc p) bs h =
    let e : suc n - suc p ≡ n - p = omega arith in
    let further : size + size * p ≡ size * suc p = omega arith in
    rw e (drop_records read size n p (drop size bs) (omega arith) ∙ ap (λ (d : List ℕ). records read size (n - p) d) (drop-drop (size * p) size bs ∙ ap (λ x. drop x bs) further))

piece_words : (bs : List ℕ) (at n p q : ℕ) → p + q ≤ n → take q (drop p (words_at bs at n)) ≡ words_at bs (at + 4 * p) q
unfolding words_at
piece_words bs at n p q h =
    ap (take q) (drop_records (λ r. word r 0) 4 n p (drop at bs) (omega arith) ∙ ap (λ (d : List ℕ). records (λ r. word r 0) 4 (n - p) d) (drop-drop (4 * p) at bs))
    ∙ take_records (λ r. word r 0) 4 (n - p) q (drop (at + 4 * p) bs) (omega arith)

-- ---- the records of a sheet

module _ (us : List Ty) where
  record_kind : (from : ℕ) (t : Ty) → (type_record us from t).0 ≡ kind t
  unfolding type_record test◌then◌else◌
  record_kind from t = elim (ℕ_discrete (kind t) 10) [ yes e ↦ rw (eq-eqb _ _ e) (sym e) | no n ↦ rw (ne_eqb _ _ n) ]

  record_first : (from : ℕ) (t : Ty) → kind t ≡ 10 → (type_record us from t).1 ≡ from
  unfolding type_record test◌then◌else◌
  record_first from t e = rw (eq-eqb _ _ e)

  record_second : (from : ℕ) (t : Ty) → kind t ≡ 10 → (type_record us from t).2 ≡ length (elements_in t)
  unfolding type_record test◌then◌else◌
  record_second from t e = rw (eq-eqb _ _ e) (ap length (sym (elements_tuple t e)))

  sum_records : (from : ℕ) (ts : List Ty) → tuple_sum (type_records us from ts) ≡ length (elements_of ts)
  unfolding tuple_sum type_records elements_of test◌then◌else◌
  sum_records from [] = refl
  sum_records from (t ∷ ts) =
      let ih = sum_records (from + length (elements_in t)) ts in
      let l = length-append (elements_in t) (elements_of ts) in
      elim (ℕ_discrete (kind t) 10) [
        | yes e ↦ rw (record_kind from t, eq-eqb _ _ e, record_second from t e) (omega (arith, ih, l))
        | no n ↦ rw (record_kind from t, ne_eqb _ _ n) (omega (arith, ih, l, ap length (elements_none t n)))
      ]

  record_inside : (from : ℕ) (ts : List Ty) (k : ℕ) → k < length ts → (get_or (type_records us from ts) k (0, 0, 0)).0 ≡ 10
      → (get_or (type_records us from ts) k (0, 0, 0)).1 + (get_or (type_records us from ts) k (0, 0, 0)).2 ≤ from + length (elements_of ts)
  unfolding type_records elements_of
  record_inside from [] k h e = absurd (omega arith)
  record_inside from (t ∷ ts) zero h e =
      let k10 : kind t ≡ 10 = sym (record_kind from t) ∙ e in
      omega (arith, record_first from t k10, record_second from t k10, length-append (elements_in t) (elements_of ts))
  record_inside from (t ∷ ts) (suc k) h e =
      omega (arith, record_inside (from + length (elements_in t)) ts k (omega arith) e, length-append (elements_in t) (elements_of ts))

module _ (bs : List ℕ) (h : is_sheet bs ≡ true) where
  abbrev es : List Entry
  es = entries_in bs

  abbrev us : List Ty
  us = types_of es []

  pub areas_of : Areas es bs
  areas_of = subst (Areas es) (sym (sheet_is bs h).written) (sheet_areas es (sheet_is bs h).limits)

  sheet_records : triples_at bs 40 (word bs 4) ≡ type_records us 0 us
  unfolding triples_at
  sheet_records = ap (λ n. records triple 12 n (drop 40 bs)) (sheet_head bs h).types_count ∙ areas_of.types

  pub sheet_sum : tuple_sum (triples_at bs 40 (word bs 4)) ≡ word bs 12
  sheet_sum = ap tuple_sum sheet_records ∙ sum_records us 0 us ∙ sym (sheet_head bs h).elements_count

  pub sheet_inside : (k : ℕ) {a b c : ℕ} → k < word bs 4 → triple (drop (40 + 12 * k) bs) ≡ (a, b, c) → a ≡ 10 → b + c ≤ word bs 12
  sheet_inside k {a} {b} {c} l e ten =
      let head = sheet_head bs h in
      let r : get_or (type_records us 0 us) k (0, 0, 0) ≡ (a, b, c) = ap (λ (rs : List Triple). get_or rs k (0, 0, 0)) (sym sheet_records) ∙ triples_get bs 40 (word bs 4) k l ∙ e in
      let i = record_inside us 0 us k (omega (arith, head.types_count)) (ap (λ (x : Triple). x.0) r ∙ ten) in
      omega (arith, i, ap (λ (x : Triple). x.1) r, ap (λ (x : Triple). x.2) r, head.elements_count)

-- ---- one record

from_other : (es fs : List ℕ) (us : List Ty) (a b c : ℕ) → (a ≡ 10 → ⊥) → type_from es us (a, b, c) ≡ type_from fs us (a, b, c)
unfolding type_from choose test◌then◌else◌
from_other es fs us a b c n = rw (ne_eqb a 10 n)

from_tuple : (es : List ℕ) (us : List Ty) (a b c : ℕ) → a ≡ 10 → type_from es us (a, b, c) ≡ tuple (tys (map (numbered us) (take c (drop b es))))
unfolding type_from choose test◌then◌else◌
from_tuple es us a b c e = rw (ne_eqb a 8 (λ z. absurd (omega arith)), ne_eqb a 9 (λ z. absurd (omega arith)), eq-eqb a 10 e)

module _ {bs xs : List ℕ} {k used : ℕ} {t : Tab} (y : Typing bs xs k used t) where
  module _ {a b c : ℕ} (ea : a ≡ word bs (40 + 12 * k)) (eb : b ≡ word bs (40 + 12 * k + 4)) (ec : c ≡ word bs (40 + 12 * k + 8)) where
    here_is : triple (drop (40 + 12 * k) bs) ≡ (a, b, c)
    here_is = triple_at bs (40 + 12 * k) ea eb ec

    sum_other : (a ≡ 10 → ⊥) → tuple_sum (types_left bs k) ≡ tuple_sum (types_left bs (k + 1))
    unfolding tuple_sum test◌then◌else◌
    sum_other n = rw (triples_step bs 40 (word bs 4) k y.here, here_is, ne_eqb a 10 n)

    sum_tuple : a ≡ 10 → tuple_sum (types_left bs k) ≡ c + tuple_sum (types_left bs (k + 1))
    unfolding tuple_sum test◌then◌else◌
    sum_tuple e = rw (triples_step bs 40 (word bs 4) k y.here, here_is, eq-eqb a 10 e)

    pub typing_forming : (a ≡ 10 → ⊥) → Forming xs a t
    typing_forming n = record { below = y.below; room = omega (arith, y.room, y.here, y.bounds.types, y.wide); other = n }

    pub typed_other : {u : Tab} {r : ℕ} → (a ≡ 10 → ⊥) → Made t u r (type_from [] (map (denote t) xs) (a, b, c)) 0 → Typed bs xs k used t u used r
    typed_other {u} {r} n m = record {
      grown = m.grown;
      room = m.room;
      space = omega (arith, m.space, y.space);
      within = y.within;
      sum = omega (arith, y.sum, sum_other n);
      below = m.below;
      means = m.means ∙ from_other [] (elements_read bs) (map (denote t) xs) a b c n ∙ ap (type_from (elements_read bs) (map (denote t) xs)) (sym here_is);
    }

    pub refuse_inside : {e : ℕ} → a ≡ 10 → e ≡ word bs 12 → e < b + c → is_sheet bs ≡ true → ⊥
    refuse_inside ten ee l s = absurd (omega (arith, sheet_inside bs s k y.here here_is ten))

    pub refuse_sum : {e : ℕ} → a ≡ 10 → e ≡ word bs 12 → e < used + c → is_sheet bs ≡ true → ⊥
    refuse_sum ten ee l s = absurd (omega (arith, y.sum, sum_tuple ten, sheet_sum bs s))

    module _ {e n : ℕ} (ten : a ≡ 10) (ee : e ≡ word bs 12) (inside : e < b + c → ⊥) (fits : e < used + c → ⊥) (en : n ≡ word bs 4) where
      pub typing_tupling : Tupling bs (40 + 12 * n + 4 * b) xs c t
      typing_tupling = record {
        below = y.below;
        room = omega (arith, y.room, y.here, y.bounds.types, y.wide);
        many = omega (arith, y.bounds.elements);
        space = omega (arith, y.space, y.bounds.elements, y.wide);
        long = omega (arith, y.bounds.long);
        short = y.bounds.short;
      }

      pub typed_tuple : {u : Tab} {r : ℕ} → Made t u r (tuple_at bs (40 + 12 * n + 4 * b) xs c t) c → Typed bs xs k used t u (used + c) r
      unfolding elements_read
      typed_tuple {u} {r} m =
          let vs = map (denote t) xs in
          let piece : words_at bs (40 + 12 * n + 4 * b) c ≡ take c (drop b (elements_read bs)) =
          ap (λ x. words_at bs (40 + 12 * x + 4 * b) c) en ∙ sym (piece_words bs (elements_at bs) (word bs 12) b c (omega arith)) in
          record {
            grown = m.grown;
            room = m.room;
            space = omega (arith, m.space, y.space);
            within = omega arith;
            sum = omega (arith, y.sum, sum_tuple ten);
            below = m.below;
            means =
                m.means ∙ ap (λ (ws : List ℕ). tuple (tys (map (numbered vs) ws))) piece
                ∙ sym (from_tuple (elements_read bs) vs a b c ten)
                ∙ ap (type_from (elements_read bs) vs) (sym here_is);
          }

-- ---- all records

map_grown : {t u : Tab} → Grown t u → (xs : List ℕ) → ((j : ℕ) → j < length xs → get_or xs j 0 < t.n) → map (denote u) xs ≡ map (denote t) xs
map_grown g [] h = refl
map_grown g (x ∷ xs) h = rw (g.same x (h 0 (omega arith)), map_grown g xs (λ j l. h (suc j) (omega arith)))

below_snoc : {t u : Tab} {r : ℕ} (xs : List ℕ) → Below t xs → Grown t u → r < u.n → Below u (xs ++ (r ∷ []))
below_snoc {t} {u} {r} xs b g l = record {
  wf = g.wf;
  each = λ j h. elim (dec_lt j (length xs)) [
    | yes a ↦ rw (get_or-append xs (r ∷ []) 0 j a) (omega (arith, b.each j a, g.more))
    | no a ↦ let e : j ≡ length xs = omega (arith, length-append xs (r ∷ [])) in rw (e, get_or-append_seam xs r [] 0) l
  ];
}

pub record TypesLoop (bs xs : List ℕ) (n k used : ℕ) (t : Tab) : Type 0 where
  pub bounds : Bounds bs
  pub many : n ≡ word bs 4
  pub passed : k ≤ n
  pub size : length xs ≡ most_types
  pub below : Below t (take k xs)
  pub wide : most_numbers ≤ capacity t.cells
  pub room : t.n ≤ 8 + k
  pub space : t.m ≤ used
  pub within : used ≤ word bs 12
  pub sum : used + tuple_sum (types_left bs k) ≡ tuple_sum (types_left bs 0)
  pub left : types_from (elements_read bs) (map (denote t) (take k xs)) (types_left bs k) ≡ types_from (elements_read bs) [] (triples_at bs 40 (word bs 4))

pub loop_first : {bs xs cs : List ℕ} {n : ℕ} → Bounds bs → Wf (tab cs 8 0) → most_numbers ≤ capacity cs → length xs ≡ most_types → n ≡ word bs 4 → TypesLoop bs xs n 0 0 (tab cs 8 0)
loop_first b w v s e = record {
  bounds = b;
  many = e;
  passed = omega arith;
  size = s;
  below = record { wf = w; each = λ j h. absurd (omega arith) };
  wide = v;
  room = omega arith;
  space = omega arith;
  within = omega arith;
  sum = omega arith;
  left = refl;
}

module _ {bs xs : List ℕ} {n k used : ℕ} {t : Tab} (l : TypesLoop bs xs n k used t) where
  pub loop_typing : k < n → Typing bs (take k xs) k used t
  loop_typing h = record {
    bounds = l.bounds;
    here = omega (arith, l.many);
    below = l.below;
    wide = l.wide;
    room = l.room;
    space = l.space;
    within = l.within;
    sum = l.sum;
  }

  pub loop_next : {u : Tab} {after r : ℕ} → k < n → Typed bs (take k xs) k used t u after r → TypesLoop bs (set xs k r) n (k + 1) after u
  unfolding types_from
  loop_next {u} {after} {r} h d =
      let more : take (k + 1) (set xs k r) ≡ take k xs ++ (r ∷ []) = rw (add-one k) (take-suc-set xs k r (omega (arith, l.size, l.many, l.bounds.types))) in
      let old : map (denote u) (take k xs) ≡ map (denote t) (take k xs) = map_grown d.grown (take k xs) l.below.each in
      let rec = triple (drop (40 + 12 * k) bs) in
      let vs = map (denote t) (take k xs) in
      let types : map (denote u) (take (k + 1) (set xs k r)) ≡ vs ++ (type_from (elements_read bs) vs rec ∷ []) =
      ap (map (denote u)) more ∙ map-append (denote u) (take k xs) (r ∷ []) ∙ ap (λ (ys : List Ty). ys ++ (denote u r ∷ [])) old ∙ ap (λ y. vs ++ (y ∷ [])) d.means in
      record {
        bounds = l.bounds;
        many = l.many;
        passed = omega arith;
        size = length-set xs k r ∙ l.size;
        below = subst (Below u) (sym more) (below_snoc (take k xs) l.below d.grown d.below);
        wide = omega (arith, l.wide, d.grown.as_wide);
        room = omega (arith, l.room, d.room);
        space = d.space;
        within = d.within;
        sum = d.sum;
        left =
            ap (λ (ys : List Ty). types_from (elements_read bs) ys (types_left bs (k + 1))) types
            ∙ sym (ap (types_from (elements_read bs) vs) (triples_step bs 40 (word bs 4) k (omega (arith, l.many))))
            ∙ l.left;
      }

  pub loop_small : {u : Tab} {after r : ℕ} → Typed bs (take k xs) k used t u after r → r < 65536
  loop_small d = omega (arith, d.below, d.grown.wf.room, d.grown.wf.most)

  pub loop_end : (k < n → ⊥) → TypesRead bs (take n xs) t
  unfolding types_from
  loop_end h =
      let e : k ≡ n = omega (arith, l.passed) in
      let short : length (triples_at bs 40 (word bs 4)) ≤ k = omega (arith, l.many, triples_many bs 40 (word bs 4)) in
      let none : types_left bs k ≡ [] = drop_of_length-le (triples_at bs 40 (word bs 4)) short in
      record {
        below = subst (λ x. Below t (take x xs)) e l.below;
        are = ap (λ x. map (denote t) (take x xs)) (sym e) ∙ sym (ap (types_from (elements_read bs) (map (denote t) (take k xs))) none) ∙ l.left;
      }

-- ---- what the code's tests and sums say

pub not_lt : {a b : ℕ} → b ≤ a → a < b → ⊥
not_lt h l = absurd (omega arith)
