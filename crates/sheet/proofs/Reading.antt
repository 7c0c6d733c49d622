-- The reader's steps over words and types.
use mathlib.Core.Path.{◌≡◌, refl, sym, ap, ◌∙◌, subst}
use mathlib.Core.Bool.{Bool, true, false, false≢true}
use mathlib.Core.List.{List, [], ◌∷◌, ◌++◌, map, map-append}
use Prim.Native.Nat.{ℕ, zero, suc, ◌+◌, ◌-◌, ◌*◌, ◌≤◌, ◌<◌}
use native.Mathlib.Nat.{zero-add, mul-zero}
use native.Mathlib.Numerals.{add-one}
use native.Mathlib.Omega.{arith}
use native.Mathlib.Decide.{dec_lt, ℕ_discrete}
use borrow.Author.Tests.{eq-eqb, ne_eqb, lt-ltb, le-ltb}
use lib.Dec.{eqb}
use lib.ListN.{length, get_or, set, take, drop, length-set, get_or-map, get_or-eq_default}
use lib.Seq.{take-suc-set, get_or-take, drop-drop}
use Rattle.meaning.specs.Limits.{largest_sheet, most_types}
use Rattle.meaning.specs.Base.{choose, test◌then◌else◌, word, records}
use Rattle.meaning.specs.Types.{Ty, unknown, tuple, tys}
use Rattle.meaning.specs.Sheet.{types_of, elements_of, spellings}
use Rattle.meaning.specs.Read.{numbered, type_from, entries_in, is_sheet}
use Rattle.meaning.proofs.Choices.{not_so}
use Rattle.meaning.proofs.SheetForm.{limits, sheet_is, sheet_size, sheet_length, Header, sheet_header}
use Rattle.meaning.proofs.Records.{first_word}
use Rattle.types.specs.Table.{Tab, denote, Wf, Made, built, shaped}
use Rattle.types.specs.Steps.{Asked, Listed}
use Rattle.types.proofs.Laws.{plain_number, unknown_number, grown_refl}
use Rattle.sheet.specs.Reading.{words_at, Bounds, Told, number_in, Below, Gathering, Gathered, Tupling, tuple_at, Forming}

-- ---- what a sheet's header says

pub sheet_head : (bs : List ℕ) → is_sheet bs ≡ true
    → Header bs (length (types_of (entries_in bs) [])) (length (elements_of (types_of (entries_in bs) []))) (length (entries_in bs)) (length (spellings (entries_in bs)))
sheet_head bs h =
    let s = sheet_is bs h in
    let es = entries_in bs in
    subst (λ x. Header x (length (types_of es [])) (length (elements_of (types_of es []))) (length es) (length (spellings es))) (sym s.written) (sheet_header es s.limits)

pub sheet_bounds : (bs : List ℕ) → is_sheet bs ≡ true → Bounds bs
sheet_bounds bs h =
    let s = sheet_is bs h in
    let l = limits (entries_in bs) s.limits in
    let d = sheet_head bs h in
    let e = ap length s.written ∙ sheet_size (entries_in bs) in
    record {
      short = omega (arith, ap length s.written, sheet_length (entries_in bs) s.limits);
      types = rw d.types_count l.types;
      elements = rw d.elements_count l.elements;
      names = rw d.names_count l.names;
      long = rw (d.types_count, d.elements_count, d.names_count) (omega arith);
    }

-- ---- telling

pub told_no : {P : Type 0} {bs : List ℕ} → (is_sheet bs ≡ true → ⊥) → Told P bs false
told_no {bs = bs} n = record { yes = λ e. absurd (false≢true e); no = λ e. not_so (is_sheet bs) n }

pub told_yes : {P : Type 0} {bs : List ℕ} → P → Told P bs true
told_yes p = record { yes = λ e. p; no = λ e. absurd (false≢true (sym e)) }

-- ---- numbers

pub number_plain : (xs : List ℕ) (n : ℕ) → n < 8 → number_in xs n ≡ n
unfolding number_in test◌then◌else◌
number_plain xs n h = rw (lt-ltb n 8 h)

number_other : (xs : List ℕ) (n : ℕ) → 8 ≤ n → number_in xs n ≡ get_or xs (n - 8) 0
unfolding number_in test◌then◌else◌
number_other xs n h = rw (le-ltb n 8 h)

pub number_found : (xs : List ℕ) (n : ℕ) → (n < 8 → ⊥) → get_or xs (n - 8) 0 ≡ number_in xs n
number_found xs n a = sym (number_other xs n (omega arith))

pub number_none : (xs : List ℕ) (n : ℕ) → (n < 8 → ⊥) → (n - 8 < length xs → ⊥) → 0 ≡ number_in xs n
number_none xs n a h = sym (number_other xs n (omega arith) ∙ get_or-eq_default xs 0 {n = n - 8} (omega arith))

-- what a number means
module _ {t : Tab} {xs : List ℕ} (b : Below t xs) where
  pub number_means : (n : ℕ) → denote t (number_in xs n) ≡ numbered (map (denote t) xs) n
  unfolding numbered test◌then◌else◌
  number_means n = elim (dec_lt n 8) [
    | yes h ↦ rw (number_plain xs n h, lt-ltb n 8 h) (plain_number b.wf n h)
    | no h ↦
        let g : 8 ≤ n = omega arith in
        rw (number_other xs n g, le-ltb n 8 g)
        (sym (get_or-map (denote t) xs (n - 8) 0) ∙ ap (get_or (map (denote t) xs) (n - 8)) (unknown_number b.wf))
  ]

  pub number_below : (n : ℕ) → number_in xs n < t.n
  number_below n = elim (dec_lt n 8) [
    | yes h ↦ rw (number_plain xs n h) (omega (arith, b.wf.base))
    | no h ↦
        let g : 8 ≤ n = omega arith in
        rw (number_other xs n g)
        (elim (dec_lt (n - 8) (length xs)) [
          | yes l ↦ b.each (n - 8) l
          | no l ↦ let z : get_or xs (n - 8) 0 ≡ 0 = get_or-eq_default xs 0 {n = n - 8} (omega arith) in omega (arith, b.wf.base)
        ])
  ]

  -- and what many mean
  numbers_mean : (ws : List ℕ) → map (denote t) (map (number_in xs) ws) ≡ map (numbered (map (denote t) xs)) ws
  numbers_mean [] = refl
  numbers_mean (w ∷ ws) = rw (number_means w, numbers_mean ws)

  numbers_below : (ws : List ℕ) (j : ℕ) → get_or (map (number_in xs) ws) j 0 < t.n
  numbers_below [] j = omega (arith, b.wf.base)
  numbers_below (w ∷ ws) zero = number_below w
  numbers_below (w ∷ ws) (suc j) = numbers_below ws j

-- ---- a Tuple's elements

records_snoc : {A : Type 0} (read : List ℕ → A) (size n : ℕ) (bs : List ℕ) → records read size (suc n) bs ≡ records read size n bs ++ (read (drop (size * n) bs) ∷ [])
unfolding records
records_snoc read size zero bs = rw (mul-zero size)
records_snoc read size (suc n) bs =
    let further : size + size * n ≡ size * suc n = omega arith in
    ap (λ rs. read bs ∷ rs) (records_snoc read size n (drop size bs) ∙ ap (λ (d : List ℕ). records read size n (drop size bs) ++ (read d ∷ [])) (drop-drop (size * n) size bs ∙ ap (λ x. drop x bs) further))

words_snoc : (bs : List ℕ) (at n : ℕ) → words_at bs at (suc n) ≡ words_at bs at n ++ (word bs (at + 4 * n) ∷ [])
unfolding words_at
words_snoc bs at n =
    records_snoc (λ r. word r 0) 4 n (drop at bs)
    ∙ ap (λ x. records (λ r. word r 0) 4 n (drop at bs) ++ (x ∷ [])) (ap (λ (d : List ℕ). word d 0) (drop-drop (4 * n) at bs) ∙ first_word bs (at + 4 * n))

pub record GatherLoop (bs : List ℕ) (at : ℕ) (xs : List ℕ) (q j : ℕ) (st : List ℕ) : Type 0 where
  pub many : q ≤ most_types
  pub long : at + 4 * q ≤ length bs
  pub short : length bs ≤ largest_sheet
  pub passed : j ≤ q
  pub size : length st ≡ most_types
  pub are : take j st ≡ map (number_in xs) (words_at bs at j)

pub gather_first : {bs : List ℕ} {at : ℕ} {xs : List ℕ} {q : ℕ} {st : List ℕ} → Gathering bs at q → length st ≡ most_types → GatherLoop bs at xs q 0 st
unfolding words_at records
gather_first g e = record { many = g.many; long = g.long; short = g.short; passed = omega arith; size = e; are = refl }

module _ {bs : List ℕ} {at : ℕ} {xs : List ℕ} {q j : ℕ} {st : List ℕ} (l : GatherLoop bs at xs q j st) where
  pub gather_next : {w r : ℕ} → j < q → w ≡ word bs (at + 4 * j) → r ≡ number_in xs w → GatherLoop bs at xs q (j + 1) (set st j r)
  gather_next {w} {r} h ew er = record {
    many = l.many;
    long = l.long;
    short = l.short;
    passed = omega arith;
    size = length-set st j r ∙ l.size;
    are =
        rw (add-one j)
        (take-suc-set st j r (omega (arith, l.size, l.many))
        ∙ ap (λ (ys : List ℕ). ys ++ (r ∷ [])) l.are
        ∙ ap (λ x. map (number_in xs) (words_at bs at j) ++ (x ∷ [])) (er ∙ ap (number_in xs) ew)
        ∙ sym (ap (map (number_in xs)) (words_snoc bs at j) ∙ map-append (number_in xs) (words_at bs at j) (word bs (at + 4 * j) ∷ [])));
  }

  pub gather_end : (j < q → ⊥) → Gathered bs at xs q st
  gather_end h =
      let e : j ≡ q = omega (arith, l.passed) in
      record { are = subst (λ x. take x st ≡ map (number_in xs) (words_at bs at x)) e l.are; size = l.size }

module _ {bs : List ℕ} {at : ℕ} {xs : List ℕ} {q : ℕ} {t : Tab} (p : Tupling bs at xs q t) where
  pub tuple_gather : Gathering bs at q
  tuple_gather = record { many = p.many; long = p.long; short = p.short }

  pub tuple_listed : {st : List ℕ} → Gathered bs at xs q st → Listed t st 0 q
  tuple_listed {st} g = record {
    wf = p.below.wf;
    room = p.room;
    space = p.space;
    inside = omega (arith, g.size, p.many);
    known = λ j h.
        rw (zero-add j, ← get_or-take q st j 0 h, g.are) (numbers_below p.below (words_at bs at q) j);
  }

  pub tuple_made : {st : List ℕ} {u : Tab} {r : ℕ} → Gathered bs at xs q st → Made t u r (tuple (tys (map (denote t) (take q (drop 0 st))))) q → Made t u r (tuple_at bs at xs q t) q
  tuple_made {st} {u} {r} g m =
      subst (λ (ys : List Ty). Made t u r (tuple (tys ys)) q) (ap (map (denote t)) g.are ∙ numbers_mean p.below (words_at bs at q)) m

-- ---- the other kinds

-- a kind that is none means Unknown, which every table has
none_made : {t : Tab} {ty : Ty} → Wf t → ty ≡ unknown → Made t t 0 ty 0
none_made w e = record {
  grown = grown_refl w;
  room = omega arith;
  space = omega arith;
  below = omega (arith, w.base);
  means = unknown_number w ∙ sym e;
  once = λ i a d. (refl, refl);
}

module _ (us : List Ty) (kind p q : ℕ) where
  other_unknown : (8 ≤ kind → kind ≤ 12 → ⊥) → type_from [] us (kind, p, q) ≡ unknown
  unfolding type_from choose test◌then◌else◌
  other_unknown n =
      let not : (k : ℕ) → 8 ≤ k → k ≤ 12 → kind ≡ k → ⊥ = λ k l m e. n (omega arith) (omega arith) in
      rw (
        ne_eqb kind 8 (not 8 (omega arith) (omega arith)),
        ne_eqb kind 9 (not 9 (omega arith) (omega arith)),
        ne_eqb kind 10 (not 10 (omega arith) (omega arith)),
        ne_eqb kind 11 (not 11 (omega arith) (omega arith)),
        ne_eqb kind 12 (not 12 (omega arith) (omega arith)),
      )

  -- a kind with parts is formed of their meanings: the second one only for a Dict
  built_is : (a b : Ty) → 8 ≤ kind → kind ≤ 12 → (kind ≡ 10 → ⊥) → a ≡ numbered us p → (kind ≡ 9 → b ≡ numbered us q) → built kind a b ≡ type_from [] us (kind, p, q)
  unfolding built shaped type_from choose test◌then◌else◌
  built_is a b l m n ea eb = elim (ℕ_discrete kind 8) [
    | yes e ↦ rw (eq-eqb kind 8 e, ea)
    | no n8 ↦ elim (ℕ_discrete kind 9) [
      | yes e ↦ rw (ne_eqb kind 8 n8, eq-eqb kind 9 e, ea, eb e)
      | no n9 ↦ elim (ℕ_discrete kind 11) [
        | yes e ↦ rw (ne_eqb kind 8 n8, ne_eqb kind 9 n9, ne_eqb kind 10 n, eq-eqb kind 11 e, ea)
        | no n11 ↦ let e : kind ≡ 12 = omega arith in rw (ne_eqb kind 8 n8, ne_eqb kind 9 n9, ne_eqb kind 10 n, ne_eqb kind 11 n11, eq-eqb kind 12 e, ea)
      ]
    ]
  ]

pub second_dict : (kind x : ℕ) → kind ≡ 9 → ◌≡◌ {A = ℕ} (test eqb kind 9 then x else 0) x
unfolding test◌then◌else◌
second_dict kind x e = rw (eq-eqb kind 9 e)

pub second_other : (kind x : ℕ) → (kind ≡ 9 → ⊥) → ◌≡◌ {A = ℕ} (test eqb kind 9 then x else 0) 0
unfolding test◌then◌else◌
second_other kind x n = rw (ne_eqb kind 9 n)

module _ {xs : List ℕ} {kind : ℕ} {t : Tab} (f : Forming xs kind t) (p q : ℕ) where
  pub form_none : (8 ≤ kind → kind ≤ 12 → ⊥) → Made t t 0 (type_from [] (map (denote t) xs) (kind, p, q)) 0
  form_none n = none_made f.below.wf (other_unknown (map (denote t) xs) kind p q n)

  module _ {a b : ℕ} (l : kind < 8 → ⊥) (m : 12 < kind → ⊥) (ea : a ≡ number_in xs p) (eb : b ≡ (test eqb kind 9 then number_in xs q else 0)) where
    second_below : b < t.n
    second_below = elim (ℕ_discrete kind 9) [
      | yes e ↦ rw (eb ∙ second_dict kind _ e) (number_below f.below q)
      | no n ↦ rw (eb ∙ second_other kind _ n) (omega (arith, f.below.wf.base))
    ]

    pub form_asked : Asked t kind a b
    form_asked = record {
      wf = f.below.wf;
      room = f.room;
      least = omega arith;
      most = omega arith;
      no_tuple = f.other;
      first = rw ea (number_below f.below p);
      second = second_below;
      unused = λ n. eb ∙ second_other kind _ n;
    }

    pub form_made : {u : Tab} {r : ℕ} → Made t u r (built kind (denote t a) (denote t b)) 0 → Made t u r (type_from [] (map (denote t) xs) (kind, p, q)) 0
    form_made {u} {r} x =
        subst (λ y. Made t u r y 0)
        (built_is (map (denote t) xs) kind p q (denote t a) (denote t b) (omega arith) (omega arith) f.other
        (ap (denote t) ea ∙ number_means f.below p)
        (λ e. ap (denote t) (eb ∙ second_dict kind _ e) ∙ number_means f.below q))
        x

-- ---- handing on a refusal

pub told_not : {P Q : Type 0} {bs : List ℕ} {r : Bool} → Told P bs r → r ≡ false → Told Q bs false
told_not t e = record { yes = λ h. absurd (false≢true h); no = λ h. t.no e }
