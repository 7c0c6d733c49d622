-- The sheet's areas read back: type records, elements, name records, texts.
use mathlib.Core.Path.{◌≡◌, refl, ◌∙◌, ap, sym}
use mathlib.Core.List.{List, [], ◌∷◌, ◌++◌, map, map-append, append-nil, Memᴰ}
use Prim.Native.Nat.{ℕ, suc, ◌+◌, ◌<◌}
use native.Mathlib.Omega.{arith}
use lib.ListN.{length, take, drop, length-append, length-map}
use lib.Seq.{append_snoc, take_at, drop_at, take-append_seam, drop-drop}
use Rattle.meaning.specs.Base.{test◌then◌else◌, choose}
use Rattle.meaning.specs.Types.{Ty, unknown, int, bool, string, float, nonetype, range, function, list, dict, tuple, map_iter, filter_iter, Tys, no_types, ◌⊕◌, kind, parts, elements, tys}
use Rattle.meaning.specs.Sheet.{Entry, number, elements_in, elements_of, type_record, type_records, spellings, name_records}
use Rattle.meaning.specs.Read.{numbered, type_from, types_from}
use Rattle.meaning.proofs.SheetWords.{Small, Smalls, Small3s}
use Rattle.meaning.proofs.SheetTypes.{Known, Next, Ordered, number_le, number_read}

tys_elements : (ts : Tys) → tys (elements ts) ≡ ts
unfolding tys elements
tys_elements no_types = refl
tys_elements (t ⊕ ts) = rw (tys_elements ts)

-- a piece of a list that begins at `from`, and what follows it
after : (from : ℕ) (l xs ys : List ℕ) (n : ℕ) → length xs ≡ n → drop from l ≡ xs ++ ys → drop (from + n) l ≡ ys
after from l xs ys n h d = sym (drop-drop n from l) ∙ rw d (drop_at xs ys n h)

-- ---- the types

module _ (us ps vs : List Ty) (e : us ≡ ps ++ vs) where
  numbers_read : (ts : List Ty) → Known ps ts → map (numbered ps) (map (number us) ts) ≡ ts
  numbers_read [] k = refl
  numbers_read (t ∷ ts) k =
      rw (number_read ps vs us e t (k t (Memᴰ.head refl)), numbers_read ts (λ a m. k a (Memᴰ.tail m)))

  type_read : (es : List ℕ) (from : ℕ) (rest : List ℕ) (t : Ty) → Next ps t → drop from es ≡ map (number us) (elements_in t) ++ rest
      → type_from es ps (type_record us from t) ≡ t
  unfolding type_from type_record choose test◌then◌else◌ kind parts elements_in
  type_read es from rest unknown n d = absurd (omega (arith, n.structured))
  type_read es from rest int n d = absurd (omega (arith, n.structured))
  type_read es from rest bool n d = absurd (omega (arith, n.structured))
  type_read es from rest string n d = absurd (omega (arith, n.structured))
  type_read es from rest float n d = absurd (omega (arith, n.structured))
  type_read es from rest nonetype n d = absurd (omega (arith, n.structured))
  type_read es from rest range n d = absurd (omega (arith, n.structured))
  type_read es from rest function n d = absurd (omega (arith, n.structured))
  type_read es from rest (list t) n d = rw (number_read ps vs us e t (n.known t (Memᴰ.head refl)))
  type_read es from rest (dict k v) n d =
      rw (number_read ps vs us e k (n.known k (Memᴰ.head refl)), number_read ps vs us e v (n.known v (Memᴰ.tail (Memᴰ.head refl))))
  type_read es from rest (tuple ts) n d =
      rw (d, take_at (map (number us) (elements ts)) rest (length (elements ts)) (length-map (elements ts) (number us)), numbers_read (elements ts) n.known, tys_elements ts)
  type_read es from rest (map_iter t) n d = rw (number_read ps vs us e t (n.known t (Memᴰ.head refl)))
  type_read es from rest (filter_iter t) n d = rw (number_read ps vs us e t (n.known t (Memᴰ.head refl)))

pub types_read : (us : List Ty) (es : List ℕ) (ps ts : List Ty) (from : ℕ) → us ≡ ps ++ ts → Ordered ps ts → drop from es ≡ map (number us) (elements_of ts)
    → types_from es ps (type_records us from ts) ≡ us
unfolding types_from type_records elements_of
types_read us es ps [] from e o d = sym (rw append-nil at e)
types_read us es ps (t ∷ ts) from e o d =
    let d₁ = d ∙ map-append (number us) (elements_in t) (elements_of ts) in
    ap (λ u. types_from es (ps ++ (u ∷ [])) (type_records us (from + length (elements_in t)) ts))
    (type_read us ps (t ∷ ts) e es from (map (number us) (elements_of ts)) t o.0 d₁)
    ∙ types_read us es (ps ++ (t ∷ [])) ts (from + length (elements_in t)) (e ∙ sym (append_snoc ps t ts)) o.1
    (after from es (map (number us) (elements_in t)) _ _ (length-map (elements_in t) (number us)) d₁)

-- ---- the names

pub names_read : (us : List Ty) (texts : List ℕ) (es : List Entry) (from : ℕ) → Known us (map (λ e. e.1) es) → drop from texts ≡ spellings es
    → map (λ r. (take r.1 (drop r.0 texts), numbered us r.2)) (name_records us from es) ≡ es
unfolding name_records spellings
names_read us texts [] from k d = refl
names_read us texts (e ∷ es) from k d =
    rw (
      names_read us texts es (from + length e.0) (λ a m. k a (Memᴰ.tail m)) (after from texts e.0 _ _ refl d),
      d,
      take-append_seam e.0 (spellings es),
      number_read us [] us (sym (append-nil us)) e.1 (k e.1 (Memᴰ.head refl)),
    )

-- ---- every word is a word

module _ (us : List Ty) (few : 8 + length us < 4294967296) where
  pub numbers_small : (ts : List Ty) → Smalls (map (number us) ts)
  numbers_small [] = tt
  numbers_small (t ∷ ts) = (omega (arith, number_le us t), numbers_small ts)

  type_small : (from : ℕ) (t : Ty) → from + length (elements_in t) < 4294967296
      → Small (type_record us from t).0 × Small (type_record us from t).1 × Small (type_record us from t).2
  unfolding type_record test◌then◌else◌ kind parts elements_in
  type_small from unknown h = omega arith
  type_small from int h = omega arith
  type_small from bool h = omega arith
  type_small from string h = omega arith
  type_small from float h = omega arith
  type_small from nonetype h = omega arith
  type_small from range h = omega arith
  type_small from function h = omega arith
  type_small from (list t) h = omega (arith, number_le us t)
  type_small from (dict k v) h = omega (arith, number_le us k, number_le us v)
  type_small from (tuple ts) h = omega arith
  type_small from (map_iter t) h = omega (arith, number_le us t)
  type_small from (filter_iter t) h = omega (arith, number_le us t)

  pub types_small : (from : ℕ) (ts : List Ty) → from + length (elements_of ts) < 4294967296 → Small3s (type_records us from ts)
  unfolding type_records elements_of
  types_small from [] h = tt
  types_small from (t ∷ ts) h =
      let l = length-append (elements_in t) (elements_of ts) in
      (type_small from t (omega arith), types_small (from + length (elements_in t)) ts (omega arith))

  pub names_small : (from : ℕ) (es : List Entry) → from + length (spellings es) < 4294967296 → Small3s (name_records us from es)
  unfolding name_records spellings
  names_small from [] h = tt
  names_small from (e ∷ es) h =
      let l = length-append e.0 (spellings es) in
      ((omega arith, omega arith, omega (arith, number_le us e.1)), names_small (from + length e.0) es (omega arith))

pub types_many : (us : List Ty) (from : ℕ) (ts : List Ty) → length (type_records us from ts) ≡ length ts
unfolding type_records
types_many us from [] = refl
types_many us from (t ∷ ts) = ap suc (types_many us (from + length (elements_in t)) ts)

pub names_many : (us : List Ty) (from : ℕ) (es : List Entry) → length (name_records us from es) ≡ length es
unfolding name_records
names_many us from [] = refl
names_many us from (e ∷ es) = ap suc (names_many us (from + length e.0) es)
