-- A piece of a list, q elements from a on: when two have the same meanings, and what follows where they have.
use mathlib.Core.Path.{◌≡◌, refl, sym, ap, ◌∙◌}
use mathlib.Core.List.{List, [], ◌∷◌, map}
use Prim.Native.Nat.{ℕ, zero, suc, ◌+◌, ◌-◌, ◌≤◌, ◌<◌}
use native.Mathlib.Nat.{add-zero, add-suc, suc-add}
use native.Mathlib.Omega.{arith}
use lib.ListN.{length, get_or, take, drop, length-take, length-drop, length-map, get_or-map}
use lib.Seq.{drop-cons, get_or-take, get_or-drop, ext_get_or}
use Rattle.meaning.specs.Types.{Ty, tys, elements, tuple, parts}

-- the abbreviation that the laws below speak of
abbrev pub piece : ℕ → ℕ → List ℕ → List ℕ
piece a q xs = take q (drop a xs)

-- how long the range from a to a + q is
pub part_long : (a q : ℕ) → a + q - a ≡ q
part_long a q = omega arith

pub piece_at : (xs : List ℕ) (a q j : ℕ) → j < q → get_or (piece a q xs) j 0 ≡ get_or xs (a + j) 0
piece_at xs a q j h = get_or-take q (drop a xs) j 0 h ∙ get_or-drop a xs j 0

pub piece_long : (xs : List ℕ) (a q : ℕ) → a + q ≤ length xs → length (piece a q xs) ≡ q
piece_long xs a q h = simp (length-take, length-drop) (omega arith)

-- two pieces are the same where their elements are, one by one
pub piece_same : (xs ys : List ℕ) (a b q : ℕ) → a + q ≤ length xs → b + q ≤ length ys
    → ((j : ℕ) → j < q → get_or xs (a + j) 0 ≡ get_or ys (b + j) 0) → piece a q xs ≡ piece b q ys
piece_same xs ys a b q h l e =
    ext_get_or 0 (piece a q xs) (piece b q ys) (piece_long xs a q h ∙ sym (piece_long ys b q l))
    (λ j k.
    let i : j < q = omega (arith, piece_long xs a q h) in
    piece_at xs a q j i ∙ e j i ∙ sym (piece_at ys b q j i))

-- two pieces mean the same where their elements do, one by one
pub piece_map : (f g : ℕ → Ty) (xs ys : List ℕ) (a b q : ℕ) → a + q ≤ length xs → b + q ≤ length ys
    → ((j : ℕ) → j < q → f (get_or xs (a + j) 0) ≡ g (get_or ys (b + j) 0)) → map f (piece a q xs) ≡ map g (piece b q ys)
piece_map f g xs ys a b zero h l e = refl
piece_map f g xs ys a b (suc q) h l e =
    let x : f (get_or xs a 0) ≡ g (get_or ys b 0) = simp add-zero at (e 0 (omega arith)) in
    let ih : map f (piece (suc a) q xs) ≡ map g (piece (suc b) q ys) =
    piece_map f g xs ys (suc a) (suc b) q (omega arith) (omega arith) (λ j k. simp (suc-add, ← add-suc) (e (suc j) (omega arith))) in
    rw (drop-cons xs a 0 (omega arith), drop-cons ys b 0 (omega arith), x, ih)

-- and they mean the same only there
pub piece_inj : (f : ℕ → Ty) (xs ys : List ℕ) (a b q r : ℕ) → a + q ≤ length xs → b + r ≤ length ys
    → map f (piece a q xs) ≡ map f (piece b r ys)
    → (q ≡ r) × ((j : ℕ) → j < q → f (get_or xs (a + j) 0) ≡ f (get_or ys (b + j) 0))
piece_inj f xs ys a b q r h l e =
    let many : q ≡ r =
    sym (piece_long xs a q h) ∙ sym (length-map (piece a q xs) f) ∙ ap length e ∙ length-map (piece b r ys) f ∙ piece_long ys b r l in (
      many,
      λ j k.
          ap f (sym (piece_at xs a q j k)) ∙ sym (get_or-map f (piece a q xs) j 0) ∙ ap (λ (zs : List Ty). get_or zs j (f 0)) e
          ∙ get_or-map f (piece b r ys) j 0
          ∙ ap f (piece_at ys b r j (omega arith)),
    )

pub elements_tys : (ts : List Ty) → elements (tys ts) ≡ ts
unfolding elements tys
elements_tys [] = refl
elements_tys (t ∷ ts) = rw (elements_tys ts)

pub tuple_parts : (ts : List Ty) → parts (tuple (tys ts)) ≡ ts
unfolding parts
tuple_parts ts = elements_tys ts
