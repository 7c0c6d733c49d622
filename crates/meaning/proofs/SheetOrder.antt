-- The order of the sheet's types: exactly the structured types that are reached from the names stand there, each once, the parts before the whole.
use mathlib.Core.Path.{◌≡◌, ap}
use mathlib.Core.Logic.{⊎_elim, ◌↔◌}
use mathlib.Core.List.Memᴰ
use mathlib.Core.List.{List, [], ◌∷◌, ◌++◌, map, append-nil, Memᴰ}
use Prim.Native.Nat.{ℕ, zero, suc, ◌+◌, ◌≤◌, ◌<◌}
use native.Mathlib.Nat.{le_of_suc-le-suc, not-suc-le-zero}
use native.Mathlib.Omega.{arith}
use native.Mathlib.Decide.{dec_lt}
use lib.ListN.{length, get_or, take, drop, length-take, take-append-drop}
use lib.Seq.{append_snoc, split_at}
use Rattle.meaning.specs.Types.{Ty, unknown, int, bool, string, float, nonetype, range, function, list, dict, tuple, map_iter, filter_iter, kind, parts}
use Rattle.meaning.specs.Sheet.{Entry, types_of, position, number}
use Rattle.meaning.proofs.SheetWalk.{found, far, here}
use Rattle.meaning.proofs.SheetTypes.{Known, Next, Ordered, Reached, given, part_of, Met, types_met, number_plain, number_above}

-- at each place: what may come next after what stands before
next_at : (ps ts : List Ty) → Ordered ps ts → (i : ℕ) → i < length ts → Next (ps ++ take i ts) (get_or ts i unknown)
next_at ps [] o i h = absurd (not-suc-le-zero h)
next_at ps (t ∷ ts) o zero h = rw append-nil o.0
next_at ps (t ∷ ts) o (suc i) h = rw append_snoc at (next_at (ps ++ (t ∷ [])) ts o.1 i (le_of_suc-le-suc h))

-- and for each that stands there
next_of : (ps ts : List Ty) → Ordered ps ts → (t : Ty) → Memᴰ t ts → (8 ≤ kind t) × Known (ps ++ ts) (parts t)
next_of ps [] o t m = absurd (Memᴰ.not-nil m)
next_of ps (u ∷ ts) o t m =
    ⊎_elim (λ e. rw e (o.0.structured, λ a n h. Memᴰ.append_left (u ∷ ts) (o.0.known a n h)))
    (λ n. rw append_snoc at (next_of (ps ++ (u ∷ [])) ts o.1 t n))
    (Memᴰ.cases_cons m)

pub has_parts : (t p : Ty) → Memᴰ p (parts t) → 8 ≤ kind t
unfolding kind parts
has_parts unknown p m = absurd (Memᴰ.not-nil m)
has_parts int p m = absurd (Memᴰ.not-nil m)
has_parts bool p m = absurd (Memᴰ.not-nil m)
has_parts string p m = absurd (Memᴰ.not-nil m)
has_parts float p m = absurd (Memᴰ.not-nil m)
has_parts nonetype p m = absurd (Memᴰ.not-nil m)
has_parts range p m = absurd (Memᴰ.not-nil m)
has_parts function p m = absurd (Memᴰ.not-nil m)
has_parts (list t) p m = omega arith
has_parts (dict k v) p m = omega arith
has_parts (tuple ts) p m = omega arith
has_parts (map_iter t) p m = omega arith
has_parts (filter_iter t) p m = omega arith

module _ (es : List Entry) where
  abbrev us : List Ty
  us = types_of es []

  walked : Met [] us (map (λ e. e.1) es)
  walked = types_met es [] tt

  -- the number of the type at place i is 8 + i: each stands once
  pub own_number : (i : ℕ) → i < length us → number us (get_or us i unknown) ≡ 8 + i
  own_number i h =
      let n = next_at [] us walked.ordered i h in
      let t = get_or us i unknown in
      let p = far t (take i us) (t ∷ drop (suc i) us) n.new in
      omega (arith, number_above us t n.structured, ap (position t) (split_at us i unknown h), p, here t (drop (suc i) us), length-take i us)

  pub once : (i j : ℕ) → i < length us → j < length us → get_or us i unknown ≡ get_or us j unknown → i ≡ j
  once i j h k e = omega (arith, own_number i h, own_number j k, ap (number us) e)

  -- every part has a lower number than the whole
  pub parts_first : (i : ℕ) → i < length us → (p : Ty) → Memᴰ p (parts (get_or us i unknown)) → number us p < 8 + i
  parts_first i h p m = elim (dec_lt (kind p) 8) [
    | yes l ↦ omega (arith, number_plain us p l)
    | no l ↦ let g : 8 ≤ kind p = omega arith in
        let f = (found p (take i us) (drop i us) ((next_at [] us walked.ordered i h).known p m g)).1 in
        let f₁ = rw take-append-drop at f in
        omega (arith, number_above us p g, f₁, length-take i us)
  ]

  reached_in : {t : Ty} → Reached (map (λ e. e.1) es) t → 8 ≤ kind t → Memᴰ t us
  reached_in (given {t = t} m) h = walked.known t m h
  reached_in (part_of {t = t} {u = u} r m) h = (next_of [] us walked.ordered u (reached_in r (has_parts u t m))).1 t m h

  -- exactly the structured types that are reached from the names
  pub stands : (t : Ty) → Memᴰ t us ↔ ((8 ≤ kind t) × Reached (map (λ e. e.1) es) t)
  stands t = (
    λ m. ((next_of [] us walked.ordered t m).0, ⊎_elim (λ n. absurd (Memᴰ.not-nil n)) (λ r. r) (walked.only t m)),
    λ r. reached_in r.1 r.0,
  )
