-- What is left to write or to count: each step takes off the front of it, and the end is where nothing is left.
use mathlib.Core.Path.{◌≡◌, refl, sym, ap, ◌∙◌}
use mathlib.Core.List.{List, [], ◌++◌, append_assoc}
use Prim.Native.Nat.{ℕ, ◌+◌, ◌<◌, ◌≤◌}
use native.Mathlib.Nat.{zero-add}
use native.Mathlib.Numerals.{add-one}
use native.Mathlib.Omega.{arith}
use native.Mathlib.Decide.{ℕ_discrete}
use lib.ListN.{length, get_or, drop, set, length-append, length-set, drop_of_length-le}
use lib.Seq.{drop-cons, get_or-set_same, get_or-set_other}
use Rattle.meaning.specs.Types.{Ty, unknown, kind, parts, part, text}
use Rattle.words.specs.Words.{put_at}
use Rattle.words.proofs.Laws.{put_put, put_nil, put_length}
use Rattle.types.specs.Reading.{type_at}
use Rattle.message.specs.Texts.{opening, closing, comma, listed, clipped, size_at, Sized}
use Rattle.message.proofs.Types.{PartIs}
use Rattle.message.proofs.Texts.{text_is}

-- ---- writing

-- s is left to write into d from a place on, so that then s₀ stands in d₀ from at₀ on
pub record Left (d : List ℕ) (at : ℕ) (s d₀ : List ℕ) (at₀ : ℕ) (s₀ : List ℕ) : Type 0 where
  pub same : put_at d at s ≡ put_at d₀ at₀ s₀
  pub ends : at + length s ≡ at₀ + length s₀
  pub long : length d ≡ length d₀
  pub fits : at + length s ≤ length d

pub left_all : (d : List ℕ) (at : ℕ) (s : List ℕ) → at + length s ≤ length d → Left d at s d at s
left_all d at s h = record { same = refl; ends = refl; long = refl; fits = h }

pub left_front : {d d₀ s₀ : List ℕ} {at at₀ : ℕ} (s t : List ℕ) → Left d at (s ++ t) d₀ at₀ s₀ → at + length s ≤ length d
left_front s t l = omega (arith, l.fits, length-append s t)

pub left_step : {d d₀ s₀ e : List ℕ} {at at₀ end : ℕ} (s t : List ℕ) → Left d at (s ++ t) d₀ at₀ s₀ → e ≡ put_at d at s → end ≡ at + length s → Left e end t d₀ at₀ s₀
left_step {d} {d₀} {s₀} {e} {at} {at₀} {end} s t l w p =
    let room : at + length s ≤ length d = left_front s t l in
    let kept : length e ≡ length d = ap length w ∙ put_length d at s room in
    let size = length-append s t in
    record {
      same = rw (w, p) (put_put d at s (omega arith) t) ∙ l.same;
      ends = omega (arith, l.ends);
      long = kept ∙ l.long;
      fits = omega (arith, l.fits);
    }

-- the last step
pub left_last : {d d₀ s₀ e : List ℕ} {at at₀ end : ℕ} (s : List ℕ) → Left d at s d₀ at₀ s₀ → e ≡ put_at d at s → end ≡ at + length s → (e ≡ put_at d₀ at₀ s₀) × (end ≡ at₀ + length s₀)
left_last s l w p = (w ∙ l.same, p ∙ l.ends)

pub left_none : {d d₀ s₀ : List ℕ} {at at₀ : ℕ} → Left d at [] d₀ at₀ s₀ → (d ≡ put_at d₀ at₀ s₀) × (at ≡ at₀ + length s₀)
left_none {d} {d₀} {s₀} {at} {at₀} l = (sym (put_nil d at) ∙ l.same, omega (arith, l.ends))

pub left_as : {d d₀ s₀ : List ℕ} {at at₀ : ℕ} {s t : List ℕ} → s ≡ t → Left d at s d₀ at₀ s₀ → Left d at t d₀ at₀ s₀
left_as e l = rw (← e) l

-- ---- counting

-- x is counted, and s is left to count, so that then x₀ and the length of s₀ are, up to a cap
pub record Due (cap x : ℕ) (s : List ℕ) (x₀ : ℕ) (s₀ : List ℕ) : Type 0 where
  pub low : x ≤ cap
  pub same : clipped cap (x + length s) ≡ clipped cap (x₀ + length s₀)

pub due_all : {cap x : ℕ} (s : List ℕ) → x ≤ cap → Due cap x s x s
due_all s h = record { low = h; same = refl }

-- a step adds a length, or the length up to the cap
pub due_step : {cap x x₀ y : ℕ} {s₀ : List ℕ} (s t : List ℕ) → Due cap x (s ++ t) x₀ s₀ → y ≡ clipped cap (x + length s) → Due cap y t x₀ s₀
unfolding clipped
due_step {cap} {x} {x₀} {y} {s₀} s t l e =
    let size = length-append s t in
    record { low = omega arith; same = omega (arith, l.same) }

pub due_clipped : {cap x x₀ y z : ℕ} {s₀ : List ℕ} (s t : List ℕ) → Due cap x (s ++ t) x₀ s₀ → z ≡ clipped cap (length s) → y ≡ clipped cap (x + z) → Due cap y t x₀ s₀
unfolding clipped
due_clipped {cap} {x} {x₀} {y} {z} {s₀} s t l f e = due_step s t l (omega arith)

pub due_last : {cap x x₀ y : ℕ} {s₀ : List ℕ} (s : List ℕ) → Due cap x s x₀ s₀ → y ≡ clipped cap (x + length s) → y ≡ clipped cap (x₀ + length s₀)
due_last s l e = e ∙ l.same

pub due_as : {cap x x₀ : ℕ} {s₀ s t : List ℕ} → s ≡ t → Due cap x s x₀ s₀ → Due cap x t x₀ s₀
due_as e l = rw (← e) l

-- ---- the parts of a type, from j on, and what closes it

unfoldable pub rest : List ℕ → ℕ → ℕ → List ℕ
rest cs i j = listed j (drop j (parts (type_at cs i))) ++ closing (kind (type_at cs i))

pub rest_first : (cs : List ℕ) (i : ℕ) → text (type_at cs i) ≡ opening (kind (type_at cs i)) ++ rest cs i 0
unfolding rest
rest_first cs i = text_is (type_at cs i) ∙ append_assoc (opening (kind (type_at cs i))) _ _

pub rest_next : (cs : List ℕ) (i j : ℕ) → j < length (parts (type_at cs i)) → rest cs i j ≡ comma j ++ (text (part j (type_at cs i)) ++ rest cs i (j + 1))
unfolding rest listed part
rest_next cs i j h =
    rw (drop-cons (parts (type_at cs i)) j unknown h, add-one)
    (append_assoc (comma j ++ text (get_or (parts (type_at cs i)) j unknown)) _ _ ∙ append_assoc (comma j) (text (get_or (parts (type_at cs i)) j unknown)) _)

pub rest_last : (cs : List ℕ) (i j : ℕ) → length (parts (type_at cs i)) ≤ j → rest cs i j ≡ closing (kind (type_at cs i))
unfolding rest listed
rest_last cs i j h = rw (drop_of_length-le (parts (type_at cs i)) h)

-- ---- a type's text, step by step

pub left_long : {d d₀ s₀ e : List ℕ} {at at₀ : ℕ} (s : List ℕ) → Left d at s d₀ at₀ s₀ → e ≡ put_at d at s → length e ≡ length d₀
left_long {d} {d₀} {s₀} {e} {at} {at₀} s l w = ap length w ∙ put_length d at s l.fits ∙ l.long

module _ (cs : List ℕ) (i : ℕ) where
  pub opening_fits : (at n : ℕ) {k : ℕ} → k ≡ kind (type_at cs i) → at + length (text (type_at cs i)) ≤ n → at + length (opening k) ≤ n
  opening_fits at n {k} e h =
      let size = length-append (opening (kind (type_at cs i))) (rest cs i 0) in
      let all : length (text (type_at cs i)) ≡ length (opening (kind (type_at cs i)) ++ rest cs i 0) = ap length (rest_first cs i) in
      rw e (omega arith)

  pub opened : {d e : List ℕ} {at end k : ℕ} → k ≡ kind (type_at cs i) → at + length (text (type_at cs i)) ≤ length d → e ≡ put_at d at (opening k)
      → end ≡ at + length (opening k) → Left e end (rest cs i 0) d at (text (type_at cs i))
  opened {d} {e} {at} {end} {k} q h w p =
      left_step (opening (kind (type_at cs i))) (rest cs i 0) (left_as (rest_first cs i) (left_all d at (text (type_at cs i)) h)) (rw q at w) (rw q at p)

  module _ {d d₀ s₀ : List ℕ} {at at₀ : ℕ} (j : ℕ) (l : Left d at (rest cs i j) d₀ at₀ s₀) where
    pub comma_fits : j < length (parts (type_at cs i)) → at + length (comma j) ≤ length d
    comma_fits h = left_front (comma j) (text (part j (type_at cs i)) ++ rest cs i (j + 1)) (left_as (rest_next cs i j h) l)

    pub comma_put : {e : List ℕ} {end r : ℕ} → j < length (parts (type_at cs i)) → e ≡ put_at d at (comma j) → end ≡ at + length (comma j) → PartIs cs i j r
        → Left e end (text (type_at cs r) ++ rest cs i (j + 1)) d₀ at₀ s₀
    comma_put h w p q = left_as (ap (λ (ty : Ty). text ty ++ rest cs i (j + 1)) (sym q.means)) (left_step _ _ (left_as (rest_next cs i j h) l) w p)

    pub part_fits : {e : List ℕ} {end r : ℕ} → j < length (parts (type_at cs i)) → e ≡ put_at d at (comma j) → end ≡ at + length (comma j) → PartIs cs i j r
        → end + length (text (type_at cs r)) ≤ length e
    part_fits {e} {end} {r} h w p q = left_front (text (type_at cs r)) (rest cs i (j + 1)) (comma_put h w p q)

    pub closing_left : {k : ℕ} → length (parts (type_at cs i)) ≤ j → k ≡ kind (type_at cs i) → Left d at (closing k) d₀ at₀ s₀
    closing_left h e = left_as (rest_last cs i j h ∙ ap closing (sym e)) l

  -- ---- its length, step by step

  pub opened_due : {cap x k : ℕ} → k ≡ kind (type_at cs i) → x ≡ clipped cap (0 + length (opening k)) → Due cap x (rest cs i 0) 0 (text (type_at cs i))
  opened_due {cap} {x} {k} q e =
      due_step (opening (kind (type_at cs i))) (rest cs i 0) (due_as (rest_first cs i) (due_all (text (type_at cs i)) (omega arith))) (rw q at e)

  pub whole_size : (cap : ℕ) {y : ℕ} → y ≡ clipped cap (0 + length (text (type_at cs i))) → y ≡ size_at cs cap i
  unfolding size_at
  whole_size cap e = rw zero-add at e

  module _ {cap x x₀ : ℕ} {s₀ : List ℕ} (j : ℕ) (l : Due cap x (rest cs i j) x₀ s₀) where
    pub comma_due : {y r : ℕ} → j < length (parts (type_at cs i)) → y ≡ clipped cap (x + length (comma j)) → PartIs cs i j r
        → Due cap y (text (type_at cs r) ++ rest cs i (j + 1)) x₀ s₀
    comma_due h e q = due_as (ap (λ (ty : Ty). text ty ++ rest cs i (j + 1)) (sym q.means)) (due_step (comma j) (text (part j (type_at cs i)) ++ rest cs i (j + 1)) (due_as (rest_next cs i j h) l) e)

    pub closing_due : {y k : ℕ} → length (parts (type_at cs i)) ≤ j → k ≡ kind (type_at cs i) → y ≡ clipped cap (x + length (closing k)) → y ≡ clipped cap (x₀ + length s₀)
    closing_due h e p = due_last _ (due_as (rest_last cs i j h ∙ ap closing (sym e)) l) p

-- a part's length, as it was worked out before
pub part_due : {cs lens : List ℕ} {cap x x₀ y i j r : ℕ} {s₀ t : List ℕ} → Sized cs cap lens i → PartIs cs i j r → Due cap x (text (type_at cs r) ++ t) x₀ s₀
    → y ≡ clipped cap (x + get_or lens r 0) → Due cap y t x₀ s₀
unfolding size_at
part_due {cs} {lens} {cap} {x} {x₀} {y} {i} {j} {r} {s₀} {t} s p l e = due_clipped (text (type_at cs r)) t l (s.each r p.lower) e

-- a text whose opening stands, and whose rest is written
pub written : {d d₁ d₂ e s₁ s₂ s : List ℕ} {at at₁ at₂ end : ℕ} → Left d₁ at₁ s₁ d at s → Left d₂ at₂ s₂ d₁ at₁ s₁ → e ≡ put_at d₂ at₂ s₂ → end ≡ at₂ + length s₂
    → (e ≡ put_at d at s) × (end ≡ at + length s)
written a b w p = let l = left_last _ b w p in left_last _ a l.0 l.1

-- one more length
pub sized_none : {cs lens : List ℕ} {cap : ℕ} → Sized cs cap lens 0
sized_none = record { long = omega arith; each = λ i l. absurd (omega arith) }

pub sized_more : {cs lens : List ℕ} {cap i x : ℕ} → Sized cs cap lens i → i < length lens → x ≡ size_at cs cap i → Sized cs cap (set lens i x) (i + 1)
sized_more {cs} {lens} {cap} {i} {x} s h e = record {
  long = omega (arith, length-set lens i x);
  each = λ j l. elim (ℕ_discrete j i) [
    | yes a ↦ rw (a, get_or-set_same lens i x 0 h) e
    | no a ↦ rw (get_or-set_other lens i j x 0 a) (s.each j (omega arith))
  ];
}

pub sized_upto : {cs lens : List ℕ} {cap i n : ℕ} → Sized cs cap lens i → i ≡ n → Sized cs cap lens n
sized_upto s e = rw (← e) s
