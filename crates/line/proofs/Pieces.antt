-- Pieces written one after the other are one piece; the line is such pieces. Assumes nothing.
use mathlib.Core.Path.{◌≡◌, refl, sym, ap, ◌∙◌}
use mathlib.Core.List.{List, [], ◌∷◌, ◌++◌, append-nil, append_assoc}
use Prim.Native.Nat.{ℕ, ◌+◌, ◌*◌, ◌<◌, ◌≤◌}
use native.Mathlib.Nat.{zero-add}
use native.Mathlib.Omega.{arith}
use lib.ListN.{length, take, get_or}
use Rattle.std.proofs.lemmas.List.{take_more, take_all}
use borrow.Author.Tests.{eq-eqb, ne_eqb}
use Rattle.meaning.specs.Answer.{overlaid}
use Rattle.meaning.specs.Base.{test◌then◌else◌, bytes, decimal, word}
use Rattle.meaning.specs.Line.{spaced, accepted_line, refused_line, line_of}
use Rattle.words.specs.Words.{put_at, Wrote}
use Rattle.words.proofs.Laws.{put_nil, put_overlaid, decimal_length, wrote, and_then}
use Rattle.line.specs.Printing.{answered, or_dash}

-- ---- numbers, each after a space

spaced_one : (n : ℕ) → bytes " " ++ decimal n ≡ spaced (n ∷ [])
unfolding spaced
spaced_one n = rw append-nil

spaced_more : (n : ℕ) (ns : List ℕ) → spaced (n ∷ []) ++ spaced ns ≡ spaced (n ∷ ns)
unfolding spaced
spaced_more n ns = ap (λ (s : List ℕ). s ++ spaced ns) (sym (spaced_one n))

module _ (d : List ℕ) {e : List ℕ} (at : ℕ) {m : ℕ} (n : ℕ) (room : at + 11 ≤ length d) (w : e ≡ put_at d at (bytes " ")) (p : m ≡ at + length (bytes " ")) where
  space_wrote : Wrote d at (bytes " ") e m
  unfolding bytes
  space_wrote = wrote (bytes " ") (omega arith) w p

  pub number_fits : m + length (decimal n) ≤ length e
  unfolding bytes
  number_fits = omega (arith, room, p, space_wrote.long, (decimal_length n).1)

  pub number_wrote : {f : List ℕ} {r : ℕ} → f ≡ put_at e m (decimal n) → r ≡ m + length (decimal n) → Wrote d at (spaced (n ∷ [])) f r
  number_wrote v q = rw (← spaced_one n) (and_then space_wrote (wrote (decimal n) number_fits v q))

  pub number_ends : {r : ℕ} → r ≡ m + length (decimal n) → r ≤ at + 11
  unfolding bytes
  number_ends q = omega (arith, p, q, (decimal_length n).1)

pub spaced_next : {d e f : List ℕ} {at m r : ℕ} (n : ℕ) (ns : List ℕ) → Wrote d at (spaced (n ∷ [])) e m → Wrote e m (spaced ns) f r → Wrote d at (spaced (n ∷ ns)) f r
spaced_next n ns a b = rw (← spaced_more n ns) (and_then a b)

spaced_append : (ms ns : List ℕ) → spaced ms ++ spaced ns ≡ spaced (ms ++ ns)
unfolding spaced
spaced_append [] ns = refl
spaced_append (m ∷ ms) ns = rw (← spaced_append ms ns) (append_assoc (bytes " " ++ decimal m) (spaced ms) (spaced ns))

-- the first k of them
pub record NumbersPut (d : List ℕ) (at : ℕ) (ns : List ℕ) (k : ℕ) (e : List ℕ) (end : ℕ) : Type 0 where
  pub wrote : Wrote d at (spaced (take k ns)) e end
  pub bound : end ≤ at + 11 * k

pub numbers_none : (d : List ℕ) (at : ℕ) (ns : List ℕ) → at + 11 * length ns ≤ length d → NumbersPut d at ns 0 d at
unfolding spaced
numbers_none d at ns h = record { wrote = record { same = sym (put_nil d at); ends = omega arith; long = refl; inside = omega arith }; bound = omega arith }

module _ {d e : List ℕ} {at k end : ℕ} {ns : List ℕ} (p : NumbersPut d at ns k e end) where
  pub numbers_more : {f : List ℕ} {r : ℕ} → k < length ns → Wrote e end (spaced (get_or ns k 0 ∷ [])) f r → r ≤ end + 11 → NumbersPut d at ns (k + 1) f r
  numbers_more h w b = record { wrote = rw (take_more ns k 0 h, ← spaced_append) (and_then p.wrote w); bound = omega (arith, p.bound) }

  pub numbers_all : length ns ≤ k → Wrote d at (spaced ns) e end
  numbers_all h = rw (take_all k ns h) at p.wrote

-- ---- the message or `-`

pub dash_short : (message : List ℕ) → length (or_dash message) ≤ 1 + length message
unfolding or_dash test◌then◌else◌ bytes
dash_short [] = let e : or_dash [] ≡ bytes "-" = refl in omega (arith, ap length e)
dash_short (c ∷ cs) = let e : or_dash (c ∷ cs) ≡ c ∷ cs = rw (ne_eqb (length (c ∷ cs)) 0 (omega arith)) in omega (arith, ap length e)

-- ---- the two lines

pub accepted_wrote : {d e f g : List ℕ} {m n r : ℕ} (sheet : List ℕ) (names types : ℕ) → names ≡ word sheet 20 → types ≡ word sheet 4
    → Wrote d 0 (bytes "accepted") e m → Wrote e m (spaced (names ∷ types ∷ length sheet ∷ [])) f n → Wrote f n (bytes "\n") g r
    → Wrote d 0 (accepted_line sheet) g r
unfolding accepted_line
accepted_wrote sheet names types p q a b c = rw (← p, ← q) (and_then (and_then a b) c)

module _ {d e g h i j : List ℕ} {m o p q r : ℕ} (code place begins ends : ℕ) (message : List ℕ) where
  pub refused_wrote : Wrote d 0 (bytes "refused") e m → Wrote e m (spaced (code ∷ place ∷ begins ∷ ends ∷ [])) g o
      → Wrote g o (bytes " ") h p → Wrote h p (or_dash message) i q → Wrote i q (bytes "\n") j r
      → Wrote d 0 (refused_line (answered code place begins ends [] message)) j r
  unfolding refused_line or_dash
  refused_wrote a b s t z = and_then (and_then (and_then (and_then a b) s) t) z

-- ---- which of them

whole : {d e : List ℕ} {r : ℕ} (s : List ℕ) → Wrote d 0 s e r → (e ≡ overlaid s d) × (r ≡ length s)
whole {d} s a = (a.same ∙ put_overlaid d s, a.ends ∙ zero-add _)

module _ (code place begins ends : ℕ) (sheet message : List ℕ) where
  is_accepted : code ≡ 0 → accepted_line sheet ≡ line_of (answered code place begins ends sheet message)
  unfolding line_of test◌then◌else◌
  is_accepted z = rw (eq-eqb _ _ z)

  is_refused : (code ≡ 0 → ⊥) → refused_line (answered code place begins ends [] message) ≡ line_of (answered code place begins ends sheet message)
  unfolding line_of test◌then◌else◌ refused_line
  is_refused nz = rw (ne_eqb _ _ nz)

  pub accepted_whole : {d e : List ℕ} {r : ℕ} → code ≡ 0 → Wrote d 0 (accepted_line sheet) e r
      → (e ≡ overlaid (line_of (answered code place begins ends sheet message)) d) × (r ≡ length (line_of (answered code place begins ends sheet message)))
  accepted_whole z a = rw (← is_accepted z) (whole (accepted_line sheet) a)

  pub refused_whole : {d e : List ℕ} {r : ℕ} → (code ≡ 0 → ⊥) → Wrote d 0 (refused_line (answered code place begins ends [] message)) e r
      → (e ≡ overlaid (line_of (answered code place begins ends sheet message)) d) × (r ≡ length (line_of (answered code place begins ends sheet message)))
  refused_whole nz a = rw (← is_refused nz) (whole (refused_line (answered code place begins ends [] message)) a)
