-- How a format string is measured and filled in, run by run of plain bytes and piece by piece, and when it fits.
use mathlib.Core.Path.{◌≡◌, refl, sym, ap, ◌∙◌}
use mathlib.Core.List.{List, [], ◌∷◌, ◌++◌, append_assoc}
use Prim.Native.Nat.{ℕ, zero, suc, ◌+◌, ◌-◌, ◌<◌, ◌≤◌}
use native.Mathlib.Nat.{zero-add}
use native.Mathlib.Numerals.{add-one}
use native.Mathlib.Omega.{arith}
use native.Mathlib.Decide.{ℕ_discrete}
use borrow.Author.Tests.{eq-eqb, ne_eqb, le-leb, lt-leb}
use lib.ListN.{length, get_or, drop, set, length-append, length-drop, drop_of_length-le}
use lib.Seq.{drop-cons, length-take-le}
use Rattle.meaning.specs.Base.{test◌then◌else◌, bytes, decimal}
use Rattle.meaning.specs.Answer.{fitting}
use Rattle.words.specs.Words.{put_at}
use Rattle.words.proofs.Laws.{put_byte}
use Rattle.types.specs.Reading.{Known}
use Rattle.message.specs.Texts.{clipped, size_at, Sized}
use Rattle.message.specs.Pieces.{one, meant, Stands, Small, CountsAs, CountsPiece, nth, Ready, after, filled, gaps, put_in}
use Rattle.message.specs.declared.Piece.{Piece}
use Rattle.message.specs.declared.Piece.TheVariants.{Nothing, OfType, OfText, OfNumber, OfRange, OfAny}
use Rattle.message.proofs.Writing.{Left, left_all, left_front, left_step, left_as, left_none, Due, due_as}

-- ---- the length of a piece

exact : {cap r : ℕ} {s : List ℕ} → r ≡ length s → CountsAs cap r s
exact {cap} e = record { same = ap (clipped cap) e }

module _ (lens : List ℕ) where
  pub counts_none : CountsPiece lens Nothing 0
  unfolding meant
  counts_none = record { says = λ bs cs cap n a b. exact refl }

  pub counts_type : (i : ℕ) → CountsPiece lens (OfType i) (get_or lens i 0)
  unfolding meant Stands size_at clipped
  counts_type i = record { says = λ bs cs cap n a b. record { same = let e = b.each i a in omega arith } }

  pub counts_text : (s l : ℕ) → CountsPiece lens (OfText s l) l
  unfolding meant Stands
  counts_text s l = record { says = λ bs cs cap n a b. exact (sym (length-take-le l (drop s bs) (rw length-drop (omega arith)))) }

  pub counts_number : (m : ℕ) {r : ℕ} → r ≡ length (decimal m) → CountsPiece lens (OfNumber m) r
  unfolding meant
  counts_number m e = record { says = λ bs cs cap n a b. exact e }

  pub counts_range : (p q : ℕ) {x y : ℕ} → x ≡ length (decimal p) → y ≡ length (decimal q) → CountsPiece lens (OfRange p q) (x + 1 + y)
  unfolding meant bytes
  counts_range p q e f = record { says = λ bs cs cap n a b. exact (rw (length-append, length-append, e, f)) }

  pub counts_any : CountsPiece lens OfAny 3
  unfolding meant bytes
  counts_any = record { says = λ bs cs cap n a b. exact refl }

pub small_type : {n i : ℕ} → Small n (OfType i) → i < n
unfolding Small
small_type h = h

-- ---- what a piece needs

stands_small : (bs : List ℕ) (n m : ℕ) (q : Piece) → Stands bs n q → n ≤ m → Small m q
unfolding Stands Small
stands_small bs n m Nothing s l = tt
stands_small bs n m (OfType i) s l = omega arith
stands_small bs n m (OfText x y) s l = tt
stands_small bs n m (OfNumber x) s l = tt
stands_small bs n m (OfRange x y) s l = tt
stands_small bs n m OfAny s l = tt

module _ {bs cs : List ℕ} {n : ℕ} {ps : List Piece} (r : Ready bs cs n ps) (k : ℕ) where
  pub ready_type : {i : ℕ} → nth ps k ≡ OfType i → Known cs i
  unfolding Stands
  ready_type {i} e = r.known.each i (rw e at (r.each k))

  pub ready_text : {s l : ℕ} → nth ps k ≡ OfText s l → s + l ≤ length bs
  unfolding Stands
  ready_text e = rw e at (r.each k)

  pub ready_small : {cap : ℕ} {lens : List ℕ} {p : Piece} → Sized cs cap lens n → p ≡ nth ps k → Small (length lens) p
  ready_small {lens = lens} {p} s e = rw e (stands_small bs n (length lens) (nth ps k) (r.each k) s.long)

-- ---- from byte i on, with piece k the next

filled_gap : (c : ℕ) (T : List ℕ) (k : ℕ) (f : ℕ → List ℕ) → c ≡ 95 → filled (c ∷ T) k f ≡ f k ++ filled T (k + 1) f
unfolding filled one after test◌then◌else◌
filled_gap c T k f e = rw (eq-eqb c 95 e)

filled_plain : (c : ℕ) (T : List ℕ) (k : ℕ) (f : ℕ → List ℕ) → (c ≡ 95 → ⊥) → filled (c ∷ T) k f ≡ (c ∷ []) ++ filled T k f
unfolding filled one after test◌then◌else◌
filled_plain c T k f n = rw (ne_eqb c 95 n)

unfoldable pub ahead : List ℕ → List ℕ → List Piece → List ℕ → ℕ → ℕ → List ℕ
ahead bs cs ps format i k = filled (drop i format) k (λ j. meant bs cs (nth ps j))

-- and as many gaps to come as pieces
pub record Coming (bs cs : List ℕ) (ps : List Piece) (format : List ℕ) (i k : ℕ) (d : List ℕ) (at : ℕ) (d₀ : List ℕ) : Type 0 where
  pub many : gaps (drop i format) + k ≡ length ps
  pub left : Left d at (ahead bs cs ps format i k) d₀ 0 (put_in bs cs ps format)

pub coming_first : (bs cs : List ℕ) (ps : List Piece) (format d : List ℕ) → gaps format ≡ length ps → length (put_in bs cs ps format) ≤ length d → Coming bs cs ps format 0 0 d 0 d
unfolding ahead put_in
coming_first bs cs ps format d g h = record { many = omega arith; left = left_all d 0 _ (rw zero-add h) }

module _ {bs cs : List ℕ} {ps : List Piece} {format : List ℕ} {i k : ℕ} {d : List ℕ} {at : ℕ} {d₀ : List ℕ} (c : Coming bs cs ps format i k d at d₀) where
  module _ (h : i < length format) where
    here : drop i format ≡ get_or format i 0 ∷ drop (i + 1) format
    here = rw (drop-cons format i 0 h, add-one i)

    -- where there is a gap, a piece stands for it
    module _ (e : get_or format i 0 ≡ 95) where
      gap_many : gaps (drop i format) ≡ gaps (drop (i + 1) format) + 1
      unfolding gaps test◌then◌else◌
      gap_many = rw (here, eq-eqb (get_or format i 0) 95 e)

      pub piece_left : k < length ps
      piece_left = omega (arith, gap_many, c.many)

      ahead_gap : ahead bs cs ps format i k ≡ meant bs cs (nth ps k) ++ ahead bs cs ps format (i + 1) (k + 1)
      unfolding ahead
      ahead_gap = ap (λ (T : List ℕ). filled T k (λ j. meant bs cs (nth ps j))) here ∙ filled_gap _ _ k _ e

      pub piece_fits : at + length (meant bs cs (nth ps k)) ≤ length d
      piece_fits = left_front (meant bs cs (nth ps k)) _ (left_as ahead_gap c.left)

      pub coming_piece : {e : List ℕ} {end : ℕ} → e ≡ put_at d at (meant bs cs (nth ps k)) → end ≡ at + length (meant bs cs (nth ps k))
          → Coming bs cs ps format (i + 1) (k + 1) e end d₀
      coming_piece v f = record { many = omega (arith, gap_many, c.many); left = left_step _ _ (left_as ahead_gap c.left) v f }

    -- each other byte stands for itself
    module _ (n : get_or format i 0 ≡ 95 → ⊥) where
      plain_many : gaps (drop i format) ≡ gaps (drop (i + 1) format)
      unfolding gaps test◌then◌else◌
      plain_many = rw (here, ne_eqb (get_or format i 0) 95 n)

      ahead_plain : ahead bs cs ps format i k ≡ (get_or format i 0 ∷ []) ++ ahead bs cs ps format (i + 1) k
      unfolding ahead
      ahead_plain = ap (λ (T : List ℕ). filled T k (λ j. meant bs cs (nth ps j))) here ∙ filled_plain _ _ k _ n

      pub plain_fits : at < length d
      plain_fits = omega (arith, left_front (get_or format i 0 ∷ []) _ (left_as ahead_plain c.left))

      pub coming_plain : Coming bs cs ps format (i + 1) k (set d at (get_or format i 0)) (at + 1) d₀
      coming_plain = record {
        many = omega (arith, plain_many, c.many);
        left = left_step (get_or format i 0 ∷ []) _ (left_as ahead_plain c.left) (put_byte d at (get_or format i 0) plain_fits) refl;
      }

  ahead_end : length format ≤ i → ahead bs cs ps format i k ≡ []
  unfolding ahead filled
  ahead_end h = rw (drop_of_length-le format h)

  pub coming_end : length format ≤ i → (d ≡ put_at d₀ 0 (put_in bs cs ps format)) × (at ≡ length (put_in bs cs ps format))
  coming_end h = let r = left_none (left_as (ahead_end h) c.left) in (r.0, rw zero-add at r.1)

-- ---- the length

-- n pieces from the k-th on
unfoldable pub joined : (ℕ → List ℕ) → ℕ → ℕ → List ℕ
joined f k zero = []
joined f k (suc n) = f k ++ joined f (k + 1) n

joined_step : (f : ℕ → List ℕ) (k n : ℕ) → k < n → joined f k (n - k) ≡ f k ++ joined f (k + 1) (n - (k + 1))
unfolding joined
joined_step f k n h = let e : n - k ≡ suc (n - (k + 1)) = omega arith in rw e

gaps_le : (T : List ℕ) → gaps T ≤ length T
unfolding gaps test◌then◌else◌
gaps_le [] = omega arith
gaps_le (c ∷ T) = let ih = gaps_le T in elim (ℕ_discrete c 95) [ yes e ↦ rw (eq-eqb c 95 e) (omega arith) | no e ↦ rw (ne_eqb c 95 e) (omega arith) ]

pub many_le : (T : List ℕ) {n : ℕ} → gaps T ≡ n → n ≤ length T
many_le T e = omega (arith, gaps_le T)

filled_length : (T : List ℕ) (k : ℕ) (f : ℕ → List ℕ) → length (filled T k f) + gaps T ≡ length T + length (joined f k (gaps T))
unfolding filled one after gaps joined test◌then◌else◌
filled_length [] k f = refl
filled_length (c ∷ T) k f = elim (ℕ_discrete c 95) [
  | yes e ↦
      let ih = filled_length T (k + 1) f in
      rw (eq-eqb c 95 e, add-one (gaps T)) (omega (arith, ih, length-append (f k) (filled T (k + 1) f), length-append (f k) (joined f (k + 1) (gaps T))))
  | no e ↦ let ih = filled_length T k f in rw (ne_eqb c 95 e) (omega (arith, ih))
]

module _ (bs cs : List ℕ) (ps : List Piece) (format : List ℕ) where
  abbrev piece_at : ℕ → List ℕ
  piece_at j = meant bs cs (nth ps j)

  pub due_first : {cap x n : ℕ} → gaps format ≡ length ps → n ≡ length ps → x ≡ clipped cap (0 + (length format - n)) → Due cap x (joined piece_at 0 (n - 0)) 0 (put_in bs cs ps format)
  unfolding clipped put_in
  due_first {cap} {x} {n} g e w =
      let all = filled_length format 0 piece_at in
      let less = gaps_le format in
      let same : length (joined piece_at 0 (gaps format)) ≡ length (joined piece_at 0 (n - 0)) = let q : gaps format ≡ n - 0 = omega arith in ap (λ m. length (joined piece_at 0 m)) q in
      record { low = omega arith; same = omega arith }

  pub due_next : {cap x x₀ y z k n m : ℕ} {s₀ lens : List ℕ} {p : Piece} → Due cap x (joined piece_at k (n - k)) x₀ s₀ → k < n → Ready bs cs m ps → Sized cs cap lens m
      → p ≡ nth ps k → CountsPiece lens p z → y ≡ clipped cap (x + z) → Due cap y (joined piece_at (k + 1) (n - (k + 1))) x₀ s₀
  unfolding clipped
  due_next {cap} {x} {x₀} {y} {z} {k} {n} {m} {s₀} {lens} {p} d h r s e q w =
      let step = due_as (joined_step piece_at k n h) d in
      let counts = ((rw e at q).says bs cs cap m (r.each k) s).same in
      let size = length-append (piece_at k) (joined piece_at (k + 1) (n - (k + 1))) in
      record { low = omega arith; same = omega (arith, step.same) }

  pub due_end : {cap x k n : ℕ} → n ≤ k → Due cap x (joined piece_at k (n - k)) 0 (put_in bs cs ps format) → x ≡ clipped cap (length (put_in bs cs ps format))
  unfolding clipped joined
  due_end {cap} {x} {k} {n} h d = let z : n - k ≡ 0 = omega arith in let e = due_as (ap (joined piece_at k) z) d in omega (arith, e.same, e.low)

-- ---- whether it fits

module _ {room size : ℕ} (s : List ℕ) (e : size ≡ clipped (room + 1) (length s)) where
  pub too_long : room < size → fitting room s ≡ []
  unfolding fitting test◌then◌else◌ clipped
  too_long h = rw (lt-leb (length s) room (omega arith))

  pub fits_in : size ≤ room → length s ≤ room
  unfolding clipped
  fits_in h = omega arith

pub fitting_all : {room : ℕ} (s : List ℕ) → length s ≤ room → s ≡ fitting room s
unfolding fitting test◌then◌else◌
fitting_all {room} s h = rw (le-leb (length s) room h)

-- ---- two numbers with a dash

module _ (d : List ℕ) (at p q : ℕ) (h : at + length (decimal p ++ bytes "-" ++ decimal q) ≤ length d) where
  range_left : Left d at (decimal p ++ (bytes "-" ++ decimal q)) d at (decimal p ++ bytes "-" ++ decimal q)
  range_left = left_as (append_assoc (decimal p) (bytes "-") (decimal q)) (left_all d at _ h)

  pub range_room : at + length (decimal p) ≤ length d
  range_room = left_front (decimal p) (bytes "-" ++ decimal q) range_left

  module _ {e : List ℕ} {end : ℕ} (w : e ≡ put_at d at (decimal p)) (f : end ≡ at + length (decimal p)) where
    pub range_first : Left e end (bytes "-" ++ decimal q) d at (decimal p ++ bytes "-" ++ decimal q)
    range_first = left_step (decimal p) _ range_left w f

    pub range_second : {e' : List ℕ} {end' : ℕ} → e' ≡ put_at e end (bytes "-") → end' ≡ end + length (bytes "-") → Left e' end' (decimal q) d at (decimal p ++ bytes "-" ++ decimal q)
    range_second v g = left_step (bytes "-") _ range_first v g
