-- What changed, name by name: which name comes next, whether its type turned, and what is left to tell then.
use mathlib.Core.Path.{◌≡◌, sym, ap, ◌∙◌}
use mathlib.Core.Bool.{true, false, not, false≢true}
use mathlib.Core.List.{List, [], ◌∷◌, ◌++◌}
use Prim.Native.Nat.{ℕ, ◌+◌, ◌<◌, ◌≤◌}
use native.Mathlib.Numerals.{add-one}
use native.Mathlib.Omega.{arith}
use lib.ListN.{length, drop, drop_of_length-le}
use lib.Seq.{drop-cons}
use Rattle.meaning.specs.Base.{bytes, before}
use Rattle.meaning.specs.Types.{Ty-discrete, unknown, same}
use Rattle.meaning.specs.Sheet.{Entry}
use Rattle.meaning.specs.Show.{entry_text, change_text, changes_text, all_came, changes}
use Rattle.meaning.proofs.Choices.{same_yes, same_no}
use Rattle.meaning.proofs.Changed.{neither, next_comes, next_goes, next_came, next_went, next_both, retyped_same, retyped_other}
use Rattle.message.proofs.Writing.{Left, left_all, left_step, left_as, left_none}
use Rattle.words.specs.Words.{Wrote}
use Rattle.show.specs.Words.{entry_at, left_from, Follows, Ahead, Stepped, retold}
use Rattle.show.specs.declared.Next.TheVariants.{Came, Went, Both}
use Rattle.show.specs.declared.Place.{Place}
use Rattle.show.proofs.Lines.{first_fits, wrote_nothing}

-- ---- which name comes next

module _ (olds news : List Entry) (i j : ℕ) where
  old_next : i < length olds → drop i olds ≡ entry_at olds i ∷ drop (i + 1) olds
  old_next h = rw (add-one i) (drop-cons olds i ([], unknown) h)

  new_next : j < length news → drop j news ≡ entry_at news j ∷ drop (j + 1) news
  new_next h = rw (add-one j) (drop-cons news j ([], unknown) h)

  -- no old name is left
  pub comes_last : length olds ≤ i → j < length news → Follows olds news i j Came
  comes_last h k = (k, rw (drop_of_length-le olds h, new_next k) (next_comes (entry_at news j) (drop (j + 1) news)))

  -- no new name is left
  pub goes_last : i < length olds → length news ≤ j → Follows olds news i j Went
  goes_last h k = (h, rw (drop_of_length-le news k, old_next h) (next_goes (entry_at olds i) (drop (i + 1) olds)))

  module _ (h : i < length olds) (k : j < length news) where
    pub comes_before : before (entry_at news j).0 (entry_at olds i).0 ≡ true → Follows olds news i j Came
    comes_before b = (k, rw (old_next h, new_next k) (next_came (entry_at olds i) (entry_at news j) (drop (i + 1) olds) (drop (j + 1) news) b))

    pub goes_before : before (entry_at news j).0 (entry_at olds i).0 ≡ false → before (entry_at olds i).0 (entry_at news j).0 ≡ true → Follows olds news i j Went
    goes_before a b = (h, rw (old_next h, new_next k) (next_went (entry_at olds i) (entry_at news j) (drop (i + 1) olds) (drop (j + 1) news) a b))

    pub both_have : before (entry_at news j).0 (entry_at olds i).0 ≡ false → before (entry_at olds i).0 (entry_at news j).0 ≡ false → Follows olds news i j Both
    both_have a b = (
      h,
      k,
      neither (entry_at olds i).0 (entry_at news j).0 b a,
      rw (old_next h, new_next k) (next_both (entry_at olds i) (entry_at news j) (drop (i + 1) olds) (drop (j + 1) news) a b),
    )

-- ---- one step

module _ {olds news : List Entry} {p : Place} {d : List ℕ} (a : Ahead olds news p d) where
  abbrev i : ℕ
  i = p.old

  abbrev j : ℕ
  j = p.new

  module _ (f : Follows olds news i j Came) where
    came_left : changes_text (left_from olds news i j) ≡ (bytes "+ " ++ entry_text (entry_at news j) ++ bytes "\n") ++ changes_text (left_from olds news i (j + 1))
    unfolding changes_text change_text
    came_left = ap changes_text f.1

    pub came_fits : p.at + length (bytes "+ " ++ entry_text (entry_at news j) ++ bytes "\n") ≤ length d
    came_fits = first_fits d p.at (bytes "+ " ++ entry_text (entry_at news j) ++ bytes "\n") (changes_text (left_from olds news i (j + 1))) (rw came_left at a.room)

    pub came_stepped : {e : List ℕ} {end : ℕ} → Wrote d p.at (bytes "+ " ++ entry_text (entry_at news j) ++ bytes "\n") e end
        → Stepped olds news p (record { old = i; new = j + 1; at = end }) d e
    came_stepped q = record {
      line = _;
      left = came_left;
      wrote = q;
      on = omega arith;
      olds_in = a.olds_in;
      news_in = omega (arith, f.0);
    }

  module _ (f : Follows olds news i j Went) where
    went_left : changes_text (left_from olds news i j) ≡ (bytes "- " ++ entry_text (entry_at olds i) ++ bytes "\n") ++ changes_text (left_from olds news (i + 1) j)
    unfolding changes_text change_text
    went_left = ap changes_text f.1

    pub went_fits : p.at + length (bytes "- " ++ entry_text (entry_at olds i) ++ bytes "\n") ≤ length d
    went_fits = first_fits d p.at (bytes "- " ++ entry_text (entry_at olds i) ++ bytes "\n") (changes_text (left_from olds news (i + 1) j)) (rw went_left at a.room)

    pub went_stepped : {e : List ℕ} {end : ℕ} → Wrote d p.at (bytes "- " ++ entry_text (entry_at olds i) ++ bytes "\n") e end
        → Stepped olds news p (record { old = i + 1; new = j; at = end }) d e
    went_stepped q = record {
      line = _;
      left = went_left;
      wrote = q;
      on = omega arith;
      olds_in = omega (arith, f.0);
      news_in = a.news_in;
    }

  module _ (f : Follows olds news i j Both) where
    types_same : not (same (entry_at olds i).1 (entry_at news j).1) ≡ false → (entry_at olds i).1 ≡ (entry_at news j).1
    types_same e = elim (Ty-discrete (entry_at olds i).1 (entry_at news j).1) [
      | yes y ↦ y
      | no n ↦ absurd (false≢true (sym e ∙ rw (same_no (entry_at olds i).1 (entry_at news j).1 n)))
    ]

    types_other : not (same (entry_at olds i).1 (entry_at news j).1) ≡ true → (entry_at olds i).1 ≡ (entry_at news j).1 → ⊥
    types_other e y = false≢true (sym (rw (same_yes (entry_at olds i).1 (entry_at news j).1 y)) ∙ e)

    -- nothing is told of a name that both have with one type
    pub passed_over : not (same (entry_at olds i).1 (entry_at news j).1) ≡ false → Stepped olds news p (record { old = i + 1; new = j + 1; at = p.at }) d d
    passed_over e = record {
      line = [];
      left = ap changes_text (f.3 ∙ retyped_same (entry_at olds i).0 (entry_at olds i).1 (entry_at news j).1 (left_from olds news (i + 1) (j + 1)) (types_same e));
      wrote = wrote_nothing d p.at (omega (arith, a.room));
      on = omega arith;
      olds_in = omega (arith, f.0);
      news_in = omega (arith, f.1);
    }

    module _ (t : not (same (entry_at olds i).1 (entry_at news j).1) ≡ true) where
      turned_left : changes_text (left_from olds news i j) ≡ retold (entry_at olds i) (entry_at news j).1 ++ changes_text (left_from olds news (i + 1) (j + 1))
      unfolding changes_text retold
      turned_left = ap changes_text (f.3 ∙ retyped_other (entry_at olds i).0 (entry_at olds i).1 (entry_at news j).1 (left_from olds news (i + 1) (j + 1)) (types_other t))

      pub turned_fits : p.at + length (retold (entry_at olds i) (entry_at news j).1) ≤ length d
      turned_fits = first_fits d p.at (retold (entry_at olds i) (entry_at news j).1) (changes_text (left_from olds news (i + 1) (j + 1))) (rw turned_left at a.room)

      pub turned_stepped : {e : List ℕ} {end : ℕ} → Wrote d p.at (retold (entry_at olds i) (entry_at news j).1) e end
          → Stepped olds news p (record { old = i + 1; new = j + 1; at = end }) d e
      turned_stepped q = record {
        line = _;
        left = turned_left;
        wrote = q;
        on = omega arith;
        olds_in = omega (arith, f.0);
        news_in = omega (arith, f.1);
      }

-- ---- all of them

pub record ChangesLeft (olds news : List Entry) (d₀ d : List ℕ) (p : Place) : Type 0 where
  pub olds_in : p.old ≤ length olds
  pub news_in : p.new ≤ length news
  pub left : Left d p.at (changes_text (left_from olds news p.old p.new)) d₀ 0 (changes_text (changes olds news))

pub changes_first : (olds news : List Entry) (d : List ℕ) → length (changes_text (changes olds news)) ≤ length d
    → ChangesLeft olds news d d (record { old = 0; new = 0; at = 0 })
changes_first olds news d h = record { olds_in = omega arith; news_in = omega arith; left = left_all d 0 (changes_text (changes olds news)) (omega (arith, h)) }

module _ {olds news : List Entry} {d₀ d : List ℕ} {p : Place} (l : ChangesLeft olds news d₀ d p) where
  pub changes_ahead : p.old + p.new < length olds + length news → Ahead olds news p d
  changes_ahead h = record { olds_in = l.olds_in; news_in = l.news_in; some_left = h; room = l.left.fits }

  pub changes_next : {q : Place} {e : List ℕ} → Stepped olds news p q d e → ChangesLeft olds news d₀ e q
  changes_next {q} s = record {
    olds_in = s.olds_in;
    news_in = s.news_in;
    left = left_step s.line (changes_text (left_from olds news q.old q.new)) (left_as s.left l.left) s.wrote.same s.wrote.ends;
  }

  pub changes_end : (p.old + p.new < length olds + length news → ⊥) → Wrote d₀ 0 (changes_text (changes olds news)) d p.at
  unfolding changes_text changes all_came
  changes_end n =
      let o : length olds ≤ p.old = omega (arith, n, l.olds_in, l.news_in) in
      let w : length news ≤ p.new = omega (arith, n, l.olds_in, l.news_in) in
      let none : changes_text (left_from olds news p.old p.new) ≡ [] = rw (drop_of_length-le olds o, drop_of_length-le news w) in
      let z = left_none (left_as none l.left) in
      record { same = z.0; ends = z.1; long = l.left.long; inside = omega (arith, l.left.fits) }
