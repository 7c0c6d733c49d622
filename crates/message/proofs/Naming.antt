-- What the pieces of a message mean, by the name records of the image.
use mathlib.Core.Path.{◌≡◌, refl, sym, ap, ◌∙◌}
use mathlib.Core.Option.{none}
use mathlib.Core.List.{List}
use Prim.Native.Nat.{ℕ, zero, suc, ◌+◌, ◌≤◌}
use native.Mathlib.Omega.{arith}
use native.Mathlib.Decide.{dec_lt}
use borrow.Author.Tests.{eq-eqb, ne_eqb}
use lib.ListN.{length, get_or-eq_default}
use Rattle.meaning.specs.Base.{test◌then◌else◌, choose, decimal}
use Rattle.meaning.specs.Image.{NameRecord, name_count, name_records, names_of, name_of, role_of, text_count, texts_from, broken_name}
use Rattle.meaning.specs.Rules.{described}
use Rattle.meaning.proofs.Faults.{Headed}
use Rattle.image.specs.Parts.{record_of, no_record, name_means}
use Rattle.image.specs.declared.NameAt.{NameAt}
use Rattle.meaning.proofs.Nesting.{records_count}
use Rattle.image.proofs.Records.{role_of_lem, text_of, text_fits, text_inside}
use Rattle.rules.specs.Outcome.{taken}
use Rattle.message.specs.Pieces.{meant, Stands, Says}
use Rattle.message.specs.declared.Piece.TheVariants.{Nothing, OfText, OfNumber, OfRange, OfAny}

-- ---- name records, whatever the number

pub record_none : (bs : List ℕ) (a : ℕ) → name_count bs ≤ a → no_record ≡ record_of (name_records bs) a
unfolding record_of
record_none bs a h = sym (get_or-eq_default (name_records bs) no_record {n = a} (omega (arith, records_count bs)))

text_stands : {bs : List ℕ} → Headed bs → broken_name bs ≡ none → (a : ℕ) → (record_of (name_records bs) a).start + (record_of (name_records bs) a).size ≤ text_count bs
text_stands {bs} h s a = elim (dec_lt a (name_count bs)) [ yes l ↦ text_fits h s a l | no l ↦ rw (← record_none bs a (omega arith)) (omega arith) ]

module _ (bs : List ℕ) (a : ℕ) {r : NameAt} (e : name_means r ≡ record_of (name_records bs) a) where
  starts : r.start ≡ (record_of (name_records bs) a).start
  starts = ap (λ (n : NameRecord). n.start) e

  sizes_are : r.len ≡ (record_of (name_records bs) a).size
  sizes_are = ap (λ (n : NameRecord). n.size) e

  -- ---- its text

  pub spelled_fits : {x : ℕ} → Headed bs → broken_name bs ≡ none → x ≡ texts_from bs → x + r.start + r.len ≤ length bs
  spelled_fits h s t = omega (arith, starts, sizes_are, text_stands h s a, text_inside h)

  pub spelled_says : {x : ℕ} → Headed bs → broken_name bs ≡ none → x ≡ texts_from bs → Says bs (name_of (names_of bs) a).spelling (OfText (x + r.start) r.len)
  unfolding meant Stands
  spelled_says {x} h s t = record {
    stands = λ n. spelled_fits h s t;
    means = λ cs. rw (starts, sizes_are, t) (sym (text_of h a));
  }

  -- ---- how many arguments it takes

  described_by : described (role_of (name_means r)) ≡ described (name_of (names_of bs) a).role
  described_by = ap described (role_of_lem bs a e)

  pub arity_number : r.role ≡ 1 → Says bs (described (name_of (names_of bs) a).role) (OfNumber r.p)
  unfolding meant Stands described role_of choose test◌then◌else◌
  arity_number k = record { stands = λ n. tt; means = λ cs. rw k at described_by }

  pub arity_equal : r.role ≡ 2 → r.p ≡ r.q → Says bs (described (name_of (names_of bs) a).role) (OfNumber r.p)
  unfolding meant Stands described role_of choose test◌then◌else◌
  arity_equal k q = record { stands = λ n. tt; means = λ cs. rw (k, eq-eqb _ _ q) at described_by }

  pub arity_range : r.role ≡ 2 → (r.p ≡ r.q → ⊥) → Says bs (described (name_of (names_of bs) a).role) (OfRange r.p r.q)
  unfolding meant Stands described role_of choose test◌then◌else◌
  arity_range k q = record { stands = λ n. tt; means = λ cs. rw (k, ne_eqb _ _ q) at described_by }

  pub arity_any : r.role ≡ 3 → Says bs (described (name_of (names_of bs) a).role) OfAny
  unfolding meant Stands described role_of choose test◌then◌else◌
  arity_any k = record { stands = λ n. tt; means = λ cs. rw k at described_by }

  pub arity_function : r.role ≡ 4 → Says bs (described (name_of (names_of bs) a).role) (OfNumber r.p)
  unfolding meant Stands described role_of choose test◌then◌else◌
  arity_function k = record { stands = λ n. tt; means = λ cs. rw k at described_by }

  pub arity_none : (r.role ≡ 1 → ⊥) → (r.role ≡ 2 → ⊥) → (r.role ≡ 3 → ⊥) → (r.role ≡ 4 → ⊥) → Says bs (described (name_of (names_of bs) a).role) Nothing
  unfolding meant Stands described role_of choose test◌then◌else◌
  arity_none k l m n = record {
    stands = λ i. tt;
    means = λ cs. rw (ne_eqb _ _ k, ne_eqb _ _ l, ne_eqb _ _ m, ne_eqb _ _ n) at described_by;
  }

  taken_as : taken (role_of (name_means r)) ≡ taken (name_of (names_of bs) a).role
  taken_as = ap taken (role_of_lem bs a e)

  taken_other : (k : ℕ) → (k ≡ 4 → ⊥) → taken (role_of (record { start = r.start; size = r.len; role = k; p = r.p; q = r.q })) ≡ 0
  unfolding taken role_of choose test◌then◌else◌
  taken_other zero n = refl
  taken_other (suc zero) n = refl
  taken_other (suc (suc zero)) n = refl
  taken_other (suc (suc (suc zero))) n = refl
  taken_other (suc (suc (suc (suc zero)))) n = absurd (n refl)
  taken_other (suc (suc (suc (suc (suc k))))) n =
      rw (ne_eqb (suc (suc (suc (suc (suc k))))) 1 (λ z. absurd (omega arith)), ne_eqb (suc (suc (suc (suc (suc k))))) 2 (λ z. absurd (omega arith)), ne_eqb (suc (suc (suc (suc (suc k))))) 3 (λ z. absurd (omega arith)), ne_eqb (suc (suc (suc (suc (suc k))))) 4 n)

  pub taken_function : r.role ≡ 4 → Says bs (decimal (taken (name_of (names_of bs) a).role)) (OfNumber r.p)
  unfolding meant Stands taken role_of choose test◌then◌else◌
  taken_function k = record { stands = λ n. tt; means = λ cs. ap decimal (rw k at taken_as) }

  pub taken_none : (r.role ≡ 4 → ⊥) → Says bs (decimal (taken (name_of (names_of bs) a).role)) (OfNumber 0)
  unfolding meant Stands
  taken_none k = record { stands = λ n. tt; means = λ cs. ap decimal (sym (taken_other r.role k) ∙ taken_as) }
