-- Writing a record, and the table with the plain types alone.
use mathlib.Core.Path.{◌≡◌, refl, sym, ap, ◌∙◌}
use mathlib.Core.List.{List}
use Prim.Native.Nat.{ℕ, zero, suc, ◌+◌, ◌<◌}
use native.Mathlib.Omega.{arith}
use borrow.Author.Count.{below_more}
use borrow.Author.Tests.{ne_eqb}
use lib.ListN.{length, get_or, set, length-set}
use lib.Seq.{get_or-set_same, get_or-set_other}
use Rattle.meaning.specs.Base.{test◌then◌else◌}
use Rattle.meaning.specs.Types.{kind}
use Rattle.types.specs.Layout.{kind_cell, kind_in, first_cell, second_cell, link_cell}
use Rattle.types.specs.Table.{Tab, tab, capacity, kind_at, shape, denote, Low, tupled, Chains, Fresh, Wf}
use Rattle.types.specs.Steps.{RecordAt, Written, Added, Started}
use Rattle.types.proofs.Room.{capacity_as}
use Rattle.types.proofs.Shapes.{shaped_kind}
use Rattle.types.proofs.Rows.{Sound, denote_sound}
use Rattle.types.proofs.Chains.{chained_as}

pub written : (cs : List ℕ) (i k p q : ℕ) → second_cell i < length cs
    → Written cs (set (set (set cs (kind_cell i) k) (first_cell i) p) (second_cell i) q) i k p q
written cs i k p q h =
    let ds : List ℕ = set cs (kind_cell i) k in
    let es : List ℕ = set ds (first_cell i) p in
    let off : (x : ℕ) → (x ≡ kind_cell i → ⊥) → (x ≡ first_cell i → ⊥) → (x ≡ second_cell i → ⊥) → get_or (set es (second_cell i) q) x 0 ≡ get_or cs x 0 =
    λ x a b c. get_or-set_other es (second_cell i) x q 0 c ∙ get_or-set_other ds (first_cell i) x p 0 b ∙ get_or-set_other cs (kind_cell i) x k 0 a in
    record {
      long = simp length-set;
      here = record {
        kind_is =
            get_or-set_other es (second_cell i) (kind_cell i) q 0 (omega arith) ∙ get_or-set_other ds (first_cell i) (kind_cell i) p 0 (omega arith)
            ∙ get_or-set_same cs (kind_cell i) k 0 (omega arith);
        first_is =
            get_or-set_other es (second_cell i) (first_cell i) q 0 (omega arith) ∙ get_or-set_same ds (first_cell i) p 0 (simp length-set (omega arith));
        second_is = get_or-set_same es (second_cell i) q 0 (simp length-set (omega arith));
      };
      before = λ x a. off x (omega arith) (omega arith) (omega arith);
      after = λ x a. off x (omega arith) (omega arith) (omega arith);
    }

-- a record, and then its link and its slot
pub added : {cs ds : List ℕ} {slot i k p q : ℕ} → link_cell i < slot → slot < length cs → Written cs ds i k p q
    → Added cs (set (set ds (link_cell i) (get_or ds slot 0)) slot i) slot i k p q
added {cs} {ds} {slot} {i} {k} {p} {q} h l w =
    let es : List ℕ = set ds (link_cell i) (get_or ds slot 0) in
    let long : length es ≡ length cs = length-set ds (link_cell i) (get_or ds slot 0) ∙ w.long in
    let off : (x : ℕ) → (x ≡ link_cell i → ⊥) → (x ≡ slot → ⊥) → get_or (set es slot i) x 0 ≡ get_or ds x 0 =
    λ x a b. get_or-set_other es slot x i 0 b ∙ get_or-set_other ds (link_cell i) x (get_or ds slot 0) 0 a in
    record {
      long = length-set es slot i ∙ long;
      here = record {
        kind_is = off (kind_cell i) (omega arith) (omega arith) ∙ w.here.kind_is;
        first_is = off (first_cell i) (omega arith) (omega arith) ∙ w.here.first_is;
        second_is = off (second_cell i) (omega arith) (omega arith) ∙ w.here.second_is;
      };
      link =
          get_or-set_other es slot (link_cell i) i 0 (omega arith) ∙ get_or-set_same ds (link_cell i) (get_or ds slot 0) 0 (omega (arith, w.long))
          ∙ w.after slot (omega arith);
      head = get_or-set_same es slot i 0 (omega arith);
      before = λ x a. off x (omega arith) (omega arith) ∙ w.before x a;
      after = λ x a b. off x (omega arith) b ∙ w.after x (omega arith);
    }

-- ---- start's turns, and what they come to

pub started_none : {cs : List ℕ} → Fresh cs → Started cs 0
started_none f = record { fresh = f; plains = λ i h. absurd (omega arith) }

pub started_more : {cs ds : List ℕ} {i : ℕ} → Started cs i → i < 8 → Written cs ds i i 0 0 → Started ds (i + 1)
started_more {cs} {ds} {i} s l w =
    let as_wide : capacity ds ≡ capacity cs = capacity_as cs ds w.long in
    let f = s.fresh in
    record {
      fresh = record {
        room = rw as_wide f.room;
        most = rw as_wide f.most;
        heads = rw as_wide (λ x a b. rw (w.after x (omega (arith, f.room))) (f.heads x a b));
      };
      plains = below_more (λ j. RecordAt ds j 0 0 j) i (λ j h. record {
        kind_is = w.before (kind_cell j) (omega arith) ∙ (s.plains j h).kind_is;
        first_is = w.before (first_cell j) (omega arith) ∙ (s.plains j h).first_is;
        second_is = w.before (second_cell j) (omega arith) ∙ (s.plains j h).second_is;
      }) w.here;
    }

-- no number is in a chain
chains_none : {cs : List ℕ} → Fresh cs → Chains cs 8
chains_none f = record {
  heads = f.heads;
  head_own = λ x a b l. absurd (omega (arith, f.heads x a b));
  head_last = λ j a b. absurd (omega arith);
  links = λ i a b. absurd (omega arith);
  link_own = λ i a b. absurd (omega arith);
  link_last = λ i j a b c. absurd (omega arith);
}

-- records that are no Tuples have no elements
tupled_none : (cs : List ℕ) (k : ℕ) → ((i : ℕ) → i < k → kind_in cs i ≡ 10 → ⊥) → tupled cs k ≡ 0
unfolding tupled test◌then◌else◌
tupled_none cs zero n = refl
tupled_none cs (suc k) n = rw (ne_eqb (kind_in cs k) 10 (n k (omega arith))) (omega (arith, tupled_none cs k (λ i h. n i (omega arith))))

pub started_wf : (cs : List ℕ) → Started cs 8 → Wf (tab cs 8 0)
unfolding shape
started_wf cs s =
    let t : Tab = tab cs 8 0 in
    let low : (i : ℕ) → i < 8 → Low t i = λ i h. record {
      known = omega (arith, (s.plains i h).kind_is);
      none = λ e. (s.plains i h).first_is;
      unused = λ e n. (s.plains i h).second_is;
      first = λ e n. absurd (omega (arith, (s.plains i h).kind_is));
      second = λ e. absurd (omega (arith, (s.plains i h).kind_is));
      inside = λ e. absurd (omega (arith, (s.plains i h).kind_is));
      elements = λ e. absurd (omega (arith, (s.plains i h).kind_is));
    } in
    let sound : Sound t = record { space = omega arith; low = low } in
    let own : (i : ℕ) → i < 8 → kind (denote t i) ≡ i =
    λ i h. ap kind (denote_sound t sound i h) ∙ shaped_kind _ _ _ (kind_at t i) (low i h).known ∙ (s.plains i h).kind_is in
    record {
      most = s.fresh.most;
      base = omega arith;
      room = s.fresh.room;
      space = omega arith;
      plains = λ i h. (s.plains i h).kind_is;
      low = low;
      inj = λ i j a b e. sym (own i a) ∙ ap kind e ∙ own j b;
      chained = chained_as (chains_none s.fresh);
      apart = omega (arith, tupled_none cs 8 (λ i h e. omega (arith, (s.plains i h).kind_is)));
    }
