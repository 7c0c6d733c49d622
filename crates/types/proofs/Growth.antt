-- One more record: where it is low and its type is new, the table is sound again and every old number means what it meant.
use mathlib.Core.Path.{◌≡◌, refl, sym, ap, ◌∙◌, subst}
use Prim.Native.Nat.{ℕ, zero, suc, ◌+◌, ◌≤◌, ◌<◌}
use native.Mathlib.Nat.{add_assoc}
use native.Mathlib.Omega.{arith}
use native.Mathlib.Decide.{dec_lt, ℕ_discrete}
use borrow.Author.Tests.{ne_eqb}
use lib.ListN.{length, get_or}
use Rattle.meaning.specs.Base.{test◌then◌else◌}
use Rattle.meaning.specs.Types.{Ty, tys}
use Rattle.types.specs.Layout.{kind_cell, first_cell, second_cell, link_cell, elements_from}
use Rattle.types.specs.Table.{Tab, capacity, kind_at, first_at, second_at, element_at, slot_at, shape, denote, Low, tupled, Chains, Chained, Wf, Grown, Made}
use Rattle.types.proofs.Room.{capacity_within, capacity_as}
use Rattle.types.proofs.Shapes.{shaped_cong}
use Rattle.types.proofs.Pieces.{piece_map, piece_same}
use Rattle.types.proofs.Chains.{slot_as, chains_of, chained_as, Headed, chains_more}
use Rattle.types.proofs.Rows.{shape_cong, denote_sound, denote_agree}
use Rattle.types.proofs.Laws.{grown_refl}

-- u is t with one more record, which is low, is in its chain and means no type that has a number
pub record Next (t u : Tab) : Type 0 where
  pub long : length u.cells ≡ length t.cells
  pub count : u.n ≡ t.n + 1
  pub room : u.n ≤ capacity t.cells
  pub wider : t.m ≤ u.m
  pub space : u.m ≤ capacity t.cells
  pub records : (x : ℕ) → x < kind_cell t.n → get_or u.cells x 0 ≡ get_or t.cells x 0
  pub elements : (j : ℕ) → j < t.m → get_or u.cells (elements_from t.cells + j) 0 ≡ element_at t j
  pub low : Low u t.n
  pub own : kind_at u t.n ≡ 10 → t.m + second_at u t.n ≤ u.m
  pub slot : ℕ
  pub headed : Headed t.cells u.cells t.n slot
  pub fresh : (i : ℕ) → i < t.n → denote t i ≡ shape u (denote t) t.n → ⊥

add_one : (n : ℕ) → n + 1 ≡ suc n
add_one n = omega arith

module _ (t u : Tab) (w : Wf t) (x : Next t u) where
  as_wide : capacity u.cells ≡ capacity t.cells
  as_wide = capacity_as t.cells u.cells x.long

  kind_kept : (i : ℕ) → i < t.n → kind_at u i ≡ kind_at t i
  kind_kept i h = x.records (kind_cell i) (omega arith)

  first_kept : (i : ℕ) → i < t.n → first_at u i ≡ first_at t i
  first_kept i h = x.records (first_cell i) (omega arith)

  second_kept : (i : ℕ) → i < t.n → second_at u i ≡ second_at t i
  second_kept i h = x.records (second_cell i) (omega arith)

  -- an element of an old Tuple
  element_kept : (i j : ℕ) → i < t.n → kind_at t i ≡ 10 → j < second_at t i
      → get_or u.cells (elements_from t.cells + first_at t i + j) 0 ≡ get_or t.cells (elements_from t.cells + first_at t i + j) 0
  element_kept i j h e l = rw add_assoc (x.elements (first_at t i + j) (omega (arith, (w.low i h).inside e)))

  agree : (i : ℕ) → i < t.n → (f : ℕ → Ty) → shape u f i ≡ shape t f i
  unfolding shape
  agree i h f =
      rw (as_wide, kind_kept i h, first_kept i h, second_kept i h)
      (shaped_cong (kind_at t i) (w.low i h).known (λ e n. refl) (λ e. refl)
      (λ e. ap tys
      (piece_map f f u.cells t.cells (elements_from t.cells + first_at t i) (elements_from t.cells + first_at t i) (second_at t i)
      (omega (arith, (w.low i h).inside e, w.space, x.long, capacity_within t.cells)) (omega (arith, (w.low i h).inside e, w.space, capacity_within t.cells))
      (λ j l. ap f (element_kept i j h e l)))))

  next_low : (i : ℕ) → i < u.n → Low u i
  next_low i h = elim (dec_lt i t.n) [
    | yes a ↦
        let l = w.low i a in
        record {
          known = rw (kind_kept i a) l.known;
          none = rw (kind_kept i a, first_kept i a) l.none;
          unused = rw (kind_kept i a, second_kept i a) l.unused;
          first = rw (kind_kept i a, first_kept i a) l.first;
          second = rw (kind_kept i a, second_kept i a) l.second;
          inside = rw (kind_kept i a, first_kept i a, second_kept i a) (λ e. omega (arith, l.inside e, x.wider));
          elements = rw (as_wide, kind_kept i a, first_kept i a, second_kept i a) (λ e j b. rw (element_kept i j a e b) (l.elements e j b));
        }
    | no a ↦ subst (Low u) (omega (arith, x.count)) x.low
  ]

  -- an old record is in the chain that it was in
  slot_kept : (i : ℕ) → i < t.n → slot_at u.cells i ≡ slot_at t.cells i
  unfolding slot_at test◌then◌else◌
  slot_kept i h = elim (ℕ_discrete (kind_at t i) 10) [
    | yes e ↦
        rw (
          as_wide,
          kind_kept i h,
          first_kept i h,
          second_kept i h,
          e,
          piece_same u.cells t.cells (elements_from t.cells + first_at t i) (elements_from t.cells + first_at t i) (second_at t i)
              (omega (arith, (w.low i h).inside e, w.space, x.long, capacity_within t.cells)) (omega (arith, (w.low i h).inside e, w.space, capacity_within t.cells))
              (λ j l. element_kept i j h e l),
        )
        (slot_as t.cells u.cells _ as_wide)
    | no e ↦
        rw (as_wide, kind_kept i h, first_kept i h, second_kept i h, ne_eqb (kind_at t i) 10 e)
        (slot_as t.cells u.cells _ as_wide)
  ]

  -- the old Tuples have the elements that they had, and a new one has its own
  tupled_kept : (k : ℕ) → k ≤ t.n → tupled u.cells k ≡ tupled t.cells k
  unfolding tupled
  tupled_kept zero h = refl
  tupled_kept (suc k) h = rw (kind_kept k (omega arith), second_kept k (omega arith), tupled_kept k (omega arith))

  next_apart : tupled u.cells u.n ≤ u.m
  unfolding tupled test◌then◌else◌
  next_apart = rw (x.count, add_one t.n) (elim (ℕ_discrete (kind_at u t.n) 10) [
    | yes e ↦ rw e (omega (arith, x.own e, tupled_kept t.n (omega arith), w.apart))
    | no n ↦ rw (ne_eqb (kind_at u t.n) 10 n) (omega (arith, x.wider, tupled_kept t.n (omega arith), w.apart))
  ])

  next_same : (i : ℕ) → i < t.n → denote u i ≡ denote t i
  next_same = denote_agree t u (omega (arith, x.count)) agree

  next_last : denote u t.n ≡ shape u (denote t) t.n
  next_last =
      let space : u.m ≤ capacity u.cells = rw as_wide x.space in
      denote_sound u (record { space = space; low = next_low }) t.n (omega (arith, x.count))
      ∙ shape_cong u space (denote u) (denote t) t.n x.low next_same

  next_inj : (i j : ℕ) → i < u.n → j < u.n → denote u i ≡ denote u j → i ≡ j
  next_inj i j a b e = elim (dec_lt i t.n) [
    | yes c ↦ elim (dec_lt j t.n) [
      | yes d ↦ w.inj i j c d (sym (next_same i c) ∙ e ∙ next_same j d)
      | no d ↦
          let k : j ≡ t.n = omega (arith, x.count) in
          absurd (x.fresh i c (sym (next_same i c) ∙ e ∙ ap (denote u) k ∙ next_last))
    ]
    | no c ↦
        let l : i ≡ t.n = omega (arith, x.count) in
        elim (dec_lt j t.n) [
          | yes d ↦ absurd (x.fresh j d (sym (next_same j d) ∙ sym e ∙ ap (denote u) l ∙ next_last))
          | no d ↦ omega (arith, x.count)
        ]
  ]

  next_chained : Chained u.cells u.n
  next_chained =
      let c : Chains u.cells (t.n + 1) =
      chains_more (chains_of t.cells t.n w.chained) as_wide slot_kept (λ i h. x.records (link_cell i) (omega arith)) x.headed in
      rw x.count (chained_as c)

  next_grown : Grown t u
  next_grown = record {
    wf = record {
      most = rw as_wide w.most;
      base = omega (arith, x.count, w.base);
      room = rw as_wide x.room;
      space = rw as_wide x.space;
      plains = λ i h. kind_kept i (omega (arith, w.base)) ∙ w.plains i h;
      low = next_low;
      inj = next_inj;
      chained = next_chained;
      apart = next_apart;
    };
    long = x.long;
    as_wide = as_wide;
    more = omega (arith, x.count);
    wider = x.wider;
    same = next_same;
    records = x.records;
    elements = λ j h. rw as_wide (x.elements j h);
  }

  pub next_made : (ty : Ty) (spent : ℕ) → shape u (denote t) t.n ≡ ty → u.m ≤ t.m + spent → Made t u t.n ty spent
  next_made ty spent e s = record {
    grown = next_grown;
    room = omega (arith, x.count);
    space = s;
    below = omega (arith, x.count);
    means = next_last ∙ e;
    once = λ i h d. absurd (x.fresh i h (d ∙ sym e));
  }

-- the type has a number already: nothing is added
pub made_old : {t : Tab} {r : ℕ} {ty : Ty} (spent : ℕ) → Wf t → r < t.n → denote t r ≡ ty → Made t t r ty spent
made_old spent w h e = record {
  grown = grown_refl w;
  room = omega arith;
  space = omega arith;
  below = h;
  means = e;
  once = λ i a d. (refl, refl);
}
