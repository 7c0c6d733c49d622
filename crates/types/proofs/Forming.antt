-- Forming a List, Dict, MapIter or FilterIter: its record is there already, or it is written at the end.
use mathlib.Core.Path.{◌≡◌, refl, sym, ap, ◌∙◌}
use mathlib.Core.List.{List}
use Prim.Native.Nat.{ℕ, ◌+◌, ◌≤◌, ◌<◌}
use Rattle.std.specs.Prelude.{Option, Some, None}
use native.Mathlib.Omega.{arith}
use native.Mathlib.Decide.{dec_lt}
use Rattle.meaning.specs.Types.{kind, part}
use Rattle.types.specs.Layout.{elements_from, slots_from}
use Rattle.types.specs.Table.{Tab, tab, capacity, kind_at, first_at, second_at, record_hash, slot_of, built, shape, denote, Wf, Made}
use Rattle.types.specs.Steps.{RecordAt, Found, Added, Asked}
use Rattle.types.proofs.Room.{capacity_as}
use Rattle.types.proofs.Shapes.{shaped_kind, shaped_first, shaped_second, shaped_cong}
use Rattle.types.proofs.Laws.{denote_eq, record_kind, first_part, second_part, unknown_number}
use Rattle.types.proofs.Chains.{slot_least, slot_most, slot_as, slot_record}
use Rattle.types.proofs.Growth.{next_made, made_old}

-- what a caller of `form` has to show, for each of the four kinds
module _ {t : Tab} {p : ℕ} (w : Wf t) (room : t.n < capacity t.cells) (first : p < t.n) where
  one_part : (k : ℕ) → 8 ≤ k → k ≤ 12 → (k ≡ 10 → ⊥) → Asked t k p 0
  one_part k l m n = record {
    wf = w;
    room = room;
    least = l;
    most = m;
    no_tuple = n;
    first = first;
    second = omega arith;
    unused = λ e. refl;
  }

  pub ask_list : Asked t 8 p 0
  ask_list = one_part 8 (omega arith) (omega arith) (λ e. absurd (omega arith))

  pub ask_map : Asked t 11 p 0
  ask_map = one_part 11 (omega arith) (omega arith) (λ e. absurd (omega arith))

  pub ask_filter : Asked t 12 p 0
  ask_filter = one_part 12 (omega arith) (omega arith) (λ e. absurd (omega arith))

  pub ask_dict : {q : ℕ} → q < t.n → Asked t 9 p q
  ask_dict second = record {
    wf = w;
    room = room;
    least = omega arith;
    most = omega arith;
    no_tuple = λ e. absurd (omega arith);
    first = first;
    second = second;
    unused = λ e. absurd (e refl);
  }

module _ (t : Tab) (k p q : ℕ) (x : Asked t k p q) where
  -- what a record (k, p, q) says
  says : (u : Tab) (i : ℕ) → RecordAt u.cells k p q i → shape u (denote t) i ≡ built k (denote t p) (denote t q)
  unfolding shape built
  says u i r = rw (r.kind_is, r.first_is, r.second_is) (shaped_cong k x.most (λ e n. refl) (λ e. refl) (λ e. absurd (x.no_tuple e)))

  -- a number that means the type has its record: kind and parts tell it, since equal types have equal numbers
  told : (i : ℕ) → i < t.n → denote t i ≡ built k (denote t p) (denote t q) → RecordAt t.cells k p q i
  unfolding built
  told i h e =
      let w = x.wf in
      let ki : kind_at t i ≡ k = record_kind w i h (ap kind e ∙ shaped_kind _ _ _ k x.most) in
      let nt : kind_at t i ≡ 10 → ⊥ = λ z. x.no_tuple (sym ki ∙ z) in
      let f = first_part w i h nt in
      let g = second_part w i h nt in
      let fi : denote t (first_at t i) ≡ denote t p =
      f.means ∙ ap (part 0) e ∙ shaped_first _ _ _ k x.most x.no_tuple (λ z. absurd (omega (arith, x.least))) in
      let si : denote t (second_at t i) ≡ denote t q =
      g.means ∙ ap (part 1) e
      ∙ shaped_second _ _ _ k x.most x.no_tuple (λ z. ap (denote t) (x.unused z) ∙ unknown_number w) in
      record { kind_is = ki; first_is = w.inj _ _ f.below x.first fi; second_is = w.inj _ _ g.below x.second si }

  pub form_old : {r : Option ℕ} {i : ℕ} → Found (RecordAt t.cells k p q) t.n r → r ≡ Some i → Made t t i (built k (denote t p) (denote t q)) 0
  form_old {i = i} f e = made_old 0 x.wf (f.below i e) (denote_eq x.wf i (f.below i e) ∙ says t i (f.found i e))

  pub form_new : {r : Option ℕ} {slot : ℕ} {ds : List ℕ} → Found (RecordAt t.cells k p q) t.n r → r ≡ None → slot ≡ slot_of t.cells (record_hash k p q)
      → Added t.cells ds slot t.n k p q → Made t (tab ds (t.n + 1) t.m) t.n (built k (denote t p) (denote t q)) 0
  form_new {r} {slot} {ds} f h z v =
      let u : Tab = tab ds (t.n + 1) t.m in
      let w = x.wf in
      let ki = v.here.kind_is in
      let fi = v.here.first_is in
      let si = v.here.second_is in
      let s = says u t.n v.here in
      let least : slots_from t.cells ≤ slot = rw z (slot_least t.cells (record_hash k p q)) in
      next_made t u w
      (record {
        long = v.long;
        count = refl;
        room = omega (arith, x.room);
        wider = omega arith;
        space = w.space;
        records = v.before;
        elements = λ j a. v.after (elements_from t.cells + j) (omega (arith, x.room)) (omega (arith, w.space));
        low = record {
          known = omega (arith, x.most);
          none = λ e. absurd (omega (arith, x.least));
          unused = λ e n. si ∙ x.unused (λ z. e (ki ∙ z));
          first = λ e n. omega (arith, x.first);
          second = λ e. omega (arith, x.second);
          inside = λ e. absurd (x.no_tuple (sym ki ∙ e));
          elements = λ e. absurd (x.no_tuple (sym ki ∙ e));
        };
        own = λ e. absurd (x.no_tuple (sym ki ∙ e));
        slot = slot;
        headed = record {
          least = least;
          most = rw z (slot_most t.cells (record_hash k p q) (omega (arith, x.room)));
          own = slot_record x.no_tuple v.here ∙ slot_as t.cells ds (record_hash k p q) (capacity_as t.cells ds v.long) ∙ sym z;
          link = v.link;
          head = v.head;
          others = λ y a e. v.after y (omega (arith, x.room)) e;
        };
        fresh = λ i a e.
            let l = told i a (e ∙ s) in
            elim (dec_lt i 8) [
              | yes b ↦ omega (arith, w.plains i b, l.kind_is, x.least)
              | no b ↦ f.none h i (omega arith) a l
            ];
      })
      _ 0 s (omega arith)
