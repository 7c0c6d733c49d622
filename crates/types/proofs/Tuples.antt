-- Forming a Tuple: its record is there already, or its elements and its record are written at the end.
use mathlib.Core.Path.{◌≡◌, refl, sym, ap, subst, ◌∙◌}
use mathlib.Core.Bool.{Bool}
use mathlib.Core.List.{List, map}
use Prim.Native.Nat.{ℕ, ◌+◌, ◌-◌, ◌≤◌, ◌<◌}
use Rattle.std.specs.Prelude.{Option, Some, None}
use borrow.Rule.Slice.PartMut.{put_mid}
use Rattle.std.proofs.lemmas.Slice.{take-put_mid_below, drop-put_mid, between-put_mid}
use native.Mathlib.Omega.{arith}
use native.Mathlib.Decide.{dec_lt}
use lib.ListN.{length, get_or, take, drop, length-take, length-drop, length-append}
use lib.Seq.{get_or-take, get_or-drop}
use Rattle.meaning.specs.Base.{choose, test◌then◌else◌}
use Rattle.meaning.specs.Types.{Ty, tuple, tys, kind, parts}
use Rattle.types.specs.Layout.{kind_in, first_in, second_in, elements_from, slots_from}
use Rattle.types.specs.Table.{Tab, tab, capacity, kind_at, first_at, second_at, tuple_hash, slot_of, shaped, shape, denote, Made}
use Rattle.types.specs.Steps.{Told, Found, Added, Listed, TupleAt}
use Rattle.words.specs.Words.{put_at}
use Rattle.words.proofs.Steps.{put_part_at}
use Rattle.types.proofs.Room.{capacity_within, capacity_as}
use Rattle.types.proofs.Pieces.{piece, piece_at, piece_long, piece_same, piece_inj, tuple_parts}
use Rattle.types.proofs.Laws.{record_kind, tuple_is, parts_of}
use Rattle.types.proofs.Searching.{told_as}
use Rattle.types.proofs.Chains.{slot_least, slot_most, slot_as, slot_tuple}
use Rattle.types.proofs.Growth.{next_made, made_old}

-- ---- a piece of the cells overwritten

-- ds is cs with the numbers es as its cells from a on
pub record Copied (cs ds : List ℕ) (a : ℕ) (es : List ℕ) : Type 0 where
  pub long : length ds ≡ length cs
  pub before : (x : ℕ) → x < a → get_or ds x 0 ≡ get_or cs x 0
  pub after : (x : ℕ) → a + length es ≤ x → get_or ds x 0 ≡ get_or cs x 0
  pub elements : take (length es) (drop a ds) ≡ es

copied_at : (cs : List ℕ) (a k : ℕ) (es : List ℕ) → length es ≡ k → a + k ≤ length cs → Copied cs (put_mid a k cs es) a es
copied_at cs a k es e l =
    let ds : List ℕ = put_mid a k cs es in
    let front : take a ds ≡ take a cs = take-put_mid_below a k cs es a (omega arith) (omega arith) in
    let rest : drop (a + k) ds ≡ drop (a + k) cs = drop-put_mid a k cs es (a + k) (omega arith) (omega arith) e in
    let until : a + length es - a ≡ length es = omega arith in
    record {
      long = simp (length-append, length-take, length-drop) (omega arith);
      before = λ x h. sym (get_or-take a ds x 0 h) ∙ ap (λ (xs : List ℕ). get_or xs x 0) front ∙ get_or-take a cs x 0 h;
      after = λ x h.
          let z : a + k + (x - (a + k)) ≡ x = omega arith in
          rw z at (sym (get_or-drop (a + k) ds (x - (a + k)) 0) ∙ ap (λ (xs : List ℕ). get_or xs (x - (a + k)) 0) rest ∙ get_or-drop (a + k) cs (x - (a + k)) 0);
      elements = rw until at (between-put_mid a k cs es (a + length es) (omega arith) (sym until));
    }

pub copied : (cs : List ℕ) {a b k : ℕ} {es ds : List ℕ} → b ≡ a → ds ≡ put_at cs b es → length es ≡ k → a + k ≤ length cs → Copied cs ds a es
copied cs {a} {b} {k} {es} {ds} e w m l =
    let until : a + length es - a ≡ k = omega arith in
    let mid : put_mid a k cs es ≡ put_at cs a es = rw until at (put_part_at cs a es) in
    rw (w, e) (subst (λ (xs : List ℕ). Copied cs xs a es) mid (copied_at cs a k es m l))

-- ---- whether a record is the Tuple asked for, where its kind and its count are

pub tuple_told : {cs es : List ℕ} {i a : ℕ} {b : Bool} → kind_in cs i ≡ 10 → second_in cs i ≡ length es
    → a ≡ elements_from cs + first_in cs i → Told (take (length es) (drop a cs) ≡ es) b → Told (TupleAt cs es i) b
tuple_told {cs} {es} k n e t = told_as (λ h. record { kind_is = k; second_is = n; elements = rw e at h }) (λ m. rw e m.elements) t

-- ---- what is asked for

module _ (t : Tab) (st : List ℕ) (s q : ℕ) (x : Listed t st s q) where
  abbrev asked : Ty
  asked = tuple (tys (map (denote t) (piece s q st)))

  pub many : length (piece s q st) ≡ q
  many = piece_long st s q x.inside

  pub tuple_old : {r : Option ℕ} {i : ℕ} → Found (TupleAt t.cells (piece s q st)) t.n r → r ≡ Some i → Made t t i (tuple (tys (map (denote t) (piece s q st)))) q
  tuple_old {i = i} f y =
      let h = f.below i y in
      let e = f.found i y in
      made_old q x.wf h (tuple_is x.wf i h e.kind_is ∙ rw (e.second_is, e.elements))

  -- a number that means the type has its record, since equal types have equal numbers
  told : (i : ℕ) → i < t.n → denote t i ≡ asked → TupleAt t.cells (piece s q st) i
  unfolding kind
  told i h e =
      let w = x.wf in
      let k : kind_at t i ≡ 10 = record_kind w i h (ap kind e) in
      let low = w.low i h in
      let a : ℕ = elements_from t.cells + first_at t i in
      let inside : a + second_at t i ≤ length t.cells = omega (arith, low.inside k, w.space, capacity_within t.cells) in
      let p = piece_inj (denote t) t.cells st a s (second_at t i) q inside x.inside (sym (parts_of w i h k) ∙ ap parts e ∙ tuple_parts _) in
      let here : a + q ≤ length t.cells = rw p.0 at inside in
      record {
        kind_is = k;
        second_is = p.0 ∙ sym many;
        elements = rw many (piece_same t.cells st a s q here x.inside
            (λ j b. let c : j < second_at t i = omega (arith, p.0) in w.inj _ _ (omega (arith, low.elements k j c)) (x.known j b) (p.1 j c)));
      }

  pub tuple_new : {r : Option ℕ} {slot : ℕ} {ds es : List ℕ} → Found (TupleAt t.cells (piece s q st)) t.n r → r ≡ None
      → slot ≡ slot_of t.cells (tuple_hash (piece s q st)) → Copied t.cells ds (elements_from t.cells + t.m) (piece s q st)
      → Added ds es slot t.n 10 t.m q → Made t (tab es (t.n + 1) (t.m + q)) t.n (tuple (tys (map (denote t) (piece s q st)))) q
  unfolding shape shaped choose test◌then◌else◌
  tuple_new {r} {slot} {ds} {es} f h z c v =
      let u : Tab = tab es (t.n + 1) (t.m + q) in
      let w = x.wf in
      let ki = v.here.kind_is in
      let fi = v.here.first_is in
      let si = v.here.second_is in
      let hash : ℕ = tuple_hash (piece s q st) in
      let least : slots_from t.cells ≤ slot = rw z (slot_least t.cells hash) in
      let as_wide : capacity es ≡ capacity t.cells = capacity_as t.cells es (v.long ∙ c.long) in
      let at : ℕ = elements_from t.cells + t.m in
      let in_ds : at + q ≤ length ds = omega (arith, c.long, x.space, capacity_within t.cells) in
      let in_es : at + q ≤ length es = omega (arith, v.long, in_ds) in
      let same : piece at q es ≡ piece s q st =
      piece_same es ds at at q in_es in_ds (λ j l. v.after (at + j) (omega (arith, x.room)) (omega (arith, least, x.space))) ∙ rw many at c.elements in
      let here : TupleAt es (piece s q st) t.n = record { kind_is = ki; second_is = si ∙ sym many; elements = rw (many, as_wide, fi) same } in
      let y : shape u (denote t) t.n ≡ asked = rw (as_wide, ki, fi, si) (ap (λ ns. tuple (tys (map (denote t) ns))) same) in
      next_made t u w
      (record {
        long = v.long ∙ c.long;
        count = refl;
        room = omega (arith, x.room);
        wider = omega arith;
        space = x.space;
        records = λ z l. v.before z l ∙ c.before z (omega (arith, x.room));
        elements = λ j l.
            v.after (elements_from t.cells + j) (omega (arith, x.room)) (omega (arith, w.space))
            ∙ c.before (elements_from t.cells + j) (omega arith);
        low = record {
          known = omega arith;
          none = λ e. absurd (omega arith);
          unused = λ e n. absurd (n ki);
          first = λ e n. absurd (n ki);
          second = λ e. absurd (omega arith);
          inside = λ e. omega arith;
          elements = λ e j a.
              let b : j < q = omega arith in
              rw (as_wide, fi, sym (piece_at es at q j b) ∙ ap (λ (ns : List ℕ). get_or ns j 0) same ∙ piece_at st s q j b) (x.known j b);
        };
        own = λ e. omega (arith, si);
        slot = slot;
        headed = record {
          least = least;
          most = rw z (slot_most t.cells hash (omega (arith, x.room)));
          own = slot_tuple here ∙ slot_as t.cells es hash as_wide ∙ sym z;
          link = v.link ∙ c.after slot (omega (arith, x.space, many));
          head = v.head;
          others = λ y a e. v.after y (omega (arith, x.room)) e ∙ c.after y (omega (arith, x.space, many));
        };
        fresh = λ i a e.
            let l = told i a (e ∙ y) in
            elim (dec_lt i 8) [
              | yes b ↦ omega (arith, w.plains i b, l.kind_is)
              | no b ↦ f.none h i (omega arith) a l
            ];
      })
      _ q y (omega arith)
