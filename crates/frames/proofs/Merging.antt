-- Laws of the merge. Assumes nothing.
use mathlib.Core.Path.{◌≡◌, refl, sym, ap, ◌∙◌, subst}
use mathlib.Core.List.{List, [], ◌∷◌, ◌++◌}
use mathlib.Core.Bool.{Bool, true, false, not}
use mathlib.Core.Option.{Option, none, some}
use Rattle.std.specs.Prelude.{Ok, Err}
use Prim.Native.Nat.{ℕ, zero, suc, ◌+◌, ◌-◌, ◌≤◌, ◌<◌}
use native.Mathlib.Omega.{arith}
use native.Mathlib.Decide.{dec_lt}
use native.Mathlib.Numerals.{sub-one, add-one}
use lib.Dec.{eqb, ltb}
use lib.ListN.{length, get_or, set, replicate, length-set, length-replicate, get_or-replicate}
use lib.Seq.{get_or-set_same, get_or-set_other}
use borrow.Author.Tests.{lt-ltb, eq-eqb, ne_eqb, eqb-true, eqb-false, ltb-true}
use borrow.Author.Count.{below_more}
use Rattle.meaning.specs.Types.{Ty, unknown, same}
use Rattle.meaning.proofs.Choices.{same_yes, same_no, and_true, and_false}
use Rattle.types.specs.Table.{Tab, denote, Wf, Grown}
use Rattle.types.proofs.Laws.{unknown_number, same_number}
use Rattle.meaning.specs.Limits.{most_names}
use Rattle.meaning.specs.Base.{◌and◌, ◌or◌, test◌then◌else◌, if_some, or_else, all, count}
use Rattle.meaning.specs.Image.{Name, name_of}
use Rattle.meaning.specs.Message.{a_text, conflict}
use Rattle.meaning.specs.Frames.{Binding, binding, blank, Frames, slot_in}
use Rattle.meaning.specs.Walk.{State, state, bind, done, wrong, ◌>>=◌, same_type, same_slot, tells, assigned, merge_name, merge_names, merge}
use Rattle.meaning.proofs.Statements.{then_same}
use Rattle.frames.specs.Env.{First, Merge, Rows, type_in, node_in, absent_row, cell, put, pick, node_from, slot_as, slot, frames_of, Fit, cell_room, first_node, FirstBelow, merge_end, tells_cell, note_cell, clash_cell, Noted, settle_name, settle, Committed}
use Rattle.frames.proofs.Laws.{absent_cells, slot_frames, slot_some, slot_none, slot_grown, frames_put, fit_put}

never : {A : Type 0} → ◌≡◌ {A = Bool} false true → A
never e = let z : ◌≡◌ {A = ℕ} 0 1 = ap (λ (b : Bool). pick b 1 0) e in absurd (omega arith)

no_some : {A B : Type 0} (a : A) → none ≡ some a → B
unfolding if_some
no_some a e = let z : ◌≡◌ {A = ℕ} 0 1 = ap (λ o. if_some o (λ a. 1) 0) e in absurd (omega arith)

-- ---- the definition's merge of a name goes by the first and by whether another's type differs
pub first_of : List Binding → Option Binding
first_of [] = none
first_of (b ∷ bs) = some b

pub differs : List Binding → Bool
differs [] = false
differs (b ∷ bs) = not (all (same_type b) bs)

merge_name_lem : (ws : List Name) (c x : ℕ) (bs : List Binding) (s : State) → merge_name ws c x bs s ≡ settle_name ws c x (first_of bs) (differs bs) s
unfolding merge_name settle_name first_of differs test◌then◌else◌
merge_name_lem ws c x [] s = refl
merge_name_lem ws c x (b ∷ bs) s = by (all (same_type b) bs)
  where
    by : (q : Bool) → (test q then done (bind x b s) else wrong (conflict 23 c b.first (a_text (name_of ws x).spelling ∷ [])) s) ≡ settle_name ws c x (some b) (not q) s
    by true = refl
    by false = refl

-- for what the accumulators mean, the definition's merge is the merge by accumulators
pub merge_settle : (ws : List Name) (c : ℕ) (Γ : Frames) (Δs : List Frames) (f : ℕ → Option Binding) (g : ℕ → Bool) (i n : ℕ) (s : State) → i + n ≤ 128
    → ((x : ℕ) → x < 128 → f x ≡ first_of (assigned Γ x Δs)) → ((x : ℕ) → x < 128 → g x ≡ differs (assigned Γ x Δs))
    → merge_names ws c Γ Δs (count i n) s ≡ settle ws c f g (count i n) s
unfolding merge_names settle count
merge_settle ws c Γ Δs f g i zero s h p q = refl
merge_settle ws c Γ Δs f g i (suc n) s h p q =
    let a : merge_name ws c i (assigned Γ i Δs) s ≡ settle_name ws c i (f i) (g i) s = rw (p i (omega arith), q i (omega arith)) (merge_name_lem ws c i (assigned Γ i Δs) s) in
    rw a (then_same (settle_name ws c i (f i) (g i) s) _ _ (λ s'. merge_settle ws c Γ Δs f g (suc i) n s' (omega arith) p q))

-- ---- one more branch
snoc_by : (p q : Bool) (a b : Binding) (ts : List Binding)
    → (test p then a ∷ (test q then ts ++ (b ∷ []) else ts) else (test q then ts ++ (b ∷ []) else ts))
    ≡ (test q then (test p then a ∷ ts else ts) ++ (b ∷ []) else (test p then a ∷ ts else ts))
unfolding test◌then◌else◌
snoc_by true true a b ts = refl
snoc_by true false a b ts = refl
snoc_by false true a b ts = refl
snoc_by false false a b ts = refl

assigned_snoc : (Γ : Frames) (x : ℕ) (Δs : List Frames) (Δ : Frames)
    → assigned Γ x (Δs ++ (Δ ∷ [])) ≡ (test tells (slot_in Γ x) (slot_in Δ x) then assigned Γ x Δs ++ (or_else (slot_in Δ x) blank ∷ []) else assigned Γ x Δs)
unfolding assigned
assigned_snoc Γ x [] Δ = refl
assigned_snoc Γ x (E ∷ Δs) Δ = rw (assigned_snoc Γ x Δs Δ) (snoc_by (tells (slot_in Γ x) (slot_in E x)) (tells (slot_in Γ x) (slot_in Δ x)) _ _ _)

-- cells tell what slots tell: b and k are types' halves, m and n those of their nodes
module _ {t : Tab} (w : Wf t) where
  same_slot_lem : (k b m : ℕ) (n : Option ℕ) → k < t.n → b ≤ t.n → same_slot (some (binding (denote t k) n)) (slot_as t b m) ≡ eqb (suc k) b
  unfolding same_slot same_type slot_as
  same_slot_lem k zero m n h l = sym (ne_eqb (suc k) 0 (λ z. omega arith))
  same_slot_lem k (suc j) m n h l = same_number w k j h l ∙ by (eqb k j) refl
    where
      by : (q : Bool) → eqb k j ≡ q → q ≡ eqb (suc k) (suc j)
      by true e = sym (eq-eqb (suc k) (suc j) (ap suc (eqb-true k j e)))
      by false e = sym (ne_eqb (suc k) (suc j) (λ z. eqb-false k j e (omega arith)))

  tells_halves : (b m k n : ℕ) → b ≤ t.n → k ≤ t.n → tells (slot_as t b m) (slot_as t k n) ≡ (test ltb 1 k then (test eqb k b then false else true) else false)
  unfolding tells slot_as ◌or◌ test◌then◌else◌
  tells_halves b m zero n h l = refl
  tells_halves b m (suc zero) n h l = rw (same_yes (denote t 0) unknown (unknown_number w))
  tells_halves b m (suc (suc k)) n h l =
      let u : denote t 0 ≡ unknown = unknown_number w in
      let d : same (denote t (suc k)) unknown ≡ false = same_no _ _ (λ e. let z = w.inj (suc k) 0 l (omega arith) (e ∙ sym u) in absurd (omega arith)) in
      rw (d, lt-ltb 1 (suc (suc k)) (omega arith), same_slot_lem (suc k) b m (node_from n) l h)

pub tells_cell_lem : (t : Tab) → Wf t → (b v : ℕ) → type_in b ≤ t.n → type_in v ≤ t.n → tells (slot t b) (slot t v) ≡ tells_cell b v
unfolding tells_cell
tells_cell_lem t w b v h l = tells_halves w (type_in b) (node_in b) (type_in v) (node_in v) h l

-- ---- the accumulators: ms and cs tell of the branches Δs over Γ
pub record Tally (t : Tab) (Γ : Frames) (Δs : List Frames) (ms : List ℕ) (cs : List Bool) : Type 0 where
  pub lm : length ms ≡ 128
  pub lc : length cs ≡ 128
  pub within : (x : ℕ) → type_in (get_or ms x 0) ≤ t.n
  pub first : (x : ℕ) → x < 128 → slot t (get_or ms x 0) ≡ first_of (assigned Γ x Δs)
  pub clash : (x : ℕ) → x < 128 → get_or cs x false ≡ differs (assigned Γ x Δs)

all_snoc : (f : Binding → Bool) (ts : List Binding) (u : Binding) → all f (ts ++ (u ∷ [])) ≡ (all f ts and f u)
unfolding all ◌and◌
all_snoc f [] u = by (f u)
  where
    by : (q : Bool) → (q and true) ≡ (true and q)
    by true = refl
    by false = refl
all_snoc f (t ∷ ts) u = rw (all_snoc f ts u) (by (f t))
  where
    by : (q : Bool) → (q and (all f ts and f u)) ≡ ((q and all f ts) and f u)
    by true = refl
    by false = refl

-- what a cell more does to the first and the flag is what a binding more does: j and k are types' halves, m and n those of their nodes
module _ (t : Tab) (w : Wf t) where
  note_new : (j k : ℕ) (m n : Option ℕ) (c : Bool) (bs : List Binding) → j < t.n → k < t.n → c ≡ differs (binding (denote t j) m ∷ bs)
      → (test eqb (suc j) (suc k) then c else true) ≡ differs (binding (denote t j) m ∷ (bs ++ (binding (denote t k) n ∷ [])))
  unfolding differs test◌then◌else◌ ◌and◌ same_type same_slot slot_as
  note_new j k m n c bs a b e =
      let d : same (denote t j) (denote t k) ≡ eqb (suc j) (suc k) = same_slot_lem w j (suc k) 0 none a b in
      rw (all_snoc (same_type (binding (denote t j) m)) bs (binding (denote t k) n), d) (by (eqb (suc j) (suc k)))
    where
      by : (q : Bool) → (test q then c else true) ≡ not (all (same_type (binding (denote t j) m)) bs and q)
      by true = rw (and_true (all (same_type (binding (denote t j) m)) bs)) e
      by false = rw (and_false (all (same_type (binding (denote t j) m)) bs))

  note_told : (k n j m : ℕ) (c : Bool) (bs : List Binding) → 0 < k → k ≤ t.n → j ≤ t.n → slot_as t j m ≡ first_of bs → c ≡ differs bs
      → ((test eqb j 0 then slot_as t k n else slot_as t j m) ≡ first_of (bs ++ (or_else (slot_as t k n) blank ∷ [])))
      × ((test eqb j 0 then c else test eqb j k then c else true) ≡ differs (bs ++ (or_else (slot_as t k n) blank ∷ [])))
  unfolding first_of differs slot_as or_else test◌then◌else◌ all
  note_told zero n j m c bs p h l e f = absurd (omega arith)
  note_told (suc k) n zero m c [] p h l e f = (refl, f)
  note_told (suc k) n zero m c (a ∷ bs) p h l e f = no_some a e
  note_told (suc k) n (suc j) m c [] p h l e f = no_some (binding (denote t j) (node_from m)) (sym e)
  note_told (suc k) n (suc j) m c (a ∷ bs) p h l e f =
      let i : binding (denote t j) (node_from m) ≡ a = ap (λ o. or_else o blank) e in
      rw (ne_eqb (suc j) 0 (λ z. omega arith)) (
        e,
        subst (λ (x : Binding). (test eqb (suc j) (suc k) then c else true) ≡ differs (x ∷ (bs ++ (binding (denote t k) (node_from n) ∷ [])))) i
            (note_new j k (node_from m) (node_from n) c bs l h (subst (λ (x : Binding). c ≡ differs (x ∷ bs)) (sym i) f)),
      )

  note_cell_lem : (b v m : ℕ) (c : Bool) (bs : List Binding) → type_in v ≤ t.n → type_in m ≤ t.n → slot t m ≡ first_of bs → c ≡ differs bs
      → (slot t (note_cell b v m) ≡ first_of (test tells_cell b v then bs ++ (or_else (slot t v) blank ∷ []) else bs))
      × (clash_cell b v m c ≡ differs (test tells_cell b v then bs ++ (or_else (slot t v) blank ∷ []) else bs))
  unfolding note_cell clash_cell tells_cell test◌then◌else◌
  note_cell_lem b v m c bs h l e f = by (tells_cell b v) (told (ltb 1 (type_in v)) refl)
    where
      told : (q : Bool) → ltb 1 (type_in v) ≡ q → (test q then (test eqb (type_in v) (type_in b) then false else true) else false) ≡ true → 0 < type_in v
      told true z y = let p = ltb-true 1 (type_in v) z in omega arith
      told false z y = never y

      chosen : (q : Bool) → slot t (test q then v else m) ≡ (test q then slot t v else slot t m)
      chosen true = refl
      chosen false = refl

      by : (q : Bool) → (q ≡ true → 0 < type_in v)
          → (slot t (test q then (test eqb (type_in m) 0 then v else m) else m) ≡ first_of (test q then bs ++ (or_else (slot t v) blank ∷ []) else bs))
          × ((test q then (test eqb (type_in m) 0 then c else test eqb (type_in m) (type_in v) then c else true) else c) ≡ differs (test q then bs ++ (or_else (slot t v) blank ∷ []) else bs))
      by true p =
          let n = note_told (type_in v) (node_in v) (type_in m) (node_in m) c bs (p refl) h l e f in (chosen (eqb (type_in m) 0) ∙ n.0, n.1)
      by false p = (e, f)

if_has : (P : ℕ → Type 0) (q : Bool) {a b : ℕ} → P a → P b → P (test q then a else b)
unfolding test◌then◌else◌
if_has P true p q = p
if_has P false p q = q

note_le : (b v m n : ℕ) → type_in v ≤ n → type_in m ≤ n → type_in (note_cell b v m) ≤ n
unfolding note_cell
note_le b v m n p q = if_has (λ k. type_in k ≤ n) (tells_cell b v) (if_has (λ k. type_in k ≤ n) (eqb (type_in m) 0) p q) q

pub tally_none : (t : Tab) (Γ : Frames) → Tally t Γ [] absent_row (replicate 128 false)
unfolding assigned first_of differs slot_as
tally_none t Γ = record {
  lm = length-replicate {A = ℕ} 128 65536;
  lc = length-replicate 128 false;
  within = λ x. omega (arith, absent_cells 128 x);
  first = λ x h. slot_none t _ (absent_cells 128 x);
  clash = λ x h. get_or-replicate 128 x false false h;
}

pub tally_grown : {t u : Tab} {Γ : Frames} {Δs : List Frames} {ms : List ℕ} {cs : List Bool} → Grown t u → Tally t Γ Δs ms cs → Tally u Γ Δs ms cs
tally_grown {ms = ms} g a = record {
  lm = a.lm;
  lc = a.lc;
  within = λ x. omega (arith, a.within x, g.more);
  first = λ x h. slot_grown g (get_or ms x 0) (a.within x) ∙ a.first x h;
  clash = a.clash;
}

pub tally_next : {t : Tab} {base branch : Rows} {top high : ℕ} {Γ : Frames} {Δs : List Frames} {ms ns : List ℕ} {cs ds : List Bool}
    → Wf t → Fit t base top → Fit t branch high → Γ ≡ frames_of t base top → Tally t Γ Δs ms cs
    → Noted (get_or base top []) (get_or branch high []) ms cs ns ds 128
    → Tally t Γ (Δs ++ (frames_of t branch high ∷ [])) ns ds
tally_next {t} {base} {branch} {top} {high} {Γ} {Δs} {ms} {ns} {cs} {ds} w f g e a n =
    let lm : length ns ≡ 128 = n.lm ∙ a.lm in
    let told : (x : ℕ) → assigned Γ x (Δs ++ (frames_of t branch high ∷ []))
    ≡ (test tells_cell (cell base top x) (cell branch high x) then assigned Γ x Δs ++ (or_else (slot t (cell branch high x)) blank ∷ []) else assigned Γ x Δs) =
    λ x. assigned_snoc Γ x Δs (frames_of t branch high)
    ∙ rw (
      slot_frames t branch high x,
      ap (λ z. slot_in z x) e ∙ slot_frames t base top x,
      tells_cell_lem t w (cell base top x) (cell branch high x) (f.known top x f.high) (g.known high x g.high),
    ) in
    let c : (x : ℕ) (h : x < 128) → _ = λ x h. note_cell_lem t w (cell base top x) (cell branch high x) (get_or ms x 0) (get_or cs x false) (assigned Γ x Δs) (g.known high x g.high) (a.within x) (a.first x h) (a.clash x h) in
    record {
      lm = lm;
      lc = n.lc ∙ a.lc;
      within = λ x. elim (dec_lt x 128) [
        | yes l ↦ rw (n.new_m x l) (note_le (cell base top x) (cell branch high x) (get_or ms x 0) t.n (g.known high x g.high) (a.within x))
        | no l ↦ rw (n.old_m x (omega arith)) (a.within x)
      ];
      first = λ x h. ap (slot t) (n.new_m x h) ∙ (c x h).0 ∙ ap first_of (sym (told x));
      clash = λ x h. n.new_c x h ∙ (c x h).1 ∙ ap differs (sym (told x));
    }

-- ---- the loop of `note_branch`
pub noted_none : (base branch ms : List ℕ) (cs : List Bool) → Noted base branch ms cs ms cs 0
noted_none base branch ms cs = record {
  lm = refl;
  lc = refl;
  new_m = λ x h. absurd (omega arith);
  new_c = λ x h. absurd (omega arith);
  old_m = λ x h. refl;
  old_c = λ x h. refl;
}

pub noted_more : {base branch ms ns : List ℕ} {cs ds : List Bool} {x : ℕ} (r : ℕ) (q : Bool) → Noted base branch ms cs ns ds x
    → x < length ms → x < length cs
    → r ≡ note_cell (get_or base x 0) (get_or branch x 0) (get_or ns x 0)
    → q ≡ clash_cell (get_or base x 0) (get_or branch x 0) (get_or ns x 0) (get_or ds x false)
    → Noted base branch ms cs (set ns x r) (set ds x q) (x + 1)
noted_more {base} {branch} {ms} {ns} {cs} {ds} {x} r q n h l e f =
    let m = n.old_m x (omega arith) in
    let c = n.old_c x (omega arith) in
    record {
      lm = length-set ns x r ∙ n.lm;
      lc = length-set ds x q ∙ n.lc;
      new_m = below_more _ x (λ y p. get_or-set_other ns x y r 0 (omega arith) ∙ n.new_m y p) (get_or-set_same ns x r 0 (omega (arith, n.lm)) ∙ e ∙ rw m);
      new_c = below_more _ x (λ y p. get_or-set_other ds x y q false (omega arith) ∙ n.new_c y p) (get_or-set_same ds x q false (omega (arith, n.lc)) ∙ f ∙ rw (m, c));
      old_m = λ y p. get_or-set_other ns x y r 0 (omega arith) ∙ n.old_m y (omega arith);
      old_c = λ y p. get_or-set_other ds x y q false (omega arith) ∙ n.old_c y (omega arith);
    }

-- ---- the loop of `commit`
pub record Committing (fs : Rows) (top : ℕ) (ms : List ℕ) (cs : List Bool) (gs : Rows) (x : ℕ) : Type 0 where
  pub here : x ≤ 128
  pub long : length gs ≡ 8
  pub answer : (ws : List Name) (c : ℕ) (t : Tab) (r : Ty) → settle ws c (λ y. slot t (get_or ms y 0)) (λ y. get_or cs y false) (count 0 most_names) (state (frames_of t fs top) r)
      ≡ settle ws c (λ y. slot t (get_or ms y 0)) (λ y. get_or cs y false) (count x (128 - x)) (state (frames_of t gs top) r)
  pub fit : (t : Tab) → Fit t fs top → ((y : ℕ) → type_in (get_or ms y 0) ≤ t.n) → Fit t gs top

count_down : (x n : ℕ) → 0 < n → count x n ≡ x ∷ count (x + 1) (n - 1)
unfolding count
count_down x zero h = absurd (omega arith)
count_down x (suc n) h = rw (sub-one (suc n), add-one x)

pub committing_first : (fs : Rows) (top : ℕ) (ms : List ℕ) (cs : List Bool) → length fs ≡ 8 → Committing fs top ms cs fs 0
committing_first fs top ms cs l = record { here = omega arith; long = l; answer = λ ws c t r. refl; fit = λ t f h. f }

module _ {fs gs : Rows} {top : ℕ} {ms : List ℕ} {cs : List Bool} {x : ℕ} (l : Committing fs top ms cs gs x) (p : x < 128) where
  committing_answer : (ws : List Name) (c : ℕ) (t : Tab) (r : Ty) → settle ws c (λ y. slot t (get_or ms y 0)) (λ y. get_or cs y false) (count 0 most_names) (state (frames_of t fs top) r)
      ≡ (settle_name ws c x (slot t (get_or ms x 0)) (get_or cs x false) (state (frames_of t gs top) r)
      >>= λ s. settle ws c (λ y. slot t (get_or ms y 0)) (λ y. get_or cs y false) (count (x + 1) (128 - (x + 1))) s)
  unfolding settle
  committing_answer ws c t r =
      let e : 128 - x - 1 ≡ 128 - (x + 1) = omega arith in
      l.answer ws c t r ∙ rw (count_down x (128 - x) (omega arith), e)

  pub committing_skip : type_in (get_or ms x 0) ≡ 0 → Committing fs top ms cs gs (x + 1)
  unfolding settle_name ◌>>=◌
  committing_skip z = record {
    here = omega arith;
    long = l.long;
    answer = λ ws c t r. rw (slot_none t (get_or ms x 0) z) at (committing_answer ws c t r);
    fit = l.fit;
  }

  pub committing_put : (m : ℕ) → m ≡ get_or ms x 0 → (type_in m ≡ 0 → ⊥) → get_or cs x false ≡ false → top < 8 → Committing fs top ms cs (put gs top x m) (x + 1)
  unfolding settle_name ◌>>=◌
  committing_put m e z o h = record {
    here = omega arith;
    long = length-set gs top _ ∙ l.long;
    answer = λ ws c t r.
        let k : type_in m ≡ suc (type_in m - 1) = omega arith in
        rw (← e, o, slot_some t m (type_in m - 1) k, ← (frames_put t gs top x m (type_in m - 1) (omega (arith, l.long)) k)) at (committing_answer ws c t r);
    fit = λ t f b. fit_put x m (l.fit t f b) (rw e (b x));
  }

  pub committing_clash : (m : ℕ) (f : First) → m ≡ get_or ms x 0 → (type_in m ≡ 0 → ⊥) → first_node f ≡ node_from (node_in m) → FirstBelow cell_room f → get_or cs x false ≡ true
      → Committed fs gs top ms cs (Err (record { name = x; first = f }))
  unfolding settle_name ◌>>=◌ merge_end
  committing_clash m f e z n h o = record {
    says = λ ws c t r.
        let k : type_in m ≡ suc (type_in m - 1) = omega arith in
        rw n (rw (← e, o, slot_some t m (type_in m - 1) k) at (committing_answer ws c t r));
    fit = l.fit;
    near = h;
  }

pub committing_end : {fs gs : Rows} {top : ℕ} {ms : List ℕ} {cs : List Bool} {x : ℕ} → Committing fs top ms cs gs x → 128 ≤ x
    → Committed fs gs top ms cs (Ok tt)
unfolding settle merge_end count
committing_end {x = x} l p =
    let e : 128 - x ≡ 0 = omega arith in
    record { says = λ ws c t r. rw e at (l.answer ws c t r); fit = l.fit; near = tt }

-- ---- what `commit` leaves is what the definition's merge leaves
pub merged : {t : Tab} {fs gs : Rows} {top : ℕ} {Γ : Frames} {Δs : List Frames} {ms : List ℕ} {cs : List Bool} {m : Merge} (ws : List Name) (c : ℕ) (y : Ty)
    → Γ ≡ frames_of t fs top → Tally t Γ Δs ms cs → Committed fs gs top ms cs m → merge ws c Δs (state Γ y) ≡ merge_end ws c m (state (frames_of t gs top) y)
unfolding merge
merged {t} {fs} {gs} {top} {Γ} {Δs} {ms} {cs} ws c y e a m =
    merge_settle ws c Γ Δs (λ x. slot t (get_or ms x 0)) (λ x. get_or cs x false) 0 most_names (state Γ y) (omega arith) a.first a.clash ∙ rw e (m.says ws c t y)
