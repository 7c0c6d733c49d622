-- The loop of `values`: one expression after the other, its type's number pushed on the stack.
use mathlib.Core.Path.{◌≡◌, refl, sym, ap, ◌∙◌}
use mathlib.Core.List.{List, [], ◌∷◌, ◌++◌, map, append_assoc, append-nil}
use Prim.Native.Nat.{ℕ, suc, ◌+◌, ◌-◌, ◌≤◌, ◌<◌}
use native.Mathlib.Omega.{arith}
use native.Mathlib.Decide.{dec_lt}
use lib.ListN.{length, get_or, take, drop, set, length-set, length-drop}
use lib.Seq.{get_or-set_same, get_or-set_other, take-suc, get_or-drop}
use Rattle.meaning.specs.Types.{Ty}
use Rattle.meaning.specs.Image.{nodes_of, names_of}
use Rattle.meaning.specs.Decode.{expr_at, stop_of, past}
use Rattle.meaning.specs.Operators.{Checked, ◌>>=◌}
use Rattle.meaning.specs.Rules.{each, check}
use Rattle.meaning.proofs.Faults.{Sound}
use Rattle.meaning.proofs.Decoding.{past_down}
use Rattle.types.specs.Table.{Tab, denote, Grown}
use Rattle.types.proofs.Pieces.{piece_map}
use Rattle.frames.specs.Env.{Rows, frames_of}
use Rattle.expr.specs.Contract.{Ready, At, Row, Fine, Done, Values, checks}
use Rattle.expr.proofs.Rows.{row_at, row_next, row_long, ends_after}
use Rattle.expr.proofs.Leaving.{fine_none, fine_then, fine_wider, fine_as, fine_set, ready_narrow, ready_then, ready_push, same_frames}
use Rattle.expr.proofs.Telling.{told_as, told_bind, told_well, checks_none, checks_down}

-- `left` of n expressions from `from` on are left, from node i on; those before have their types on the stack from sp up to `up`
pub record Valuing (bs : List ℕ) (nodes : ℕ) (fs : Rows) (top : ℕ) (t : Tab) (st : List ℕ) (sp from n d : ℕ) (u : Tab) (su : List ℕ) (i left up : ℕ) : Type 0 where
  pub ready : Ready bs nodes fs top u su up i (past (nodes_of bs) n from)
  pub row : Row bs i left d
  pub same : frames_of u fs top ≡ frames_of t fs top
  pub few : left ≤ n
  pub mark : up + left ≡ sp + n
  pub last : past (nodes_of bs) left i ≡ past (nodes_of bs) n from
  pub fine : Fine t u st su sp from i (n - left)
  pub known : (j : ℕ) → sp + j < up → get_or su (sp + j) 0 < u.n
  pub answer : (k : List Ty → Checked) (ts : List Ty) → each (checks bs (frames_of t fs top) d n from) k ts
      ≡ each (checks bs (frames_of t fs top) d left i) k (ts ++ map (denote u) (take (up - sp) (drop sp su)))

pub valuing_first : {bs : List ℕ} {nodes : ℕ} {fs : Rows} {top : ℕ} {t : Tab} {st : List ℕ} {sp from n d left up : ℕ}
    → Ready bs nodes fs top t st sp from (past (nodes_of bs) n from) → Row bs from n d → left ≡ n → up ≡ sp → Valuing bs nodes fs top t st sp from n d t st from left up
valuing_first {t = t} {st} {sp} {from} {n} r w y z = rw (y, z) record {
  ready = r;
  row = w;
  same = refl;
  few = omega arith;
  mark = refl;
  last = refl;
  fine = fine_as (omega arith) (fine_none sp from r.wf r.stack);
  known = λ j h. absurd (omega arith);
  answer = λ k ts. let e : sp - sp ≡ 0 = omega arith in rw (e, append-nil ts);
}

map_append : {A B : Type 0} (f : A → B) (xs ys : List A) → map f (xs ++ ys) ≡ map f xs ++ map f ys
map_append f [] ys = refl
map_append f (x ∷ xs) ys = ap (◌∷◌ (f x)) (map_append f xs ys)

-- one number more on the stack
module _ {u v : Tab} (su sv : List ℕ) (sp number : ℕ) {up : ℕ} (g : Grown u v) (l : length su ≡ 2048) (m : length sv ≡ 2048) (below : sp ≤ up) (room : up < 2048)
    (kept : (j : ℕ) → j < up → get_or sv j 0 ≡ get_or su j 0) (known : (j : ℕ) → sp + j < up → get_or su (sp + j) 0 < u.n) where
  was : (j : ℕ) → sp + j < up → get_or (set sv up number) (sp + j) 0 ≡ get_or su (sp + j) 0
  was j h = get_or-set_other sv up (sp + j) number 0 (λ e. absurd (omega arith)) ∙ kept (sp + j) h

  pub pushed_known : number < v.n → (j : ℕ) → sp + j < up + 1 → get_or (set sv up number) (sp + j) 0 < v.n
  pushed_known b j h = elim (dec_lt (sp + j) up) [
    | yes p ↦ rw (was j p) (omega (arith, known j p, g.more))
    | no p ↦ let e : sp + j ≡ up = omega arith in rw (e, get_or-set_same sv up number 0 (omega arith)) b
  ]

  pub pushed : map (denote v) (take (up + 1 - sp) (drop sp (set sv up number))) ≡ map (denote u) (take (up - sp) (drop sp su)) ++ (denote v number ∷ [])
  pushed =
      let e : up + 1 - sp ≡ suc (up - sp) = omega arith in
      let p : sp + (up - sp) ≡ up = omega arith in
      let q : get_or (drop sp (set sv up number)) (up - sp) 0 ≡ number =
      get_or-drop sp (set sv up number) (up - sp) 0 ∙ ap (λ k. get_or (set sv up number) k 0) p ∙ get_or-set_same sv up number 0 (omega arith) in
      let h : up - sp < length (drop sp (set sv up number)) = simp (length-drop, length-set) (omega arith) in
      rw (e, take-suc (drop sp (set sv up number)) (up - sp) 0 h, q, map_append (denote v) (take (up - sp) (drop sp (set sv up number))) (number ∷ []))
      (ap (λ ts. ts ++ (denote v number ∷ []))
      (piece_map (denote v) (denote u) (set sv up number) su sp sp (up - sp) (simp length-set (omega arith)) (omega arith)
      (λ j k. ap (denote v) (was j (omega arith)) ∙ g.same _ (known j (omega arith)))))

module _ {bs : List ℕ} {nodes : ℕ} {fs : Rows} {top : ℕ} {t : Tab} {st : List ℕ} {sp from n d : ℕ} {u : Tab} {su : List ℕ} {i left up : ℕ}
    (l : Valuing bs nodes fs top t st sp from n d u su i left up) (h : 0 < left) where
  sound : Sound bs
  sound = l.ready.sound

  pub valuing_at : At bs i d
  valuing_at = row_at sound left h l.row

  step : past (nodes_of bs) (left - 1) (stop_of (nodes_of bs) i) ≡ past (nodes_of bs) n from
  step = sym (past_down (nodes_of bs) left i h) ∙ l.last

  behind : stop_of (nodes_of bs) i + (left - 1) ≤ past (nodes_of bs) n from
  behind = rw step at (row_long sound (left - 1) (row_next sound left h l.row))

  pub valuing_ready : Ready bs nodes fs top u su up i (stop_of (nodes_of bs) i)
  valuing_ready = ready_narrow i (stop_of (nodes_of bs) i) (omega arith) (omega (arith, behind)) l.ready

  pub valuing_room : up < 2048
  valuing_room = omega (arith, l.ready.stack_room, behind, ends_after sound valuing_at.there)

  here : (k : List Ty → Checked) (ts : List Ty) → each (checks bs (frames_of t fs top) d n from) k ts
      ≡ (check (names_of bs) (frames_of u fs top) (expr_at (nodes_of bs) d i) >>= λ ty.
      each (checks bs (frames_of t fs top) d (left - 1) (stop_of (nodes_of bs) i)) k ((ts ++ map (denote u) (take (up - sp) (drop sp su))) ++ (ty ∷ [])))
  unfolding each
  here k ts = l.answer k ts ∙ rw (checks_down bs (frames_of t fs top) d left i h, l.same)

  module _ {v : Tab} {sv : List ℕ} {M code place number a b : ℕ}
      (done : Done (names_of bs) (check (names_of bs) (frames_of u fs top) (expr_at (nodes_of bs) d i)) u v su sv up i (stop_of (nodes_of bs) i) M code place number a b) where
    passed : Fine t v st sv sp from (stop_of (nodes_of bs) i) (n - (left - 1))
    passed =
        fine_as (omega (arith, l.few)) (fine_then l.fine done.fine (omega (arith, l.mark, l.few)))

    pub valuing_refused : (code ≡ 0 → ⊥) → Values (names_of bs) (checks bs (frames_of t fs top) d n from) t v st sv sp n from (past (nodes_of bs) n from) M code place a b
    valuing_refused z = record {
      told = λ k ts. told_as (here k ts) (told_bind _ _ z done.told);
      known = λ e. absurd (z e);
      fine = fine_as (omega (arith, l.few)) (fine_wider (past (nodes_of bs) n from) (left - 1) behind passed);
    }

    pub valuing_next : {j fewer more : ℕ} → code ≡ 0 → j ≡ stop_of (nodes_of bs) i → fewer ≡ left - 1 → more ≡ up + 1
        → Valuing bs nodes fs top t st sp from n d v (set sv up number) j fewer more
    unfolding ◌>>=◌
    valuing_next {j} z e f g =
        let low : sp ≤ up = omega (arith, l.mark, l.few) in
        let after = ends_after sound valuing_at.there in
        rw (e, f, g) record {
          ready =
              ready_push number (stop_of (nodes_of bs) i) (omega (arith, l.ready.stack_room, after)) (omega (arith, after))
              (ready_then l.ready done.fine (omega (arith, after)));
          row = row_next sound left h l.row;
          same = same_frames l.ready done.fine.grown ∙ l.same;
          few = omega (arith, l.few);
          mark = omega (arith, l.mark);
          last = step;
          fine = fine_set up number low passed;
          known = pushed_known su sv sp number done.fine.grown l.ready.stack done.fine.stack low valuing_room done.fine.kept l.known (done.below z);
          answer = λ k ts.
              here k ts
              ∙ rw (done.told.well z, append_assoc ts (map (denote u) (take (up - sp) (drop sp su))) (denote v number ∷ []))
              (ap (λ us. each (checks bs (frames_of t fs top) d (left - 1) (stop_of (nodes_of bs) i)) k (ts ++ us))
              (sym (pushed su sv sp number done.fine.grown l.ready.stack done.fine.stack low valuing_room done.fine.kept l.known)));
        }

pub valuing_end : {bs : List ℕ} {nodes : ℕ} {fs : Rows} {top : ℕ} {t : Tab} {st : List ℕ} {sp from n d : ℕ} {u : Tab} {su : List ℕ} {i left up : ℕ} {M code place a b : ℕ}
    → Valuing bs nodes fs top t st sp from n d u su i left up → left ≤ 0 → code ≡ 0
    → Values (names_of bs) (checks bs (frames_of t fs top) d n from) t u st su sp n from (past (nodes_of bs) n from) M code place a b
unfolding each past
valuing_end {bs} {fs = fs} {top} {t} {sp = sp} {from} {n} {d} {u} {su} {i} {left} {up} l h z =
    let e : left ≡ 0 = omega arith in
    let p : up - sp ≡ n = omega (arith, l.mark) in
    let q : past (nodes_of bs) n from ≡ i = sym l.last ∙ ap (λ k. past (nodes_of bs) k i) e in
    let o : n - left ≡ n = omega arith in
    record {
      told = λ k ts. told_well z (l.answer k ts ∙ rw (e, checks_none bs (frames_of t fs top) d i, p));
      known = λ w j k. l.known j (omega (arith, l.mark));
      fine = fine_as o (rw q l.fine);
    }
