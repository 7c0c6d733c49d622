-- Loops over a row of children that check m of them at a time: List, Dict and range.
use mathlib.Core.Path.{◌≡◌, refl, ◌∙◌}
use mathlib.Core.List.{List}
use Prim.Native.Nat.{ℕ, ◌+◌, ◌-◌, ◌≤◌, ◌<◌}
use native.Mathlib.Omega.{arith}
use Rattle.meaning.specs.Types.{Ty}
use Rattle.meaning.specs.Image.{nodes_of}
use Rattle.meaning.specs.Decode.{stop_of, past}
use Rattle.meaning.specs.Operators.{Checked, ok, refused, ◌>>=◌}
use Rattle.meaning.proofs.Faults.{Sound}
use Rattle.types.specs.Table.{Tab, capacity}
use Rattle.frames.specs.Env.{Rows, frames_of}
use Rattle.rules.specs.Leaves.{Asks}
use Rattle.expr.specs.Contract.{Ready, At, Row, Fine}
use Rattle.expr.proofs.Rows.{row_at, row_long, row_take, row_drop, past_past}
use Rattle.expr.proofs.Leaving.{fine_none, fine_then, fine_wider, fine_as, ready_narrow, ready_then, same_frames}

-- `left` of n children from `from` on are left, from node i on; what all of them give, `whole`, is what is given from here on
pub record Loop (bs : List ℕ) (nodes : ℕ) (fs : Rows) (top : ℕ) (t : Tab) (st : List ℕ) (sp from n d : ℕ) (whole rest : Checked) (u : Tab) (su : List ℕ) (i left : ℕ) : Type 0 where
  pub ready : Ready bs nodes fs top u su sp i (past (nodes_of bs) n from)
  pub row : Row bs i left d
  pub same : frames_of u fs top ≡ frames_of t fs top
  pub few : left ≤ n
  pub last : past (nodes_of bs) left i ≡ past (nodes_of bs) n from
  pub fine : Fine t u st su sp from i (n - left)
  pub answer : whole ≡ rest
  -- the node before them has room for its own type
  pub start : 0 < from
  pub spare : t.n + past (nodes_of bs) n from < capacity t.cells + from

pub loop_first : {bs : List ℕ} {nodes : ℕ} {fs : Rows} {top : ℕ} {t : Tab} {st : List ℕ} {sp from n d j : ℕ} {whole rest : Checked} → whole ≡ rest → j < from
    → Ready bs nodes fs top t st sp j (past (nodes_of bs) n from) → Row bs from n d → Loop bs nodes fs top t st sp from n d whole rest t st from n
loop_first {sp = sp} {from} {n} {j = j} e h r w = record {
  ready = ready_narrow from _ (omega arith) (omega arith) r;
  row = w;
  same = refl;
  few = omega arith;
  last = refl;
  fine = fine_as (omega arith) (fine_none sp from r.wf r.stack);
  answer = e;
  start = omega arith;
  spare = omega (arith, r.types_room);
}

module _ {bs : List ℕ} {nodes : ℕ} {fs : Rows} {top : ℕ} {t : Tab} {st : List ℕ} {sp from n d : ℕ} {whole rest : Checked} {u : Tab} {su : List ℕ} {i left : ℕ}
    (l : Loop bs nodes fs top t st sp from n d whole rest u su i left) where
  sound : Sound bs
  sound = l.ready.sound

  -- all that is left is passed over
  pub loop_fine : Fine t u st su sp from (past (nodes_of bs) n from) n
  loop_fine =
      fine_as (omega (arith, l.few))
      (fine_wider (past (nodes_of bs) n from) left (omega (arith, row_long sound left l.row, l.last)) l.fine)

  module _ (m : ℕ) (h : m ≤ left) where
    behind : past (nodes_of bs) (left - m) (past (nodes_of bs) m i) ≡ past (nodes_of bs) n from
    behind = past_past sound i left m h ∙ l.last

    long : past (nodes_of bs) m i + (left - m) ≤ past (nodes_of bs) n from
    long = rw behind at (row_long sound (left - m) (row_drop sound left m h l.row))

    pub loop_ready : Ready bs nodes fs top u su sp i (past (nodes_of bs) m i)
    loop_ready = ready_narrow i (past (nodes_of bs) m i) (omega arith) (omega (arith, long)) l.ready

    pub loop_row : Row bs i m d
    loop_row = row_take sound left m h l.row

    module _ {v : Tab} {sv : List ℕ} (f : Fine u v su sv sp i (past (nodes_of bs) m i) m) where
      passed : Fine t v st sv sp from (past (nodes_of bs) m i) (n - (left - m))
      passed = fine_as (omega (arith, l.few)) (fine_then l.fine f (omega arith))

      -- the loop ends here
      pub loop_stop : Fine t v st sv sp from (past (nodes_of bs) n from) n
      loop_stop = fine_as (omega (arith, l.few)) (fine_wider (past (nodes_of bs) n from) (left - m) long passed)

      pub loop_next : {next : Checked} (j : ℕ) → j ≡ past (nodes_of bs) m i → whole ≡ next → Loop bs nodes fs top t st sp from n d whole next v sv j (left - m)
      loop_next j e a = rw e record {
        ready = ready_then l.ready f (omega (arith, row_long sound m loop_row));
        row = row_drop sound left m h l.row;
        same = same_frames l.ready f.grown ∙ l.same;
        few = omega (arith, l.few);
        last = behind;
        fine = passed;
        answer = a;
        start = l.start;
        spare = l.spare;
      }

-- the next child
module _ {bs : List ℕ} {nodes : ℕ} {fs : Rows} {top : ℕ} {t : Tab} {st : List ℕ} {sp from n d : ℕ} {whole rest : Checked} {u : Tab} {su : List ℕ} {i left : ℕ}
    (l : Loop bs nodes fs top t st sp from n d whole rest u su i left) (h : 0 < left) where
  pub loop_at : At bs i d
  loop_at = row_at l.ready.sound left h l.row

  pub loop_child : Ready bs nodes fs top u su sp i (stop_of (nodes_of bs) i)
  unfolding past
  loop_child = loop_ready l 1 h

-- after all of them there is room for one type more
pub loop_asks : {bs : List ℕ} {nodes : ℕ} {fs : Rows} {top : ℕ} {t : Tab} {st : List ℕ} {sp from n d : ℕ} {whole rest : Checked} {u : Tab} {su : List ℕ} {i left : ℕ}
    {v : Tab} {sv : List ℕ} {element : ℕ} → Loop bs nodes fs top t st sp from n d whole rest u su i left
    → Fine t v st sv sp from (past (nodes_of bs) n from) n → element < v.n → Asks v element
loop_asks l f h = record { wf = f.grown.wf; room = omega (arith, f.types_spent, f.grown.as_wide, l.spare); below = h }

pub bind_ok : (c : Checked) (k : Ty → Checked) → (c >>= k) ≡ (c >>= λ ty. ok ty >>= k)
unfolding ◌>>=◌
bind_ok (ok ty) k = refl
bind_ok (refused r) k = refl

pub past_one : (bs : List ℕ) (i : ℕ) → past (nodes_of bs) 1 i ≡ stop_of (nodes_of bs) i
unfolding past
past_one bs i = refl

pub past_two : (bs : List ℕ) (i : ℕ) → past (nodes_of bs) 2 i ≡ stop_of (nodes_of bs) (stop_of (nodes_of bs) i)
unfolding past
past_two bs i = refl

pub one_fine : (bs : List ℕ) {u v : Tab} {su sv : List ℕ} {sp i : ℕ} → Fine u v su sv sp i (stop_of (nodes_of bs) i) 1 → Fine u v su sv sp i (past (nodes_of bs) 1 i) 1
unfolding past
one_fine bs f = f
