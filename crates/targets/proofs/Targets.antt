-- The targets of a Tuple, one after the other.
use mathlib.Core.Path.{◌≡◌, refl, sym, ap, ◌∙◌}
use mathlib.Core.List.{List, [], ◌∷◌, tail}
use Prim.Native.Nat.{ℕ, zero, suc, ◌+◌, ◌-◌, ◌≤◌, ◌<◌}
use native.Mathlib.Omega.{arith}
use native.Mathlib.Numerals.{add-one}
use lib.ListN.{length, get_or, drop}
use Rattle.meaning.specs.Types.{Ty, unknown}
use Rattle.meaning.specs.Tree.{Expr, size}
use Rattle.meaning.specs.Image.{Name, Node, node_of, nodes_of, names_of, node_count}
use Rattle.meaning.specs.Decode.{stop_of, exprs_from, expr_at}
use Rattle.meaning.specs.Walk.{State, state, End, ◌>>=◌, unpack_into, assign_to, assign_each}
use Rattle.meaning.proofs.Nesting.{Children, Child, child, children, children_le, children_end, nodes_many, sound_nested, node_stands_lem, deeper}
use Rattle.meaning.proofs.Decoding.{tuple_at}
use Rattle.types.specs.Table.{Tab, Means, denote}
use Rattle.frames.specs.Env.{Rows, First, frames_of}
use Rattle.image.specs.Parts.{Moved}
use Rattle.image.proofs.Moving.{parent_of}
use Rattle.image.specs.declared.Cursor.{Cursor}
use Rattle.image.specs.declared.Read.{Read}
use Rattle.state.specs.Notes.{Places, places}
use Rattle.expr.specs.Contract.{Ready, At}
use Rattle.targets.specs.Ending.{Left, Assigned}
use Rattle.targets.specs.Spreading.{spread, Spreads, Unpacks, Sharing, Share, Within}
use Rattle.targets.proofs.Endings.{ended_well, ended_wrong, ended_alone, named_none, left_none, left_then, left_wider}
use Rattle.targets.proofs.Unpacking.{spreads_into, spreads_grown}
use Rattle.targets.proofs.Singles.{here, expr_here, assigned_as}

-- ---- lists

exprs_size : (ds : List Node) (f : ℕ → Expr) (n i : ℕ) → size (exprs_from ds f n i) ≡ n
unfolding size exprs_from
exprs_size ds f zero i = refl
exprs_size ds f (suc n) i = ap suc (exprs_size ds f n (stop_of ds i))

first_left : (ts : List Ty) (k : ℕ) → get_or (drop k ts) 0 unknown ≡ get_or ts k unknown
first_left [] zero = refl
first_left [] (suc k) = refl
first_left (t ∷ ts) zero = refl
first_left (t ∷ ts) (suc k) = first_left ts k

rest_left : (ts : List Ty) (k : ℕ) → tail (drop k ts) ≡ drop (suc k) ts
rest_left [] zero = refl
rest_left [] (suc k) = refl
rest_left (t ∷ ts) zero = refl
rest_left (t ∷ ts) (suc k) = rest_left ts k

-- ---- the Tuple

-- what all targets give, and what those from j on give, k types on
abbrev Each : List ℕ → ℕ → ℕ → ℕ → List Ty → State → End
Each bs d n j ts s = assign_each (names_of bs) (exprs_from (nodes_of bs) (λ c. expr_at (nodes_of bs) d c) n j) ts s

to_tuple : (ws : List Name) (ds : List Node) (d i n : ℕ) → (d ≡ 0 → ⊥) → (node_of ds i).kind ≡ 28 → n ≡ (node_of ds i).children → (y : Ty) (s : State)
    → assign_to ws (expr_at ds d i) y s ≡ unpack_into i n y s (λ ts. assign_each ws (exprs_from ds (λ j. expr_at ds (d - 1) j) n (suc i)) ts s)
unfolding assign_to
to_tuple ws ds d i n h k e y s =
    let f : ℕ → Expr = λ j. expr_at ds (d - 1) j in
    rw (expr_here ds d i h, tuple_at ds f i k, exprs_size ds f (node_of ds i).children (suc i), e)

module _ {bs : List ℕ} {nodes : ℕ} {fs : Rows} {top : ℕ} {t : Tab} {st : List ℕ} {i d : ℕ} (r : Ready bs nodes fs top t st 0 i (stop_of (nodes_of bs) i))
    (h : At bs i d) {ty : ℕ} (b : ty < t.n) (m : Node) (z : m ≡ node_of (nodes_of bs) i) where
  pub levels_left : d ≡ 0 → ⊥
  levels_left = (here r.sound h).deep.0

  pub targets_within : Within bs i m.children (d - 1)
  targets_within = record { there = h.there; many = ap (λ (x : Node). x.children) z; deep = (here r.sound h).deep.1 }

  module _ (k : m.kind ≡ 28) where
    tuple_is : (y : Ty) (s : State) → assign_to (names_of bs) (expr_at (nodes_of bs) d i) y s ≡ unpack_into i m.children y s (λ ts. Each bs (d - 1) m.children (suc i) ts s)
    tuple_is y s =
        to_tuple (names_of bs) (nodes_of bs) d i m.children levels_left (ap (λ (x : Node). x.kind) (sym z) ∙ k) (ap (λ (x : Node). x.children) z) y s

    pub tuple_refused : {code x y : ℕ} {s : First} → Unpacks t.cells ty m.children code x y → (code ≡ 0 → ⊥)
        → Assigned (names_of bs) (λ v. assign_to (names_of bs) (expr_at (nodes_of bs) d i) (denote t ty) (state (frames_of t fs top) v)) t t fs top st i
        (stop_of (nodes_of bs) i) (node_count bs) code (places i s) x y
    tuple_refused {code} {x} {y} {s} u n = record {
      says = λ v. tuple_is (denote t ty) _ ∙ u.ill n t refl r.wf b (names_of bs) i _ _ ∙ sym (ended_alone (names_of bs) t fs top v code (places i s) x y n u.typing u.alone);
      named = u.named t refl r.wf b (node_count bs) (places i s) h.there;
      left = left_wider (left_none i r.wf r.fit r.stack) (omega arith) (omega (arith, (here r.sound h).above));
      typing = u.typing;
    }

    pub tuple_assigned : {u : Tab} {gs : Rows} {su : List ℕ} {code : ℕ} {place : Places} {x y : ℕ} → Spreads t ty m.children
        → Assigned (names_of bs) (λ v. Each bs (d - 1) m.children (suc i) (spread m.children (denote t ty)) (state (frames_of t fs top) v)) t u gs top su i
        (stop_of (nodes_of bs) i) (node_count bs) code place x y
        → Assigned (names_of bs) (λ v. assign_to (names_of bs) (expr_at (nodes_of bs) d i) (denote t ty) (state (frames_of t fs top) v)) t u gs top su i
        (stop_of (nodes_of bs) i) (node_count bs) code place x y
    tuple_assigned p a = assigned_as (λ v. tuple_is (denote t ty) _ ∙ spreads_into p i _ _) a

-- ---- the loop: what is left ends as all end

pub record Loop (bs : List ℕ) (nodes : ℕ) (fs : Rows) (top : ℕ) (t : Tab) (st : List ℕ) (i n ty d : ℕ) (u : Tab) (gs : Rows) (su : List ℕ) (j k : ℕ) : Type 0 where
  pub ready : Ready bs nodes fs top t st 0 i (stop_of (nodes_of bs) i)
  pub row : Within bs i n d
  pub below : ty < t.n
  pub spreads : Spreads t ty n
  pub most : k ≤ n
  pub behind : i < j
  pub rest : Children (nodes_of bs) (node_of (nodes_of bs) i) j (n - k)
  pub left : Left t u gs top su (suc i) j
  pub answer : (y : Ty) → Each bs d n (suc i) (spread n (denote t ty)) (state (frames_of t fs top) y)
      ≡ Each bs d (n - k) j (drop k (spread n (denote t ty))) (state (frames_of u gs top) y)

loop_start : {bs : List ℕ} {nodes : ℕ} {fs : Rows} {top : ℕ} {t : Tab} {st : List ℕ} {i n ty d : ℕ} → Ready bs nodes fs top t st 0 i (stop_of (nodes_of bs) i)
    → Within bs i n d → ty < t.n → Spreads t ty n → (j : ℕ) → j ≡ suc i → Loop bs nodes fs top t st i n ty d t fs st j 0
loop_start {bs} {i = i} {n} r w b p j e =
    let l : i < length (nodes_of bs) = omega (arith, w.there, nodes_many bs) in
    let z : n - 0 ≡ n = omega arith in
    let q : n - 0 ≡ (node_of (nodes_of bs) i).children = z ∙ w.many in
    rw e (record {
      ready = r;
      row = w;
      below = b;
      spreads = p;
      most = omega arith;
      behind = omega arith;
      rest = rw q (children (sound_nested r.sound) i l);
      left = left_none (suc i) r.wf r.fit r.stack;
      answer = λ y. rw z;
    })

pub loop_first : {bs : List ℕ} {c : Cursor} {q : Read} {fs : Rows} {top : ℕ} {t : Tab} {st : List ℕ} {n ty d : ℕ}
    → Ready bs c.nodes fs top t st 0 c.at (stop_of (nodes_of bs) c.at) → Within bs c.at n d → ty < t.n → Spreads t ty n → Moved bs c q (c.at + 1)
    → Loop bs q.cursor.nodes fs top t st (q.cursor.at - 1) n ty d t fs st q.cursor.at 0
loop_first r w b p m = rw (parent_of m, m.nodes ∙ sym r.nodes_at) (loop_start r w b p _ (m.at ∙ add-one _))

module _ {bs : List ℕ} {nodes : ℕ} {fs : Rows} {top : ℕ} {t : Tab} {st : List ℕ} {i n ty d : ℕ} {u : Tab} {gs : Rows} {su : List ℕ} {j k : ℕ}
    (l : Loop bs nodes fs top t st i n ty d u gs su j k) (p : k < n) where
  less : n - k ≡ suc (n - suc k)
  less = omega arith

  next_child : Child (nodes_of bs) (node_of (nodes_of bs) i) j (n - suc k)
  next_child = child (rw less at l.rest)

  parent_there : i < length (nodes_of bs)
  parent_there = omega (arith, l.row.there, nodes_many bs)

  -- the child ends inside its parent, and that inside the image
  pub child_inside : (j < node_count bs) × (stop_of (nodes_of bs) j ≤ stop_of (nodes_of bs) i) × (stop_of (nodes_of bs) i ≤ node_count bs)
  unfolding stop_of
  child_inside =
      let c = next_child in
      let e : stop_of (nodes_of bs) j ≤ (node_of (nodes_of bs) i).stop = children_le (n - suc k) c.rest in
      let w = (node_stands_lem (sound_nested l.ready.sound) i parent_there).within in
      (omega (arith, c.inside, w, nodes_many bs), e, omega (arith, w, nodes_many bs))

  pub loop_at : At bs j d
  unfolding stop_of
  loop_at =
      let q = deeper (sound_nested l.ready.sound) i j l.behind parent_there next_child.inside in
      record { there = child_inside.0; deep = omega (arith, q, l.row.deep) }

  pub loop_ready : Ready bs nodes gs top u su 0 j (stop_of (nodes_of bs) j)
  loop_ready =
      let r = l.ready in
      let f = l.left in
      let c = child_inside in
      record {
        sound = r.sound;
        nodes_at = r.nodes_at;
        wf = f.grown.wf;
        fit = f.fit;
        stack = f.stack;
        types_room = omega (arith, r.types_room, f.types_spent, f.grown.as_wide, c.1);
        elements_room = omega (arith, r.elements_room, f.elements_spent, f.grown.as_wide, c.1);
        stack_room = omega (arith, r.stack_room, c.1, l.behind);
      }

  now_below : ty < u.n
  now_below = omega (arith, l.below, l.left.grown.more)

  pub loop_sharing : Sharing u.cells ty k
  loop_sharing = record {
    table = u;
    cells = refl;
    wf = l.left.grown.wf;
    below = now_below;
    count = n;
    spreads = spreads_grown l.left.grown l.below l.spreads;
    within = p;
  }

  module _ {part : ℕ} (s : Share u.cells ty k part) where
    given : Means u part (get_or (spread n (denote u ty)) k unknown)
    given = s.says u n refl l.left.grown.wf now_below (spreads_grown l.left.grown l.below l.spreads) p

    pub part_below : part < u.n
    part_below = given.below

    part_is : get_or (drop k (spread n (denote t ty))) 0 unknown ≡ denote u part
    part_is =
        first_left (spread n (denote t ty)) k
        ∙ sym (given.means ∙ ap (λ (q : Ty). get_or (spread n q) k unknown) (l.left.grown.same ty l.below))

    loop_answer : (y : Ty) → Each bs d n (suc i) (spread n (denote t ty)) (state (frames_of t fs top) y)
        ≡ (assign_to (names_of bs) (expr_at (nodes_of bs) d j) (denote u part) (state (frames_of u gs top) y)
        >>= λ s'. Each bs d (n - suc k) (stop_of (nodes_of bs) j) (drop (suc k) (spread n (denote t ty))) s')
    unfolding assign_to exprs_from
    loop_answer y =
        l.answer y ∙ rw (less, part_is, rest_left (spread n (denote t ty)) k)

    module _ {v : Tab} {hs : Rows} {sv : List ℕ} {code : ℕ} {place : Places} {a b : ℕ}
        (x : Assigned (names_of bs) (λ y. assign_to (names_of bs) (expr_at (nodes_of bs) d j) (denote u part) (state (frames_of u gs top) y)) u v hs top sv j
        (stop_of (nodes_of bs) j) (node_count bs) code place a b) where
      pub loop_wrong : (code ≡ 0 → ⊥)
          → Assigned (names_of bs) (λ y. Each bs d n (suc i) (spread n (denote t ty)) (state (frames_of t fs top) y)) t v hs top sv i
          (stop_of (nodes_of bs) i) (node_count bs) code place a b
      unfolding ◌>>=◌
      loop_wrong z = record {
        says = λ y.
            let e = ended_wrong (names_of bs) v hs top y code place a b z x.typing in
            loop_answer y ∙ rw (x.says y, e);
        named = x.named;
        left = left_wider (left_then l.left x.left) (omega arith) child_inside.1;
        typing = x.typing;
      }

      pub loop_next : code ≡ 0 → (e q : ℕ) → e ≡ stop_of (nodes_of bs) j → q ≡ suc k → Loop bs nodes fs top t st i n ty d v hs sv e q
      unfolding ◌>>=◌
      loop_next z e q m w =
          let o : j < stop_of (nodes_of bs) j = (here l.ready.sound loop_at).above in
          rw (m, w) (record {
            ready = l.ready;
            row = l.row;
            below = l.below;
            spreads = l.spreads;
            most = omega arith;
            behind = omega (arith, l.behind, o);
            rest = next_child.rest;
            left = left_then l.left x.left;
            answer = λ y.
                let f = ended_well (names_of bs) v hs top y code place a b z in
                loop_answer y ∙ rw (x.says y, f);
          })

pub loop_end : {bs : List ℕ} {nodes : ℕ} {fs : Rows} {top : ℕ} {t : Tab} {st : List ℕ} {i n ty d : ℕ} {u : Tab} {gs : Rows} {su : List ℕ} {j k code : ℕ} {place : Places} {a b : ℕ}
    → Loop bs nodes fs top t st i n ty d u gs su j k → n ≤ k → code ≡ 0
    → Assigned (names_of bs) (λ y. Each bs d n (suc i) (spread n (denote t ty)) (state (frames_of t fs top) y)) t u gs top su i
    (stop_of (nodes_of bs) i) (node_count bs) code place a b
unfolding assign_to exprs_from stop_of
loop_end {bs} {fs = fs} {top} {t} {i = i} {n} {ty} {d} {u} {gs} {su} {j} {k} {code} {place} {a} {b} l z w =
    let o : n - k ≡ 0 = omega arith in
    let e : j ≡ (node_of (nodes_of bs) i).stop = children_end (rw o at l.rest) in
    record {
      says = λ y. (rw o at (l.answer y)) ∙ sym (ended_well (names_of bs) u gs top y code place a b w);
      named = named_none w;
      left = left_wider l.left (omega arith) (omega (arith, e));
      typing = λ q. absurd (omega arith);
    }
