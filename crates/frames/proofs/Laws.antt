-- Laws of rows and the frames they mean. Assumes nothing.
use mathlib.Core.Path.{◌≡◌, refl, sym, ap, ◌∙◌, subst}
use mathlib.Core.List.{List, [], ◌∷◌, map, tail}
use mathlib.Core.Bool.{Bool, true, false}
use mathlib.Core.Option.{Option, none, some, none-ne-some}
use Rattle.std.specs.Prelude.{Some, None}
use Prim.Native.Nat.{ℕ, zero, suc, ◌+◌, ◌-◌, ◌*◌, ◌≤◌, ◌<◌}
use native.Mathlib.Omega.{arith}
use native.Mathlib.Decide.{dec_lt, ℕ_discrete}
use native.Mathlib.Numerals.{sub-one, add-one}
use lib.Dec.{eqb}
use lib.ListN.{length, get_or, set, replicate, length-set, length-replicate, get_or-replicate, get_or-map, get_or-eq_default}
use lib.Seq.{get_or-set_same, get_or-set_other}
use borrow.Author.Tests.{eq-eqb, ne_eqb}
use Rattle.types.specs.Table.{Tab, denote, Wf, Means, Grown}
use Rattle.types.proofs.Laws.{unknown_number, same_unknown}
use Rattle.meaning.specs.Base.{test◌then◌else◌, if_some, or_else}
use Rattle.meaning.specs.Frames.{Binding, binding, blank, since, newest, slot_in, find, lookup, write, empty}
use Rattle.frames.specs.Env.{First, Held, Rows, cell_room, type_in, node_in, absent_row, cell, put, pick, look, node_from, slot_as, slot, frame_of, below, frames_of, Fit, slot_type, Holds, first_node, first_number, FirstBelow, binding_in, Known, Looked, Bound}
use Rattle.frames.specs.declared.Binding.{Binding as Found}

-- ---- lookup
look_down : (fs : Rows) (x i : ℕ) → look fs (i + 1) x ≡ pick (eqb (type_in (cell fs i x)) 0) (look fs i x) (cell fs i x)
unfolding look
look_down fs x i = rw add-one

pub look_on : (fs : Rows) (x i : ℕ) → type_in (cell fs i x) ≡ 0 → look fs (i + 1) x ≡ look fs i x
look_on fs x i e = look_down fs x i ∙ rw (eq-eqb _ _ e)

pub look_here : (fs : Rows) (x i : ℕ) {k : ℕ} → type_in (cell fs i x) ≡ suc k → look fs (i + 1) x ≡ cell fs i x
look_here fs x i {k} e = look_down fs x i ∙ rw (ne_eqb (type_in (cell fs i x)) 0 (λ z. absurd (omega arith)))

-- a slot of a row's frame
pub slot_row : (t : Tab) (row : List ℕ) (x : ℕ) → get_or (frame_of t row) x none ≡ slot t (get_or row x 0)
unfolding slot_as frame_of
slot_row t row x = get_or-map (slot t) row x 0

-- a slot of the newest frame is the cell of the top row
pub slot_frames : (t : Tab) (fs : Rows) (top x : ℕ) → slot_in (frames_of t fs top) x ≡ slot t (cell fs top x)
unfolding slot_in frames_of below newest
slot_frames t fs top x = slot_row t (get_or fs top []) x

-- the slot of a cell whose type half is not 0
pub slot_some : (t : Tab) (v k : ℕ) → type_in v ≡ suc k → slot t v ≡ some (binding (denote t k) (node_from (node_in v)))
unfolding slot_as
slot_some t v k e = ap (λ j. slot_as t j (node_in v)) e

pub slot_none : (t : Tab) (v : ℕ) → type_in v ≡ 0 → slot t v ≡ none
unfolding slot_as
slot_none t v e = ap (λ j. slot_as t j (node_in v)) e

find_cell : (t : Tab) (v l : ℕ) (r : Option Binding) → r ≡ slot t l → if_some (slot t v) some r ≡ slot t (pick (eqb (type_in v) 0) l v)
unfolding slot_as if_some
find_cell t v l r e = by (type_in v) refl
  where
    by : (k : ℕ) → type_in v ≡ k → if_some (slot_as t k (node_in v)) some r ≡ slot t (pick (eqb k 0) l v)
    by zero z = e
    by (suc k) z = rw (ne_eqb (suc k) 0 (λ q. omega arith)) (sym (slot_some t v k z))

pub find_look : (t : Tab) (fs : Rows) (x k : ℕ) → find (below t fs k) x ≡ slot t (look fs k x)
unfolding find below look slot_as
find_look t fs x zero = refl
find_look t fs x (suc k) = rw (slot_row t (get_or fs k []) x) (find_cell t (cell fs k x) (look fs k x) (find (below t fs k) x) (find_look t fs x k))

-- ---- writing
pub map_set : {A B : Type 0} (f : A → B) (l : List A) (i : ℕ) (a : A) → map f (set l i a) ≡ set (map f l) i (f a)
map_set f [] i a = refl
map_set f (x ∷ l) zero a = refl
map_set f (x ∷ l) (suc i) a = ap (λ m. f x ∷ m) (map_set f l i a)

-- a row at or above k does not matter to the frames below k
pub below_set : (t : Tab) (fs : Rows) (k i : ℕ) (row : List ℕ) → k ≤ i → below t (set fs i row) k ≡ below t fs k
unfolding below
below_set t fs zero i row h = refl
below_set t fs (suc k) i row h =
    let a : get_or (set fs i row) k [] ≡ get_or fs k [] = get_or-set_other fs i k row [] (omega arith) in
    let b : below t (set fs i row) k ≡ below t fs k = below_set t fs k i row (omega arith) in
    rw (a, b)

pub frames_set : (t : Tab) (fs : Rows) (top : ℕ) (row : List ℕ) → top < length fs → frames_of t (set fs top row) top ≡ frame_of t row ∷ below t fs top
unfolding frames_of below
frames_set t fs top row h = rw (get_or-set_same fs top row [] h, below_set t fs top top row (omega arith))

-- by a cell whose type half is not 0
pub frames_put : (t : Tab) (fs : Rows) (top x v k : ℕ) → top < length fs → type_in v ≡ suc k
    → frames_of t (put fs top x v) top ≡ write x (binding (denote t k) (node_from (node_in v))) (frames_of t fs top)
unfolding frames_of below write frame_of
frames_put t fs top x v k h e =
    frames_set t fs top (set (get_or fs top []) x v) h
    ∙ ap (λ r. r ∷ below t fs top) (map_set (slot t) (get_or fs top []) x v ∙ ap (set (map (slot t) (get_or fs top [])) x) (slot_some t v k e))

pub map_replicate : (t : Tab) (n : ℕ) → map (slot t) (replicate n 65536) ≡ replicate n none
unfolding slot_as
map_replicate t zero = refl
map_replicate t (suc n) = ap (λ r. none ∷ r) (map_replicate t n)

-- an empty frame on top
pub frames_clear : (t : Tab) (fs : Rows) (top : ℕ) → top + 1 < length fs → frames_of t (set fs (top + 1) absent_row) (top + 1) ≡ empty ∷ frames_of t fs top
unfolding frames_of frame_of empty
frames_clear t fs top h =
    frames_set t fs (top + 1) absent_row h ∙ rw (add-one top, map_replicate t 128)

-- the newest frame off
pub frames_pop : (t : Tab) (fs : Rows) (top : ℕ) → 0 < top → tail (frames_of t fs top) ≡ frames_of t fs (top - 1)
unfolding frames_of below
frames_pop t fs zero h = absurd (omega arith)
frames_pop t fs (suc k) h = rw (sub-one (suc k))

pub length_frames : (t : Tab) (fs : Rows) (top : ℕ) → length (frames_of t fs top) ≡ top + 1
unfolding frames_of below
length_frames t fs top = go (suc top) ∙ sym (add-one top)
  where
    go : (k : ℕ) → length (below t fs k) ≡ k
    go zero = refl
    go (suc k) = ap suc (go k)

-- ---- a grown table
pub slot_grown : {t u : Tab} → Grown t u → (v : ℕ) → type_in v ≤ t.n → slot u v ≡ slot t v
unfolding slot_as
slot_grown {t} {u} g v h = by (type_in v) h
  where
    by : (k : ℕ) → k ≤ t.n → slot_as u k (node_in v) ≡ slot_as t k (node_in v)
    by zero l = refl
    by (suc k) l = ap (λ y. some (binding y (node_from (node_in v)))) (g.same k l)

row_grown : {t u : Tab} → Grown t u → (row : List ℕ) → ((x : ℕ) → type_in (get_or row x 0) ≤ t.n) → frame_of u row ≡ frame_of t row
unfolding frame_of
row_grown g [] h = refl
row_grown {t} {u} g (v ∷ row) h =
    let a : slot u v ≡ slot t v = slot_grown g v (h 0) in
    let b : map (slot u) row ≡ map (slot t) row = row_grown g row (λ x. h (suc x)) in
    cc

below_grown : {t u : Tab} → Grown t u → (fs : Rows) (k : ℕ) → ((i x : ℕ) → i < k → type_in (cell fs i x) ≤ t.n) → below u fs k ≡ below t fs k
unfolding below
below_grown g fs zero h = refl
below_grown {t} {u} g fs (suc k) h =
    let a : frame_of u (get_or fs k []) ≡ frame_of t (get_or fs k []) = row_grown g (get_or fs k []) (λ x. h k x (omega arith)) in
    let b : below u fs k ≡ below t fs k = below_grown g fs k (λ i x p. h i x (omega arith)) in
    cc

pub frames_grown : {t u : Tab} {fs : Rows} {top : ℕ} → Grown t u → Fit t fs top → frames_of u fs top ≡ frames_of t fs top
unfolding frames_of
frames_grown {fs = fs} {top = top} g f = below_grown g fs (suc top) (λ i x p. f.known i x (omega (arith, f.high)))

-- ---- Fit
pub fit_grown : {t u : Tab} {fs : Rows} {top : ℕ} → t.n ≤ u.n → Fit t fs top → Fit u fs top
fit_grown g f = record { long = f.long; wide = f.wide; high = f.high; known = λ i x p. omega (arith, f.known i x p) }

pub fit_top : {t : Tab} {fs : Rows} {top : ℕ} (k : ℕ) → k < 8 → Fit t fs top → Fit t fs k
fit_top k h f = record { long = f.long; wide = f.wide; high = h; known = f.known }

cell_set : (P : ℕ → Type 0) (row : List ℕ) (y v : ℕ) → P v → ((x : ℕ) → P (get_or row x 0)) → P 0 → (x : ℕ) → P (get_or (set row y v) x 0)
cell_set P row y v a h z x = elim (ℕ_discrete x y) [
  | yes e ↦ elim (dec_lt y (length row)) [
    | yes l ↦ subst P (sym (ap (λ k. get_or (set row y v) k 0) e ∙ get_or-set_same row y v 0 l)) a
    | no l ↦ subst P (sym (get_or-eq_default (set row y v) 0 {n = x} (rw length-set (omega arith)))) z
  ]
  | no e ↦ subst P (sym (get_or-set_other row y x v 0 e)) (h x)
]

pub fit_row : {t : Tab} {fs : Rows} {top : ℕ} (k : ℕ) (row : List ℕ) → Fit t fs top → k < 8 → length row ≡ 128 → ((x : ℕ) → type_in (get_or row x 0) ≤ t.n) → Fit t (set fs k row) k
fit_row {t} {fs} k row f h l b = record {
  long = length-set fs k row ∙ f.long;
  wide = λ i p. elim (ℕ_discrete i k) [
    | yes e ↦ ap (λ j. length (get_or (set fs k row) j [])) e ∙ ap length (get_or-set_same fs k row [] (omega (arith, f.long))) ∙ l
    | no e ↦ ap length (get_or-set_other fs k i row [] e) ∙ f.wide i p
  ];
  high = h;
  known = λ i x p. elim (ℕ_discrete i k) [
    | yes e ↦ subst (λ r. type_in (get_or r x 0) ≤ t.n) (sym (ap (λ j. get_or (set fs k row) j []) e ∙ get_or-set_same fs k row [] (omega (arith, f.long)))) (b x)
    | no e ↦ subst (λ r. type_in (get_or r x 0) ≤ t.n) (sym (get_or-set_other fs k i row [] e)) (f.known i x p)
  ];
}

pub fit_put : {t : Tab} {fs : Rows} {top : ℕ} (x v : ℕ) → Fit t fs top → type_in v ≤ t.n → Fit t (put fs top x v) top
fit_put {t} {fs} {top} x v f h =
    fit_row top (set (get_or fs top []) x v) f f.high (length-set (get_or fs top []) x v ∙ f.wide top f.high) (cell_set (λ k. type_in k ≤ t.n) (get_or fs top []) x v h (λ y. f.known top y f.high) (omega arith))

pub absent_cells : (n x : ℕ) → type_in (get_or (replicate n 65536) x 0) ≡ 0
absent_cells n x = elim (dec_lt x n) [
  | yes l ↦ ap type_in (get_or-replicate n x 65536 0 l)
  | no l ↦ ap type_in (get_or-eq_default (replicate n 65536) 0 {n = x} (rw length-replicate (omega arith)))
]

pub fit_clear : {t : Tab} {fs : Rows} {top : ℕ} → Fit t fs top → top + 1 < 8 → Fit t (set fs (top + 1) absent_row) (top + 1)
fit_clear {t} {fs} {top} f h = fit_row (top + 1) absent_row f h (length-replicate {A = ℕ} 128 65536) (λ x. omega (arith, absent_cells 128 x))

pick_has : (P : ℕ → Type 0) (q : Bool) {a b : ℕ} → P a → P b → P (pick q a b)
pick_has P true p q = p
pick_has P false p q = q

pub look_le : {t : Tab} {fs : Rows} {top : ℕ} → Fit t fs top → (x k : ℕ) → k ≤ 8 → type_in (look fs k x) ≤ t.n
unfolding look
look_le f x zero h = omega arith
look_le {t} {fs} f x (suc k) h =
    pick_has (λ v. type_in v ≤ t.n) (eqb (type_in (cell fs k x)) 0) (look_le f x k (omega arith)) (f.known k x h)

-- ---- what callers learn: types and first nodes, and no cells

-- what the cell of the top row says that the newest frame holds
held_none : {fs : Rows} {top x : ℕ} → type_in (cell fs top x) ≡ 0 → Holds fs top x None
held_none {fs} {top} {x} z = record {
  says = λ t. ap slot_type (slot_frames t fs top x ∙ slot_none t (cell fs top x) z);
  known = λ t f. tt;
  small = tt;
}

held_some : {fs : Rows} {top x r : ℕ} → type_in (cell fs top x) ≡ suc r → Holds fs top x (Some r)
held_some {fs} {top} {x} {r} e = record {
  says = λ t. ap slot_type (slot_frames t fs top x ∙ slot_some t (cell fs top x) r e);
  known = λ t f. omega (arith, f.known top x f.high);
  small = omega arith;
}

-- as the cell's half tells
pub held : {fs : Rows} {top x : ℕ} (h : Held) → type_in (cell fs top x) ≡ first_number h → Holds fs top x h
held None e = held_none e
held (Some r) e = held_some e

pub none_below : (f : First) (n : ℕ) → first_node f ≡ none → FirstBelow n f
none_below None n e = tt
none_below (Some m) n e = absurd (none-ne-some m (sym e))

-- what a lookup gives, by the cell that it finds
found : (fs : Rows) (top x : ℕ) (t : Tab) (o : ℕ) → o ≡ look fs (top + 1) x → lookup (frames_of t fs top) x ≡ or_else (slot t o) blank
unfolding lookup frames_of
found fs top x t o e = let c : o ≡ look fs (suc top) x = rw (add-one top) at e in rw (find_look t fs x (suc top), ← c)

module _ {fs : Rows} {top x : ℕ} where
  pub looked : (o : ℕ) {b : Found} → o ≡ look fs (top + 1) x → suc b.ty ≡ type_in o → first_node b.first ≡ node_from (node_in o)
      → FirstBelow cell_room b.first → Looked fs top x b
  unfolding or_else
  looked o {b} e s n h = record {
    says = λ t w f.
        found fs top x t o e ∙ ap (λ c. or_else c blank) (slot_some t o b.ty (sym s)) ∙ ap (binding (denote t b.ty)) (sym n);
    known = λ t w f.
        let l : type_in o ≤ t.n = rw e (look_le f x (top + 1) (omega (arith, f.high))) in omega arith;
    small = omega arith;
    near = h;
  }

  pub looked_nowhere : {b : Found} → type_in (look fs (top + 1) x) ≡ 0 → b.ty ≡ 0 → first_node b.first ≡ none → Looked fs top x b
  unfolding or_else
  looked_nowhere {b} e i n = record {
    says = λ t w f.
        found fs top x t _ refl ∙ ap (λ c. or_else c blank) (slot_none t (look fs (top + 1) x) e)
        ∙ ap (λ y. binding y none) (sym (unknown_number w) ∙ ap (denote t) (sym i)) ∙ ap (binding (denote t b.ty)) (sym n);
    known = λ t w f. omega (arith, w.base);
    small = omega arith;
    near = none_below b.first cell_room n;
  }

-- the type that a lookup gives
pub looked_type : {fs : Rows} {top x : ℕ} {b : Found} → Looked fs top x b → {t : Tab} → Wf t → Fit t fs top
    → Means t b.ty (lookup (frames_of t fs top) x).type
looked_type l {t} w f = record { below = l.known t w f; means = ap (λ (c : Binding). c.type) (sym (l.says t w f)) }

-- what is written
pub bound : {fs : Rows} {top x : ℕ} (v : ℕ) {b : Found} → type_in v ≡ suc b.ty → node_from (node_in v) ≡ first_node b.first → Bound fs (put fs top x v) top x b
bound {fs} {top} {x} v {b} e n = record {
  says = λ t f.
      frames_put t fs top x v b.ty (omega (arith, f.long, f.high)) e
      ∙ ap (λ m. write x (binding (denote t b.ty) m) (frames_of t fs top)) n;
  fit = λ t f h. fit_put x v f (omega arith);
}

-- ---- "known since the old node, or since n where there is none"

-- an old node is kept
pub known_kept : {m n i : ℕ} → Known (Some m) n i (record { ty = i; first = Some m })
unfolding since if_some
known_kept = record { type_is = refl; says = λ t w h. refl; near = λ h l. h }

-- "Unknown has none"
pub known_none : {n i : ℕ} {b : Found} → i ≡ 0 → b.ty ≡ 0 → first_node b.first ≡ none → Known None n i b
unfolding since if_some test◌then◌else◌
known_none {n} {i} {b} z e f = record {
  type_is = e ∙ sym z;
  says = λ t w l. rw (same_unknown w i l, eq-eqb i 0 z) (ap (λ k. binding (denote t k) (first_node b.first)) (e ∙ sym z) ∙ ap (binding (denote t i)) f);
  near = λ o l. none_below b.first cell_room f;
}

pub known_new : {n i : ℕ} → (i ≡ 0 → ⊥) → Known None n i (record { ty = i; first = Some n })
unfolding since if_some test◌then◌else◌
known_new {n} {i} z = record {
  type_is = refl;
  says = λ t w l. rw (same_unknown w i l, ne_eqb i 0 z);
  near = λ o l. l;
}

-- ---- first nodes as numbers, and the cell that is made of one

pub at_below : {f : First} {m n : ℕ} → f ≡ Some m → FirstBelow n f → m < n
at_below e h = rw e at h

pub node_number : (f : First) → node_from (first_number f) ≡ first_node f
unfolding node_from
node_number None = refl
node_number (Some m) = refl

pub number_node : (f : First) {v : ℕ} → v ≡ first_number f → (first_node f ≡ node_from v) × (v ≤ cell_room → FirstBelow cell_room f)
number_node f e = (rw e (sym (node_number f)), λ l. near f (rw e at l))
  where
    near : (g : First) → first_number g ≤ cell_room → FirstBelow cell_room g
    near None l = tt
    near (Some m) l = omega arith

pub cell_made : (b : Found) (r n : ℕ) → n ≡ first_number b.first → r ≡ n * 65536 + (b.ty + 1) → b.ty < cell_room
    → (type_in r ≡ suc b.ty) × (node_from (node_in r) ≡ first_node b.first)
cell_made b r n f e h =
    let i : type_in r ≡ suc b.ty = omega arith in
    let z : node_in r ≡ n = omega arith in
    (i, ap node_from (z ∙ f) ∙ node_number b.first)

-- what nothing is known of
pub blank_binding : {t : Tab} → Wf t → (b : Found) → b.ty ≡ 0 → first_node b.first ≡ none → binding_in t b ≡ blank
blank_binding {t} w b e f = ap (binding (denote t b.ty)) f ∙ ap (λ y. binding y none) (ap (denote t) e ∙ unknown_number w)
