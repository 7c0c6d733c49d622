-- What a sheet lists (document 02, request Two): all names of the module frame with their types; what the module may bind and the frame
-- lacks, as Unknown; nothing else; no name twice, in byte order.
use mathlib.Core.Path.{◌≡◌, refl, ◌∙◌, ap, sym, subst}
use mathlib.Core.Bool.{Bool, true, false, false≢true}
use mathlib.Core.Logic.{◌⊎◌, inl, inr, ⊎_elim, ◌↔◌}
use mathlib.Core.Option.{Option, none, some, none-ne-some, some-injective}
use mathlib.Core.List.Memᴰ
use mathlib.Core.List.{List, [], ◌∷◌, Memᴰ}
use Prim.Native.Nat.{ℕ, zero, suc, ◌≤◌, ◌<◌}
use native.Mathlib.Nat.{zero-add}
use native.Mathlib.Omega.{arith}
use borrow.Author.Tests.{eqb-true, eq-eqb}
use lib.Dec.{eqb}
use lib.ListN.{length, get_or, length-map}
use Rattle.meaning.specs.Limits.{most_names}
use Rattle.meaning.specs.Base.{◌or◌, if_some, or_else, is_in, count, before}
use Rattle.meaning.specs.Types.{Ty, unknown}
use Rattle.meaning.specs.Image.{Name, name_of, names_of, nodes_of}
use Rattle.meaning.specs.Bound.{may_bind}
use Rattle.meaning.specs.Decode.{tree_of}
use Rattle.meaning.specs.Frames.{Binding, binding, blank, Frame}
use Rattle.meaning.specs.Sheet.{Entry, entries, listed_slot, listed_frame, listing, met, types_of, texts_stand}
use Rattle.meaning.proofs.Choices.{and_right, or_either, count_long, counted_at}
use Rattle.meaning.proofs.Faults.{Sound, sizes}
use Rattle.meaning.proofs.Nesting.{names_many}
use Rattle.meaning.proofs.SheetNames.{texts_stand_lem}
use Rattle.meaning.proofs.SheetSame.{before_not, all_after, told_by_members, HasType, Held, entry_held, held_entry}
use Rattle.meaning.proofs.Scan.{bound_named}

-- ---- the listed frame, slot by slot

pub frame_slot : (xs : List ℕ) (f : Frame) (x : ℕ) → x < most_names → get_or (listed_frame xs f) x none ≡ listed_slot (is_in x xs) (get_or f x none)
unfolding listed_frame
frame_slot xs f x h = rw zero-add at (counted_at (λ x. listed_slot (is_in x xs) (get_or f x none)) none 0 most_names x h)

pub frame_long : (xs : List ℕ) (f : Frame) → length (listed_frame xs f) ≡ most_names
unfolding listed_frame
frame_long xs f = length-map (count 0 most_names) _ ∙ count_long 0 most_names

is_in_lem : (x : ℕ) (xs : List ℕ) → is_in x xs ≡ true → Memᴰ x xs
unfolding is_in
is_in_lem x [] e = absurd (false≢true e)
is_in_lem x (y ∷ ys) e = ⊎_elim (λ a. Memᴰ.head (eqb-true x y a)) (λ b. Memᴰ.tail (is_in_lem x ys b)) (or_either _ _ e)

in_is : (x : ℕ) (xs : List ℕ) → Memᴰ x xs → is_in x xs ≡ true
unfolding is_in ◌or◌
in_is x [] m = absurd (Memᴰ.not-nil m)
in_is x (y ∷ ys) m = ⊎_elim (λ a. rw (eq-eqb x y a)) (λ b. or_second (eqb x y) _ (in_is x ys b)) (Memᴰ.cases_cons m)
  where
    or_second : (a b : Bool) → b ≡ true → (a or b) ≡ true
    or_second true b e = refl
    or_second false b e = e

slot_tells : (b : Bool) (o : Option Binding) (c : Binding) → listed_slot b o ≡ some c → (o ≡ some c) ⊎ ((b ≡ true) × (o ≡ none) × (c ≡ blank))
unfolding listed_slot or_else
slot_tells true none c e = inr (refl, refl, sym (some-injective blank c e))
slot_tells true (some u) c e = inl e
slot_tells false o c e = inl e

pub slot_has : (b : Bool) (o : Option Binding) (c : Binding) → o ≡ some c → listed_slot b o ≡ some c
unfolding listed_slot or_else
slot_has true o c e = ap (λ (p : Option Binding). some (or_else p blank)) e
slot_has false o c e = e

slot_lacks : (b : Bool) (o : Option Binding) → (b ≡ true) × (o ≡ none) → listed_slot b o ≡ some blank
unfolding listed_slot or_else
slot_lacks b o e = rw (e.0, e.1)

slot_bound : (b : Bool) (o : Option Binding) → b ≡ true → listed_slot b o ≡ some (or_else o blank)
unfolding listed_slot
slot_bound b o e = rw e

-- ---- a name that is listed: the frame has it so, or lacks it, and then something may bind it and it is Unknown

pub record Lists (ws : List Name) (xs : List ℕ) (f : Frame) (s : List ℕ) (t : Ty) : Type 0 where
  pub slot : ℕ
  pub named : slot < length ws
  pub spelled : (name_of ws slot).spelling ≡ s
  pub typed : HasType f slot t ⊎ (Memᴰ slot xs × (get_or f slot none ≡ none) × (t ≡ unknown))

module _ (ws : List Name) (xs : List ℕ) (f : Frame) (few : length ws ≤ most_names) where
  entry_lists : (s : List ℕ) (t : Ty) → Memᴰ (s, t) (entries ws (listed_frame xs f)) → Lists ws xs f s t
  entry_lists s t m =
      let h = entry_held ws (listed_frame xs f) s t m in
      let e = sym (frame_slot xs f h.slot (omega (arith, h.named))) ∙ h.typed.1 in
      record {
        slot = h.slot;
        named = h.named;
        spelled = h.spelled;
        typed =
            ⊎_elim (λ a. inl (h.typed.0, a)) (λ a. inr (is_in_lem h.slot xs a.0, a.1, ap (λ (c : Binding). c.type) a.2))
            (slot_tells _ _ (binding t h.typed.0) e);
      }

  -- the slot of a listed name, in the listed frame
  lists_held : {s : List ℕ} {t : Ty} → Lists ws xs f s t → Held ws (listed_frame xs f) s t
  lists_held {s} {t} h =
      record {
        slot = h.slot;
        named = h.named;
        spelled = h.spelled;
        typed =
            let listed = frame_slot xs f h.slot (omega (arith, h.named)) in
            ⊎_elim (λ a. (a.0, listed ∙ slot_has _ _ _ a.1))
            (λ a. (none, listed ∙ slot_lacks _ _ (in_is h.slot xs a.0, a.1) ∙ ap (λ (u : Ty). some (binding u none)) (sym a.2))) h.typed;
      }

  lists_entry : {s : List ℕ} {t : Ty} → Lists ws xs f s t → Memᴰ (s, t) (entries ws (listed_frame xs f))
  lists_entry h = held_entry (lists_held h)

  -- what may be bound is listed, with the frame's type or as Unknown
  bound_held : (x : ℕ) → x < length ws → Memᴰ x xs → Memᴰ ((name_of ws x).spelling, (or_else (get_or f x none) blank).type) (entries ws (listed_frame xs f))
  bound_held x h m =
      held_entry (record {
        slot = x;
        named = h;
        spelled = refl;
        typed = ((or_else (get_or f x none) blank).first, frame_slot xs f x (omega arith) ∙ slot_bound _ _ (in_is x xs m));
      })

-- ---- no name twice, and byte order

not_again : (e : Entry) (es : List Entry) → texts_stand e.0 es ≡ true → (s : List ℕ) (t : Ty) → s ≡ e.0 → Memᴰ (s, t) es → ⊥
not_again e es h s t p m = before_not e.0 (subst (λ (x : List ℕ). before e.0 x ≡ true) p (all_after e.0 es h (s, t) m))

one_type : (last : List ℕ) (es : List Entry) → texts_stand last es ≡ true → (s : List ℕ) (t u : Ty) → Memᴰ (s, t) es → Memᴰ (s, u) es
    → t ≡ u
unfolding texts_stand
one_type last [] h s t u m n = absurd (Memᴰ.not-nil m)
one_type last (e ∷ es) h s t u m n =
    let later = and_right _ _ h in
    ⊎_elim
    (λ p. ⊎_elim (λ q. ap (λ (x : Entry). x.1) (p ∙ sym q)) (λ k. absurd (not_again e es later s u (ap (λ (x : Entry). x.0) p) k)) (Memᴰ.cases_cons n))
    (λ k. ⊎_elim (λ q. absurd (not_again e es later s t (ap (λ (x : Entry). x.0) q) k)) (λ l. one_type e.0 es later s t u k l) (Memᴰ.cases_cons n))
    (Memᴰ.cases_cons m)

entry_at : (es : List Entry) (j : ℕ) (d : Entry) → j < length es → Memᴰ (get_or es j d) es
entry_at [] j d h = absurd (omega arith)
entry_at (e ∷ es) zero d h = Memᴰ.head refl
entry_at (e ∷ es) (suc j) d h = Memᴰ.tail (entry_at es j d (omega arith))

ascending : (last : List ℕ) (es : List Entry) → texts_stand last es ≡ true → (i j : ℕ) (d : Entry) → i < j → j < length es
    → before (get_or es i d).0 (get_or es j d).0 ≡ true
unfolding texts_stand
ascending last [] h i j d l b = absurd (omega arith)
ascending last (e ∷ es) h i zero d l b = absurd (omega arith)
ascending last (e ∷ es) h zero (suc j) d l b = all_after e.0 es (and_right _ _ h) (get_or es j d) (entry_at es j d (omega arith))
ascending last (e ∷ es) h (suc i) (suc j) d l b = ascending e.0 es (and_right _ _ h) i j d (omega arith) (omega arith)

-- ---- what the program in a sound image lists; f is the module frame

names_few : (bs : List ℕ) → Sound bs → length (names_of bs) ≤ most_names
names_few bs image = omega (arith, (sizes image.headed).names, names_many bs)

-- the program lists a name, spelled so, with this type
abbrev pub ProgramLists : List ℕ → Frame → List ℕ → Ty → Type 0
ProgramLists bs f s t = Lists (names_of bs) (may_bind (tree_of (nodes_of bs))) f s t

abbrev pub listing_of : List ℕ → Frame → List Entry
listing_of bs f = listing (names_of bs) (tree_of (nodes_of bs)) f

module _ (bs : List ℕ) (image : Sound bs) (f : Frame) where
  -- the sheet's entries are what is listed, and nothing else
  pub listing_lists : (s : List ℕ) (t : Ty) → Memᴰ (s, t) (listing_of bs f) ↔ ProgramLists bs f s t
  unfolding listing
  listing_lists s t = (entry_lists (names_of bs) _ f (names_few bs image) s t, λ h. lists_entry (names_of bs) _ f (names_few bs image) h)

  -- "together with all names of the module frame", with their types
  pub frame_listed : {s : List ℕ} {t : Ty} → Held (names_of bs) f s t → Memᴰ (s, t) (listing_of bs f)
  frame_listed {s} {t} h =
      (listing_lists s t).1 (record { slot = h.slot; named = h.named; spelled = h.spelled; typed = inl h.typed })

  -- "each name that an Assign or a For at module level may bind", with the frame's type, or Unknown
  pub bound_listed : (x : ℕ) → Memᴰ x (may_bind (tree_of (nodes_of bs)))
      → Memᴰ ((name_of (names_of bs) x).spelling, (or_else (get_or f x none) blank).type) (listing_of bs f)
  unfolding listing
  bound_listed x m = bound_held (names_of bs) _ f (names_few bs image) x (omega (arith, bound_named image x m, names_many bs)) m

  -- "A listed name that the frame lacks is Unknown."
  pub lacking_unknown : (s : List ℕ) (t : Ty) → Memᴰ (s, t) (listing_of bs f) → ((u : Ty) → Held (names_of bs) f s u → ⊥) → t ≡ unknown
  lacking_unknown s t m lacks =
      let l = (listing_lists s t).0 m in
      ⊎_elim (λ a. absurd (lacks t (record { slot = l.slot; named = l.named; spelled = l.spelled; typed = a }))) (λ a. a.2) l.typed

  -- a known type is the module frame's: no body lends one. (False of a sheet that gives i in `for i in [1]: pass` the type Int.)
  pub known_held : (s : List ℕ) (t : Ty) → Memᴰ (s, t) (listing_of bs f) → (t ≡ unknown → ⊥) → Held (names_of bs) f s t
  known_held s t m known =
      let l = (listing_lists s t).0 m in
      ⊎_elim (λ a. record { slot = l.slot; named = l.named; spelled = l.spelled; typed = a }) (λ a. absurd (known a.2)) l.typed

  -- the entries obey the rules for texts: byte order, and so no name twice
  pub listing_stands : texts_stand [] (listing_of bs f) ≡ true
  unfolding listing
  listing_stands = texts_stand_lem bs image (listed_frame (may_bind (tree_of (nodes_of bs))) f)

  pub listing_ascends : (i j : ℕ) (d : Entry) → i < j → j < length (listing_of bs f) → before (get_or (listing_of bs f) i d).0 (get_or (listing_of bs f) j d).0 ≡ true
  listing_ascends i j d l h = ascending [] (listing_of bs f) listing_stands i j d l h

  pub listing_once : (s : List ℕ) (t u : Ty) → Memᴰ (s, t) (listing_of bs f) → Memᴰ (s, u) (listing_of bs f) → t ≡ u
  listing_once s t u m n = one_type [] (listing_of bs f) listing_stands s t u m n

  -- no name of the module frame changes its type in the sheet. (False of a sheet that gives x in `x = 1`, `for x in ["a"]: pass` as Unknown.)
  pub held_stays : {s : List ℕ} {t : Ty} → Held (names_of bs) f s t → (u : Ty) → Memᴰ (s, u) (listing_of bs f) → u ≡ t
  held_stays {s} {t} h u m = listing_once s u t m (frame_listed h)

  -- where the frame lacks nothing that the module may bind, the sheet is what it was before: the frame's names. (False of a sheet that also lists
  -- what is only read.)
  pub nothing_added : ((x : ℕ) → Memᴰ x (may_bind (tree_of (nodes_of bs))) → get_or f x none ≡ none → ⊥) → listing_of bs f ≡ entries (names_of bs) f
  nothing_added has =
      told_by_members [] [] (listing_of bs f) (entries (names_of bs) f) listing_stands (texts_stand_lem bs image f)
      (λ e i.
      let l = (listing_lists e.0 e.1).0 i in
      ⊎_elim (λ a. held_entry (record { slot = l.slot; named = l.named; spelled = l.spelled; typed = a })) (λ a. absurd (has l.slot a.0 a.1)) l.typed)
      (λ e i. frame_listed (entry_held (names_of bs) f e.0 e.1 i))

-- ---- what is added is Unknown, so that the types which the sheet stores, their order and their elements are those of the module frame alone

-- g has what f has, or Unknown where f has nothing, for the first n names
Adds : ℕ → Frame → Frame → Type 0
Adds n f g = (k : ℕ) → k < n → (get_or g k none ≡ get_or f k none) ⊎ ((get_or f k none ≡ none) × (get_or g k none ≡ some blank))

no_slots : (ws : List Name) → entries ws [] ≡ []
unfolding entries
no_slots [] = refl
no_slots (w ∷ ws) = refl

added_types : (ws : List Name) (f g : Frame) (us : List Ty) → Adds (length ws) f g → types_of (entries ws g) us ≡ types_of (entries ws f) us
unfolding Adds entries types_of if_some met
added_types [] f g us h = refl
added_types (w ∷ ws) [] [] us h = refl
added_types (w ∷ ws) [] (none ∷ g) us h = added_types ws [] g us (λ k l. h (suc k) (omega arith)) ∙ rw (no_slots ws)
added_types (w ∷ ws) [] (some t ∷ g) us h =
    ⊎_elim (λ e. absurd (none-ne-some t (sym e)))
    (λ e. rw (ap (λ (c : Binding). c.type) (some-injective t blank e.1)) (added_types ws [] g us (λ k l. h (suc k) (omega arith)) ∙ rw (no_slots ws))) (h 0 (omega arith))
added_types (w ∷ ws) (none ∷ f) [] us h = rw (no_slots ws) at (added_types ws f [] us (λ k l. h (suc k) (omega arith)))
added_types (w ∷ ws) (some u ∷ f) [] us h = absurd (⊎_elim (λ e. none-ne-some u e) (λ e. none-ne-some u (sym e.0)) (h 0 (omega arith)))
added_types (w ∷ ws) (none ∷ f) (none ∷ g) us h = added_types ws f g us (λ k l. h (suc k) (omega arith))
added_types (w ∷ ws) (none ∷ f) (some t ∷ g) us h =
    ⊎_elim (λ e. absurd (none-ne-some t (sym e)))
    (λ e. rw (ap (λ (c : Binding). c.type) (some-injective t blank e.1)) (added_types ws f g us (λ k l. h (suc k) (omega arith)))) (h 0 (omega arith))
added_types (w ∷ ws) (some u ∷ f) (none ∷ g) us h = absurd (⊎_elim (λ e. none-ne-some u e) (λ e. none-ne-some u (sym e.0)) (h 0 (omega arith)))
added_types (w ∷ ws) (some u ∷ f) (some t ∷ g) us h =
    ⊎_elim (λ e. rw (ap (λ (c : Binding). c.type) (some-injective t u e)) (added_types ws f g (met u.type us) (λ k l. h (suc k) (omega arith))))
    (λ e. absurd (none-ne-some u (sym e.0))) (h 0 (omega arith))

-- (False of a sheet that gives i in `for i in [[1]]: pass` the type List(Int).)
pub listing_types : (bs : List ℕ) → Sound bs → (f : Frame) → types_of (listing_of bs f) [] ≡ types_of (entries (names_of bs) f) []
unfolding listing Adds listed_slot or_else
listing_types bs image f =
    let xs = may_bind (tree_of (nodes_of bs)) in
    added_types (names_of bs) f (listed_frame xs f) []
    (λ k l. by (is_in k xs) (get_or f k none) (get_or (listed_frame xs f) k none) (frame_slot xs f k (omega (arith, names_few bs image))))
  where
    by : (b : Bool) (o p : Option Binding) → p ≡ listed_slot b o → (p ≡ o) ⊎ ((o ≡ none) × (p ≡ some blank))
    by true none p e = inr (refl, e)
    by false none p e = inl e
    by b (some t) p e = inl (e ∙ slot_has b (some t) t refl)

-- ---- demand 3: "Demand 3 speaks of listed names from here."

-- two programs list the same names with the same types. Names are numbered image by image; only their spellings can be compared.
pub record SameListed (a b : List ℕ) (f g : Frame) : Type 0 where
  pub same : (s : List ℕ) (t : Ty) → ProgramLists a f s t ↔ ProgramLists b g s t

module _ {a b : List ℕ} (x : Sound a) (y : Sound b) (f g : Frame) where
  pub same_list : SameListed a b f g → listing_of a f ≡ listing_of b g
  same_list m =
      told_by_members [] [] (listing_of a f) (listing_of b g) (listing_stands a x f) (listing_stands b y g)
      (λ e i. (listing_lists b y g e.0 e.1).1 ((m.same e.0 e.1).0 ((listing_lists a x f e.0 e.1).0 i)))
      (λ e i. (listing_lists a x f e.0 e.1).1 ((m.same e.0 e.1).1 ((listing_lists b y g e.0 e.1).0 i)))

  pub list_same : listing_of a f ≡ listing_of b g → SameListed a b f g
  list_same e =
      record {
        same = λ s t. (
          λ h. (listing_lists b y g s t).0 (subst (Memᴰ (s, t)) e ((listing_lists a x f s t).1 h)),
          λ h. (listing_lists a x f s t).0 (subst (Memᴰ (s, t)) (sym e) ((listing_lists b y g s t).1 h)),
        );
      }
