-- Entries whose texts stand, as those of a sheet do, are told by what is among them: the order leaves no choice, and no name comes twice.
use mathlib.Core.Path.{◌≡◌, refl, ◌∙◌, ap, sym, subst}
use mathlib.Core.Bool.{true, false≢true}
use mathlib.Core.Logic.{⊎_elim}
use mathlib.Core.Option.{Option, none, some, none-ne-some, some-injective}
use mathlib.Core.List.Memᴰ
use mathlib.Core.List.{List, [], ◌∷◌, Memᴰ}
use Prim.Native.Nat.{ℕ, zero, suc, ◌<◌}
use native.Mathlib.Omega.{arith}
use borrow.Author.Tests.{eq-eqb}
use lib.ListN.{length, get_or}
use Rattle.meaning.specs.Base.{test◌then◌else◌, if_some, before}
use Rattle.meaning.specs.Types.{Ty}
use Rattle.meaning.specs.Image.{Name, name_of, text_stands}
use Rattle.meaning.specs.Frames.{Binding, binding, Frame}
use Rattle.meaning.specs.Sheet.{Entry, texts_stand, entries}
use Rattle.meaning.proofs.Choices.{and_left, and_right}
use Rattle.meaning.proofs.SheetNames.{before_trans}

-- ---- the order

pub before_not : (s : List ℕ) → before s s ≡ true → ⊥
unfolding before test◌then◌else◌
before_not [] h = false≢true h
before_not (x ∷ xs) h = before_not xs (rw (eq-eqb x x refl) at h)

text_after : (last s : List ℕ) → text_stands last s ≡ true → before last s ≡ true
unfolding text_stands
text_after last s h = and_right _ _ h

-- every text comes after the one before the first
pub all_after : (last : List ℕ) (es : List Entry) → texts_stand last es ≡ true → (e : Entry) → Memᴰ e es → before last e.0 ≡ true
unfolding texts_stand
all_after last [] h e m = absurd (Memᴰ.not-nil m)
all_after last (d ∷ es) h e m =
    let here = text_after last d.0 (and_left _ _ h) in
    ⊎_elim (λ p. rw p here) (λ r. before_trans last d.0 e.0 here (all_after d.0 es (and_right _ _ h) e r)) (Memᴰ.cases_cons m)

-- ---- two lists with the same members

abbrev Within : List Entry → List Entry → Type 0
Within es fs = (e : Entry) → Memᴰ e es → Memᴰ e fs

module _ (d c : Entry) (es fs : List Entry) (h : texts_stand d.0 es ≡ true) (k : texts_stand c.0 fs ≡ true) where
  heads : Within (d ∷ es) (c ∷ fs) → Within (c ∷ fs) (d ∷ es) → d ≡ c
  heads f g = ⊎_elim (λ p. p) (λ m. ⊎_elim (λ q. sym q) (λ n. absurd (cross m n)) (Memᴰ.cases_cons (g c (Memᴰ.head refl)))) (Memᴰ.cases_cons (f d (Memᴰ.head refl)))
    where
      cross : Memᴰ d fs → Memᴰ c es → ⊥
      cross m n = before_not d.0 (before_trans d.0 c.0 d.0 (all_after d.0 es h c n) (all_after c.0 fs k d m))

  tails : d ≡ c → Within (d ∷ es) (c ∷ fs) → Within es fs
  tails p f e m =
      ⊎_elim (λ q. absurd (before_not d.0 (subst (λ (x : Entry). before d.0 x.0 ≡ true) (q ∙ sym p) (all_after d.0 es h e m)))) (λ n. n)
      (Memᴰ.cases_cons (f e (Memᴰ.tail m)))

pub told_by_members : (last prev : List ℕ) (es fs : List Entry) → texts_stand last es ≡ true → texts_stand prev fs ≡ true → Within es fs → Within fs es → es ≡ fs
unfolding texts_stand
told_by_members last prev [] [] h k f g = refl
told_by_members last prev [] (c ∷ fs) h k f g = absurd (Memᴰ.not-nil (g c (Memᴰ.head refl)))
told_by_members last prev (d ∷ es) [] h k f g = absurd (Memᴰ.not-nil (f d (Memᴰ.head refl)))
told_by_members last prev (d ∷ es) (c ∷ fs) h k f g =
    let u = and_right _ _ h in
    let v = and_right _ _ k in
    let e : d ≡ c = heads d c es fs u v f g in
    let l : es ≡ fs = told_by_members d.0 c.0 es fs u v (tails d c es fs u v e f) (tails c d fs es v u (sym e) g) in
    ap (λ x. x ∷ es) e ∙ ap (λ xs. c ∷ xs) l

-- ---- the entries of a frame

-- the slot of name x has the type t, since whichever node
abbrev pub HasType : Frame → ℕ → Ty → Type 0
HasType f x t = (m : Option ℕ) × (get_or f x none ≡ some (binding t m))

-- the frame has this type in the slot of a name that is spelled so
pub record Held (ws : List Name) (f : Frame) (s : List ℕ) (t : Ty) : Type 0 where
  pub slot : ℕ
  pub named : slot < length ws
  pub spelled : (name_of ws slot).spelling ≡ s
  pub typed : HasType f slot t

held_later : {w : Name} {ws : List Name} {o : Option Binding} {f : Frame} {s : List ℕ} {t : Ty} → Held ws f s t → Held (w ∷ ws) (o ∷ f) s t
unfolding name_of
held_later h = record { slot = suc h.slot; named = omega (arith, h.named); spelled = h.spelled; typed = h.typed }

pub entry_held : (ws : List Name) (f : Frame) (s : List ℕ) (t : Ty) → Memᴰ (s, t) (entries ws f) → Held ws f s t
unfolding entries if_some name_of
entry_held [] f s t m = absurd (Memᴰ.not-nil m)
entry_held (w ∷ ws) [] s t m = absurd (Memᴰ.not-nil m)
entry_held (w ∷ ws) (none ∷ f) s t m = held_later (entry_held ws f s t m)
entry_held (w ∷ ws) (some b ∷ f) s t m =
    ⊎_elim
    (λ p. record {
      slot = 0;
      named = omega arith;
      spelled = sym (ap (λ (e : Entry). e.0) p);
      typed = (b.first, ap (λ (e : Entry). some (binding e.1 b.first)) (sym p));
    })
    (λ r. held_later (entry_held ws f s t r)) (Memᴰ.cases_cons m)

held_at : (ws : List Name) (f : Frame) (i : ℕ) (b : Binding) → i < length ws → get_or f i none ≡ some b → Memᴰ ((name_of ws i).spelling, b.type) (entries ws f)
unfolding entries if_some name_of
held_at [] f i b h e = absurd (omega arith)
held_at (w ∷ ws) [] i b h e = absurd (none-ne-some b e)
held_at (w ∷ ws) (none ∷ f) zero b h e = absurd (none-ne-some b e)
held_at (w ∷ ws) (some a ∷ f) zero b h e = Memᴰ.head (ap (λ (x : Binding). (w.spelling, x.type)) (sym (some-injective a b e)))
held_at (w ∷ ws) (none ∷ f) (suc i) b h e = held_at ws f i b (omega arith) e
held_at (w ∷ ws) (some a ∷ f) (suc i) b h e = Memᴰ.tail (held_at ws f i b (omega arith) e)

pub held_entry : {ws : List Name} {f : Frame} {s : List ℕ} {t : Ty} → Held ws f s t → Memᴰ (s, t) (entries ws f)
held_entry {ws} {f} {s} {t} h = subst (λ (x : List ℕ). Memᴰ (x, t) (entries ws f)) h.spelled (held_at ws f h.slot (binding t h.typed.0) h.named h.typed.1)
