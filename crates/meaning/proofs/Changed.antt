-- What is told to have changed between two sheets: of each name exactly what its types in the two say, one line a name at most, in byte
-- order; and nothing exactly when the sheets are equal.
use mathlib.Core.Path.{◌≡◌, refl, ◌∙◌, ap, sym, subst}
use mathlib.Core.Bool.{Bool, true, false, false≢true}
use mathlib.Core.Logic.{◌⊎◌, inl, inr, ⊎_elim, ◌↔◌}
use mathlib.Core.Option.{Option, none, some, none-ne-some, some-injective}
use mathlib.Core.List.Memᴰ
use mathlib.Core.List.{List, [], ◌∷◌, ◌++◌, Memᴰ}
use Prim.Native.Nat.{ℕ}
use native.Mathlib.Omega.{arith}
use native.Mathlib.Decide.{ℕ_discrete}
use borrow.Author.Tests.{eq-eqb, ne_eqb, ltb-false}
use lib.ListN.{length}
use Rattle.meaning.specs.Base.{test◌then◌else◌, same_text, before, bytes}
use Rattle.meaning.specs.Types.{Ty, Ty-discrete, same}
use Rattle.meaning.specs.Image.{text_stands}
use Rattle.meaning.specs.Sheet.{Entry, texts_stand, within_limits}
use Rattle.meaning.specs.Read.{SheetOf}
use Rattle.meaning.specs.Show.{Change, came, went, turned, change_text, changes_text, retyped, against, all_came, changes}
use Rattle.meaning.proofs.Choices.{and_left, and_right, both, not_so, same_text_lem, text_same, same_yes, same_no}
use Rattle.meaning.proofs.SheetForm.{sheet_injective}
use Rattle.meaning.proofs.SheetNames.{before_trans}
use Rattle.meaning.proofs.SheetSame.{before_not, all_after, told_by_members}

-- ---- the type that entries have for a name, and the change that an old and a new type make

unfoldable pub type_in : List Entry → List ℕ → Option Ty
type_in [] s = none
type_in (e ∷ es) s = let later = type_in es s in test same_text e.0 s then some e.1 else later

-- "in one only, or with another type"
unfoldable pub change_of : List ℕ → Option Ty → Option Ty → Option Change
change_of s none none = none
change_of s none (some u) = some (came (s, u))
change_of s (some t) none = some (went (s, t))
change_of s (some t) (some u) = test same t u then none else some (turned s t u)

-- the name that a change is about
unfoldable pub about : Change → List ℕ
about (came e) = e.0
about (went e) = e.0
about (turned s t u) = s

-- the change that is told of a name
unfoldable pub change_for : List Change → List ℕ → Option Change
change_for [] s = none
change_for (c ∷ cs) s = let later = change_for cs s in test same_text (about c) s then some c else later

-- ---- names and texts

name_here : (e : Entry) (es : List Entry) (s : List ℕ) → e.0 ≡ s → type_in (e ∷ es) s ≡ some e.1
unfolding type_in test◌then◌else◌
name_here e es s p = rw (← p, text_same e.0)

name_later : (e : Entry) (es : List Entry) (s : List ℕ) → (e.0 ≡ s → ⊥) → type_in (e ∷ es) s ≡ type_in es s
unfolding type_in test◌then◌else◌
name_later e es s n = rw (not_so (same_text e.0 s) (λ h. n (same_text_lem e.0 s h)))

change_here : (c : Change) (cs : List Change) (s : List ℕ) → about c ≡ s → change_for (c ∷ cs) s ≡ some c
unfolding change_for test◌then◌else◌
change_here c cs s p = rw (← p, text_same (about c))

change_later : (c : Change) (cs : List Change) (s : List ℕ) → (about c ≡ s → ⊥) → change_for (c ∷ cs) s ≡ change_for cs s
unfolding change_for test◌then◌else◌
change_later c cs s n = rw (not_so (same_text (about c) s) (λ h. n (same_text_lem (about c) s h)))

-- a text is another or not
text_or : (a b : List ℕ) → (a ≡ b) ⊎ (a ≡ b → ⊥)
text_or a b = by (same_text a b) refl
  where
    by : (t : Bool) → same_text a b ≡ t → (a ≡ b) ⊎ (a ≡ b → ⊥)
    by true e = inl (same_text_lem a b e)
    by false e = inr (λ p. false≢true (sym e ∙ subst (λ (x : List ℕ). same_text a x ≡ true) p (text_same a)))

-- ---- how two lists of entries differ, entry by entry

pub data Differ : List Entry → List Entry → List Change → Type 0 where
  none_left : Differ [] [] []
  comes : {es fs : List Entry} {cs : List Change} {n : Entry} → type_in es n.0 ≡ none → Differ es fs cs → Differ es (n ∷ fs) (came n ∷ cs)
  goes : {es fs : List Entry} {cs : List Change} {o : Entry} → type_in fs o.0 ≡ none → Differ es fs cs → Differ (o ∷ es) fs (went o ∷ cs)
  stays : {es fs : List Entry} {cs : List Change} {o n : Entry} → o ≡ n → type_in es o.0 ≡ none → type_in fs o.0 ≡ none → Differ es fs cs
      → Differ (o ∷ es) (n ∷ fs) cs
  turns : {es fs : List Entry} {cs : List Change} {o n : Entry} → o.0 ≡ n.0 → (o.1 ≡ n.1 → ⊥) → Differ es fs cs
      → Differ (o ∷ es) (n ∷ fs) (turned o.0 o.1 n.1 ∷ cs)

change_came : (s : List ℕ) (x : Option Ty) (u : Ty) → x ≡ none → change_of s x (some u) ≡ some (came (s, u))
unfolding change_of
change_came s x u e = rw e

change_went : (s : List ℕ) (t : Ty) (y : Option Ty) → y ≡ none → change_of s (some t) y ≡ some (went (s, t))
unfolding change_of
change_went s t y e = rw e

change_same : (s : List ℕ) (x : Option Ty) → change_of s x x ≡ none
unfolding change_of test◌then◌else◌
change_same s none = refl
change_same s (some t) = rw (same_yes t t refl)

change_turned : (s : List ℕ) (t u : Ty) → (t ≡ u → ⊥) → change_of s (some t) (some u) ≡ some (turned s t u)
unfolding change_of test◌then◌else◌
change_turned s t u n = rw (same_no t u n)

change_of_lem : (s : List ℕ) {x z y w : Option Ty} → x ≡ z → y ≡ w → change_of s x y ≡ change_of s z w
change_of_lem s {x} {z} {y} {w} p q = ap (λ (o : Option Ty). change_of s o y) p ∙ ap (change_of s z) q

differ_told : {es fs : List Entry} {cs : List Change} → Differ es fs cs → (s : List ℕ) → change_for cs s ≡ change_of s (type_in es s) (type_in fs s)
unfolding change_for change_of type_in about
differ_told none_left s = refl
differ_told (comes {es} {fs} {cs} {n} h d) s =
    ⊎_elim
    (λ p. change_here (came n) cs s p ∙ ap (λ (x : List ℕ). some (came (x, n.1))) p
    ∙ sym (ap (change_of s (type_in es s)) (name_here n fs s p) ∙ change_came s _ n.1 (subst (λ (x : List ℕ). type_in es x ≡ none) p h)))
    (λ q. change_later (came n) cs s q ∙ differ_told d s ∙ sym (ap (change_of s (type_in es s)) (name_later n fs s q)))
    (text_or n.0 s)
differ_told (goes {es} {fs} {cs} {o} h d) s =
    ⊎_elim
    (λ p. change_here (went o) cs s p ∙ ap (λ (x : List ℕ). some (went (x, o.1))) p
    ∙ sym (change_of_lem s (name_here o es s p) refl ∙ change_went s o.1 _ (subst (λ (x : List ℕ). type_in fs x ≡ none) p h)))
    (λ q. change_later (went o) cs s q ∙ differ_told d s ∙ sym (change_of_lem s (name_later o es s q) refl))
    (text_or o.0 s)
differ_told (stays {es} {fs} {cs} {o} {n} e h k d) s =
    let name : o.0 ≡ n.0 = ap (λ (x : Entry). x.0) e in
    let type : o.1 ≡ n.1 = ap (λ (x : Entry). x.1) e in
    ⊎_elim
    (λ p. differ_told d s
    ∙ change_of_lem s (subst (λ (x : List ℕ). type_in es x ≡ none) p h) (subst (λ (x : List ℕ). type_in fs x ≡ none) p k)
    ∙ sym (change_of_lem s (name_here o es s p) (name_here n fs s (sym name ∙ p) ∙ ap some (sym type)) ∙ change_same s (some o.1)))
    (λ q. differ_told d s ∙ sym (change_of_lem s (name_later o es s q) (name_later n fs s (λ p. q (name ∙ p)))))
    (text_or o.0 s)
differ_told (turns {es} {fs} {cs} {o} {n} e h d) s =
    let c : Change = turned o.0 o.1 n.1 in
    ⊎_elim
    (λ p. change_here c cs s p ∙ ap (λ (x : List ℕ). some (turned x o.1 n.1)) p
    ∙ sym (change_of_lem s (name_here o es s p) (name_here n fs s (sym e ∙ p)) ∙ change_turned s o.1 n.1 h))
    (λ q. change_later c cs s q ∙ differ_told d s ∙ sym (change_of_lem s (name_later o es s q) (name_later n fs s (λ p. q (e ∙ p)))))
    (text_or o.0 s)

-- ---- ascending names, all after `last`

record Rising (last : List ℕ) (es : List Entry) : Type 0 where
  stands : texts_stand last es ≡ true

module _ {last : List ℕ} {e : Entry} {es : List Entry} (h : Rising last (e ∷ es)) where
  rising_next : before last e.0 ≡ true
  unfolding texts_stand text_stands
  rising_next = and_right _ _ (and_left _ _ h.stands)

  rising_rest : Rising e.0 es
  unfolding texts_stand
  rising_rest = record { stands = and_right _ _ h.stands }

  -- after another text, if that comes before the first
  rising_from : (s : List ℕ) → before s e.0 ≡ true → Rising s (e ∷ es)
  unfolding texts_stand text_stands
  rising_from s b = record { stands = both _ _ (both _ _ (and_left _ _ (and_left _ _ h.stands)) b) (and_right _ _ h.stands) }

rising_none : (s : List ℕ) → Rising s []
unfolding texts_stand
rising_none s = record { stands = refl }

rising_before : (s last : List ℕ) (es : List Entry) → before s last ≡ true → Rising last es → Rising s es
rising_before s last [] b h = rising_none s
rising_before s last (e ∷ es) b h = rising_from h s (before_trans s last e.0 b (rising_next h))

-- what comes before them is not among them
not_among : (s : List ℕ) (es : List Entry) → Rising s es → type_in es s ≡ none
unfolding type_in
not_among s [] h = refl
not_among s (e ∷ es) h =
    name_later e es s (λ p. before_not s (subst (λ (x : List ℕ). before s x ≡ true) p (rising_next h)))
    ∙ not_among s es (rising_before s e.0 es (rising_next h) (rising_rest h))

-- neither comes before the other: they are one
pub neither : (a b : List ℕ) → before a b ≡ false → before b a ≡ false → a ≡ b
unfolding before test◌then◌else◌
neither [] [] h k = refl
neither [] (y ∷ ys) h k = absurd (false≢true (sym h))
neither (x ∷ xs) [] h k = absurd (false≢true (sym k))
neither (x ∷ xs) (y ∷ ys) h k = elim (ℕ_discrete x y) [
  | yes e ↦ rw (e, neither xs ys (rw (eq-eqb x y e) at h) (rw (eq-eqb y x (sym e)) at k))
  | no n ↦ let a = ltb-false x y (rw (ne_eqb x y n) at h) in
      let b = ltb-false y x (rw (ne_eqb y x (λ e. n (sym e))) at k) in
      absurd (n (omega arith))
]

-- ---- the changes of ascending names

-- the changes are about names in byte order, all after `last`
pub Ascend : List ℕ → List Change → Type 0
Ascend last [] = Unit {0}
Ascend last (c ∷ cs) = (before last (about c) ≡ true) × Ascend (about c) cs

ascend_before : (s last : List ℕ) (cs : List Change) → before s last ≡ true → Ascend last cs → Ascend s cs
unfolding Ascend
ascend_before s last [] b h = tt
ascend_before s last (c ∷ cs) b h = (before_trans s last (about c) b h.0, h.1)

-- how the entries differ, and the order of the changes
record Merged (last : List ℕ) (es fs : List Entry) (cs : List Change) : Type 0 where
  differ : Differ es fs cs
  ascend : Ascend last cs

merged_is : {last : List ℕ} {es fs : List Entry} {cs ds : List Change} → cs ≡ ds → Merged last es fs ds → Merged last es fs cs
merged_is {last} {es} {fs} p m = subst (Merged last es fs) (sym p) m

all_come : (last : List ℕ) (fs : List Entry) → Rising last fs → Merged last [] fs (all_came fs)
unfolding all_came Ascend about type_in
all_come last [] h = record { differ = none_left; ascend = tt }
all_come last (n ∷ fs) h =
    let m = all_come n.0 fs (rising_rest h) in
    record { differ = comes refl m.differ; ascend = (rising_next h, m.ascend) }

pub retyped_same : (s : List ℕ) (t u : Ty) (cs : List Change) → t ≡ u → retyped s t u cs ≡ cs
unfolding retyped test◌then◌else◌
retyped_same s t u cs e = rw (same_yes t u e)

pub retyped_other : (s : List ℕ) (t u : Ty) (cs : List Change) → (t ≡ u → ⊥) → retyped s t u cs ≡ turned s t u ∷ cs
unfolding retyped test◌then◌else◌
retyped_other s t u cs n = rw (same_no t u n)

module _ {last : List ℕ} {o n : Entry} {es fs : List Entry} (h : Rising last (o ∷ es)) (k : Rising last (n ∷ fs)) where
  step_came : {cs : List Change} → before n.0 o.0 ≡ true → Merged n.0 (o ∷ es) fs cs → Merged last (o ∷ es) (n ∷ fs) (came n ∷ cs)
  unfolding Ascend about
  step_came b m = record { differ = comes (not_among n.0 (o ∷ es) (rising_from h n.0 b)) m.differ; ascend = (rising_next k, m.ascend) }

  step_went : {cs : List Change} → before o.0 n.0 ≡ true → Merged o.0 es (n ∷ fs) cs → Merged last (o ∷ es) (n ∷ fs) (went o ∷ cs)
  unfolding Ascend about
  step_went b m = record { differ = goes (not_among o.0 (n ∷ fs) (rising_from k o.0 b)) m.differ; ascend = (rising_next h, m.ascend) }

  step_both : (cs : List Change) → o.0 ≡ n.0 → Merged o.0 es fs cs → Merged last (o ∷ es) (n ∷ fs) (retyped o.0 o.1 n.1 cs)
  unfolding Ascend about
  step_both cs e m = elim (Ty-discrete o.1 n.1) [
    | yes t ↦ merged_is (retyped_same o.0 o.1 n.1 cs t)
        (record {
          differ = stays (ap (λ (x : List ℕ). (x, o.1)) e ∙ ap (λ (y : Ty). (n.0, y)) t) (not_among o.0 es (rising_rest h))
              (subst (λ (x : List ℕ). type_in fs x ≡ none) (sym e) (not_among n.0 fs (rising_rest k))) m.differ;
          ascend = ascend_before last o.0 cs (rising_next h) m.ascend;
        })
    | no t ↦ merged_is (retyped_other o.0 o.1 n.1 cs t) (record { differ = turns e t m.differ; ascend = (rising_next h, m.ascend) })
  ]

-- ---- one step of the changes: by which names are left, and by the order of the two first ones

pub next_comes : (n : Entry) (fs : List Entry) → changes [] (n ∷ fs) ≡ came n ∷ changes [] fs
unfolding changes all_came
next_comes n fs = refl

pub next_goes : (o : Entry) (es : List Entry) → changes (o ∷ es) [] ≡ went o ∷ changes es []
unfolding changes against
next_goes o es = refl

module _ (o n : Entry) (es fs : List Entry) where
  pub next_came : before n.0 o.0 ≡ true → changes (o ∷ es) (n ∷ fs) ≡ came n ∷ changes (o ∷ es) fs
  unfolding changes against test◌then◌else◌
  next_came b = rw b

  pub next_went : before n.0 o.0 ≡ false → before o.0 n.0 ≡ true → changes (o ∷ es) (n ∷ fs) ≡ went o ∷ changes es (n ∷ fs)
  unfolding changes against test◌then◌else◌
  next_went a b = rw (a, b)

  pub next_both : before n.0 o.0 ≡ false → before o.0 n.0 ≡ false → changes (o ∷ es) (n ∷ fs) ≡ retyped o.0 o.1 n.1 (changes es fs)
  unfolding changes against test◌then◌else◌
  next_both a b = rw (a, b)

Merging : List Entry → Type 0
Merging es = (last : List ℕ) (fs : List Entry) → Rising last es → Rising last fs → Merged last es fs (changes es fs)

module _ (o n : Entry) (es fs : List Entry) (last : List ℕ) (ih : Merging es) (h : Rising last (o ∷ es)) (k : Rising last (n ∷ fs))
    (rest : before n.0 o.0 ≡ true → Merged n.0 (o ∷ es) fs (changes (o ∷ es) fs)) where
  merge_step : (a : Bool) → before n.0 o.0 ≡ a → (b : Bool) → before o.0 n.0 ≡ b → Merged last (o ∷ es) (n ∷ fs) (changes (o ∷ es) (n ∷ fs))
  unfolding Merging
  merge_step true p b q = merged_is (next_came o n es fs p) (step_came h k p (rest p))
  merge_step false p true q =
      merged_is (next_went o n es fs p q) (step_went h k q (ih o.0 (n ∷ fs) (rising_rest h) (rising_from k o.0 q)))
  merge_step false p false q =
      let e = neither n.0 o.0 p q in
      merged_is (next_both o n es fs p q)
      (step_both h k (changes es fs) (sym e) (ih o.0 fs (rising_rest h) (subst (λ (x : List ℕ). Rising x fs) e (rising_rest k))))

merged_against : (o : Entry) (es : List Entry) → Merging es → (last : List ℕ) (fs : List Entry) → Rising last (o ∷ es) → Rising last fs
    → Merged last (o ∷ es) fs (changes (o ∷ es) fs)
unfolding changes Merging against Ascend about type_in
merged_against o es ih last [] h k =
    let m = ih o.0 [] (rising_rest h) (rising_none o.0) in
    record { differ = goes refl m.differ; ascend = (rising_next h, m.ascend) }
merged_against o es ih last (n ∷ fs) h k =
    merge_step o n es fs last ih h k (λ b. merged_against o es ih n.0 fs (rising_from h n.0 b) (rising_rest k)) _ refl _ refl

merging : (es : List Entry) → Merging es
unfolding Merging changes
merging [] = λ last fs h k. all_come last fs k
merging (o ∷ es) = λ last fs h k. merged_against o es (merging es) last fs h k

-- ---- two lists of entries whose texts stand

module _ (es fs : List Entry) (h : texts_stand [] es ≡ true) (k : texts_stand [] fs ≡ true) where
  merged : Merged [] es fs (changes es fs)
  unfolding Merging
  merged = merging es [] fs (record { stands = h }) (record { stands = k })

  -- the change that is told of a name is the one that its types in both make: it came, it went, it has another type; or there is none
  pub change_told : (s : List ℕ) → change_for (changes es fs) s ≡ change_of s (type_in es s) (type_in fs s)
  change_told s = differ_told merged.differ s

  pub differ_so : Differ es fs (changes es fs)
  differ_so = merged.differ

  -- the changes stand in byte order of their names, and so no name comes twice
  pub changes_ascend : Ascend [] (changes es fs)
  changes_ascend = merged.ascend

-- ---- a name's type, and whether something is told of it

-- an entry is there exactly when its name has its type
in_entries : (es : List Entry) (s : List ℕ) (t : Ty) → type_in es s ≡ some t → Memᴰ (s, t) es
unfolding type_in
in_entries [] s t e = absurd (none-ne-some t e)
in_entries (d ∷ es) s t e =
    ⊎_elim
    (λ p. Memᴰ.head (ap (λ (x : List ℕ). (x, t)) (sym p) ∙ ap (λ (y : Ty). (d.0, y)) (sym (some-injective d.1 t (sym (name_here d es s p) ∙ e)))))
    (λ q. Memᴰ.tail (in_entries es s t (sym (name_later d es s q) ∙ e))) (text_or d.0 s)

entry_in : (last : List ℕ) (es : List Entry) → Rising last es → (s : List ℕ) (t : Ty) → Memᴰ (s, t) es → type_in es s ≡ some t
entry_in last [] h s t m = absurd (Memᴰ.not-nil m)
entry_in last (d ∷ es) h s t m =
    ⊎_elim (λ p. name_here d es s (sym (ap (λ (x : Entry). x.0) p)) ∙ ap (λ (x : Entry). some x.1) (sym p))
    (λ r. name_later d es s (λ q. before_not s (subst (λ (x : List ℕ). before x s ≡ true) q (all_after d.0 es (rising_rest h).stands (s, t) r)))
    ∙ entry_in d.0 es (rising_rest h) s t r)
    (Memᴰ.cases_cons m)

pub type_in_lem : (es : List Entry) → texts_stand [] es ≡ true → (s : List ℕ) (t : Ty) → (type_in es s ≡ some t) ↔ Memᴰ (s, t) es
type_in_lem es h s t = (in_entries es s t, entry_in [] es (record { stands = h }) s t)

no_change : (s : List ℕ) (x y : Option Ty) → change_of s x y ≡ none → x ≡ y
unfolding change_of test◌then◌else◌
no_change s none none e = refl
no_change s none (some u) e = absurd (none-ne-some _ (sym e))
no_change s (some t) none e = absurd (none-ne-some _ (sym e))
no_change s (some t) (some u) e = elim (Ty-discrete t u) [
  | yes p ↦ ap some p
  | no n ↦ absurd (none-ne-some _ (sym (sym (change_turned s t u n) ∙ e)))
]

-- nothing is told of any name: there is no change
none_told : (cs : List Change) → ((s : List ℕ) → change_for cs s ≡ none) → cs ≡ []
none_told [] f = refl
none_told (c ∷ cs) f = absurd (none-ne-some c (sym (f (about c)) ∙ change_here c cs (about c) refl))

none_for : (cs : List Change) (s : List ℕ) → cs ≡ [] → change_for cs s ≡ none
unfolding change_for
none_for cs s e = rw e

-- a change is among them exactly when it is told of its name
told_in : (cs : List Change) (c : Change) → change_for cs (about c) ≡ some c → Memᴰ c cs
unfolding change_for
told_in [] c e = absurd (none-ne-some c e)
told_in (d ∷ cs) c e =
    ⊎_elim (λ p. Memᴰ.head (sym (some-injective d c (sym (change_here d cs (about c) p) ∙ e))))
    (λ q. Memᴰ.tail (told_in cs c (sym (change_later d cs (about c) q) ∙ e))) (text_or (about d) (about c))

after_all : (last : List ℕ) (cs : List Change) → Ascend last cs → (c : Change) → Memᴰ c cs → before last (about c) ≡ true
unfolding Ascend
after_all last [] h c m = absurd (Memᴰ.not-nil m)
after_all last (d ∷ cs) h c m =
    ⊎_elim (λ p. subst (λ (x : Change). before last (about x) ≡ true) (sym p) h.0) (λ r. before_trans last (about d) (about c) h.0 (after_all (about d) cs h.1 c r))
    (Memᴰ.cases_cons m)

in_told : (last : List ℕ) (cs : List Change) → Ascend last cs → (c : Change) → Memᴰ c cs → change_for cs (about c) ≡ some c
unfolding Ascend
in_told last [] h c m = absurd (Memᴰ.not-nil m)
in_told last (d ∷ cs) h c m =
    ⊎_elim (λ p. change_here d cs (about c) (ap about (sym p)) ∙ ap some (sym p))
    (λ r. change_later d cs (about c) (λ q. before_not (about c) (subst (λ (x : List ℕ). before x (about c) ≡ true) q (after_all (about d) cs h.1 c r)))
    ∙ in_told (about d) cs h.1 c r)
    (Memᴰ.cases_cons m)

module _ (es fs : List Entry) (h : texts_stand [] es ≡ true) (k : texts_stand [] fs ≡ true) where
  -- a line stands there exactly when it is what its name's types in both make
  pub line_exactly : (c : Change) → Memᴰ c (changes es fs) ↔ (change_of (about c) (type_in es (about c)) (type_in fs (about c)) ≡ some c)
  line_exactly c = (
    λ m. sym (change_told es fs h k (about c)) ∙ in_told [] (changes es fs) (changes_ascend es fs h k) c m,
    λ e. told_in (changes es fs) c (change_told es fs h k (about c) ∙ e),
  )

  -- no line is about a name exactly when both have it with one type, or neither has it
  pub no_line : (s : List ℕ) → (change_for (changes es fs) s ≡ none) ↔ (type_in es s ≡ type_in fs s)
  no_line s = (
    λ e. no_change s (type_in es s) (type_in fs s) (sym (change_told es fs h k s) ∙ e),
    λ e. change_told es fs h k s ∙ change_of_lem s e refl ∙ change_same s (type_in fs s),
  )

  pub no_changes : (changes es fs ≡ []) ↔ (es ≡ fs)
  no_changes = (
    λ e. told_by_members [] [] es fs h k
        (λ d m. (type_in_lem fs k d.0 d.1).0 (sym ((no_line d.0).0 (none_for (changes es fs) d.0 e)) ∙ (type_in_lem es h d.0 d.1).1 m))
        (λ d m. (type_in_lem es h d.0 d.1).0 ((no_line d.0).0 (none_for (changes es fs) d.0 e) ∙ (type_in_lem fs k d.0 d.1).1 m)),
    λ e. none_told (changes es fs) (λ s. (no_line s).1 (ap (λ (x : List Entry). type_in x s) e)),
  )

-- ---- two sheets

pub limits_texts : (es : List Entry) → within_limits es ≡ true → texts_stand [] es ≡ true
unfolding within_limits
limits_texts es w = and_left _ _ (and_left _ _ (and_left _ _ w))

-- nothing changed exactly when the two byte strings are equal
pub sheets_unchanged : {bs cs : List ℕ} {es fs : List Entry} → SheetOf bs es → SheetOf cs fs → (changes es fs ≡ []) ↔ (bs ≡ cs)
sheets_unchanged {bs} {cs} {es} {fs} x y =
    let n = no_changes es fs (limits_texts es x.limits) (limits_texts fs y.limits) in
    let i = sheet_injective es fs x.limits y.limits in (
      λ e. x.written ∙ i.1 (n.0 e) ∙ sym y.written,
      λ e. n.1 (i.0 (sym x.written ∙ e ∙ y.written)),
    )

-- ---- in words

change_some : (c : Change) (rest : List ℕ) → length (change_text c ++ bytes "\n" ++ rest) ≡ 0 → ⊥
unfolding change_text bytes
change_some (came e) rest z = omega (arith, z)
change_some (went e) rest z = omega (arith, z)
change_some (turned s t u) rest z = omega (arith, z)

-- every change has a line
pub no_words : (cs : List Change) → (length (changes_text cs) ≡ 0) ↔ (cs ≡ [])
unfolding changes_text
no_words [] = (λ e. refl, λ e. refl)
no_words (c ∷ cs) = (λ z. absurd (change_some c (changes_text cs) z), λ e. ap (λ (ds : List Change). length (changes_text ds)) e)
