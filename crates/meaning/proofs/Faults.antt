-- The refusals 1 to 8 and 14 in their order: each law says which searches came first and found nothing.
use mathlib.Core.Path.{◌≡◌, refl, ◌∙◌, ap, sym}
use mathlib.Core.Bool.{Bool, true, false}
use mathlib.Core.Logic.{◌↔◌, ◌⊎◌, inl, inr, ⊎_elim}
use mathlib.Core.Option.{Option, none, some, none-ne-some, some-injective}
use mathlib.Core.List.{List, [], ◌∷◌}
use Prim.Native.Nat.{ℕ, ◌≤◌, ◌<◌}
use native.Mathlib.Omega.{arith}
use borrow.Author.Tests.{leb-true, eqb-true}
use lib.ListN.{length}
use Rattle.meaning.specs.Limits.{most_names, most_nodes, most_text}
use Rattle.meaning.specs.Base.{test◌then◌else◌, if_some}
use Rattle.meaning.specs.Image.{Fault, unless, first_found, name_count, node_count, text_count, nodes_from, texts_from, total, head_stands, counts_stand, offsets_stand, broken_name, unsafe_name, broken_node, badly_nested, too_deep_node, head_fault, body_fault, image_fault, first_tree_set, check_fault}
use Rattle.meaning.proofs.Choices.{and_left, and_right, if_none}

abbrev pub fault : ℕ → ℕ → Fault
fault c i = record { code = c; place = i }

-- ---- the header

-- no 1, 2 or 3
pub record Headed (bs : List ℕ) : Type 0 where
  pub head : head_stands bs ≡ true
  pub counts : counts_stand bs ≡ true
  pub offsets : offsets_stand bs ≡ true

pub fault_1 : (bs : List ℕ) → head_stands bs ≡ false → image_fault bs ≡ some (fault 1 0)
unfolding image_fault head_fault first_found unless if_some test◌then◌else◌
fault_1 bs h = rw h

pub fault_2 : (bs : List ℕ) → head_stands bs ≡ true → counts_stand bs ≡ false → image_fault bs ≡ some (fault 2 0)
unfolding image_fault head_fault first_found unless if_some test◌then◌else◌
fault_2 bs h c = rw (h, c)

pub fault_3 : (bs : List ℕ) → head_stands bs ≡ true → counts_stand bs ≡ true → offsets_stand bs ≡ false → image_fault bs ≡ some (fault 3 0)
unfolding image_fault head_fault first_found unless if_some test◌then◌else◌
fault_3 bs h c o = rw (h, c, o)

-- ---- the names, and then the nodes

headed : {bs : List ℕ} → Headed bs → image_fault bs ≡ body_fault bs
unfolding image_fault head_fault first_found unless if_some test◌then◌else◌
headed h = rw (h.head, h.counts, h.offsets)

module _ {bs : List ℕ} (h : Headed bs) where
  pub fault_4 : {i : ℕ} → broken_name bs ≡ some i → image_fault bs ≡ some (fault 4 i)
  unfolding body_fault first_found if_some
  fault_4 a = rw (headed h, a)

  pub fault_5 : {i : ℕ} → broken_name bs ≡ none → unsafe_name bs ≡ some i → image_fault bs ≡ some (fault 5 i)
  unfolding body_fault first_found if_some
  fault_5 a b = rw (headed h, a, b)

  pub fault_6 : {i : ℕ} → broken_name bs ≡ none → unsafe_name bs ≡ none → broken_node bs ≡ some i → image_fault bs ≡ some (fault 6 i)
  unfolding body_fault first_found if_some
  fault_6 a b c = rw (headed h, a, b, c)

  pub fault_7 : {i : ℕ} → broken_name bs ≡ none → unsafe_name bs ≡ none → broken_node bs ≡ none → badly_nested bs ≡ some i
      → image_fault bs ≡ some (fault 7 i)
  unfolding body_fault first_found if_some
  fault_7 a b c d = rw (headed h, a, b, c, d)

  pub fault_8 : {i : ℕ} → broken_name bs ≡ none → unsafe_name bs ≡ none → broken_node bs ≡ none → badly_nested bs ≡ none → too_deep_node bs ≡ some i
      → image_fault bs ≡ some (fault 8 i)
  unfolding body_fault first_found if_some
  fault_8 a b c d e = rw (headed h, a, b, c, d, e)

-- ---- an image that stands

pub record Sound (bs : List ℕ) : Type 0 where
  pub headed : Headed bs
  pub names : broken_name bs ≡ none
  pub safe : unsafe_name bs ≡ none
  pub nodes : broken_node bs ≡ none
  pub nested : badly_nested bs ≡ none
  pub shallow : too_deep_node bs ≡ none

none_first : (c : ℕ) (o : Option ℕ) (cs : List (ℕ × Option ℕ)) → first_found ((c, o) ∷ cs) ≡ none → (o ≡ none) × (first_found cs ≡ none)
unfolding first_found if_some
none_first c none cs e = (refl, e)
none_first c (some i) cs e = absurd (none-ne-some _ (sym e))

none_both : (o p : Option Fault) → if_some o some p ≡ none → (o ≡ none) × (p ≡ none)
unfolding if_some
none_both none p e = (refl, e)
none_both (some a) p e = absurd (none-ne-some a (sym e))

unless_none : (b : Bool) → unless b ≡ none → b ≡ true
unfolding unless
unless_none b e = (if_none b none 0 e).0

head_sound : (bs : List ℕ) → head_fault bs ≡ none → Headed bs
unfolding head_fault
head_sound bs e =
    let a = none_first _ _ _ e in
    let b = none_first _ _ _ a.1 in
    let c = none_first _ _ _ b.1 in
    record { head = unless_none _ a.0; counts = unless_none _ b.0; offsets = unless_none _ c.0 }

body_sound : (bs : List ℕ) → Headed bs → body_fault bs ≡ none → Sound bs
unfolding body_fault
body_sound bs h e =
    let a = none_first _ _ _ e in
    let b = none_first _ _ _ a.1 in
    let c = none_first _ _ _ b.1 in
    let d = none_first _ _ _ c.1 in
    let f = none_first _ _ _ d.1 in
    record { headed = h; names = a.0; safe = b.0; nodes = c.0; nested = d.0; shallow = f.0 }

no_fault : {bs : List ℕ} → Sound bs → image_fault bs ≡ none
unfolding body_fault first_found if_some
no_fault s = rw (headed s.headed, s.names, s.safe, s.nodes, s.nested, s.shallow)

pub sound : (bs : List ℕ) → (image_fault bs ≡ none) ↔ Sound bs
unfolding image_fault
sound bs = (λ e. let p = none_both _ _ e in body_sound bs (head_sound bs p.0) p.1, λ s. no_fault s)

-- ---- "an image has at most 59,936 bytes"

pub record Sizes (bs : List ℕ) : Type 0 where
  pub names : name_count bs ≤ most_names
  pub one_node : 1 ≤ node_count bs
  pub nodes : node_count bs ≤ most_nodes
  pub text : text_count bs ≤ most_text
  pub long : length bs ≡ total bs

pub sizes : {bs : List ℕ} → Headed bs → Sizes bs
unfolding counts_stand offsets_stand
sizes h =
    let c = h.counts in
    record {
      names = leb-true _ most_names (and_left _ _ (and_left _ _ (and_left _ _ c)));
      one_node = leb-true 1 _ (and_right _ _ (and_left _ _ (and_left _ _ c)));
      nodes = leb-true _ most_nodes (and_right _ _ (and_left _ _ c));
      text = leb-true _ most_text (and_right _ _ c);
      long = eqb-true _ _ (and_right _ _ h.offsets);
    }

pub image_length : {bs : List ℕ} → Headed bs → length bs ≤ 59936
unfolding total texts_from nodes_from
image_length h = omega (arith, sizes h)

-- ---- the codes, and "place 0 where none is told"

pub record Told (f : Fault) : Type 0 where
  pub above : 1 ≤ f.code
  pub below : f.code ≤ 8
  pub nowhere : f.code < 4 → f.place ≡ 0

Tells : Option Fault → Type 0
Tells none = Unit {0}
Tells (some f) = Told f

none_tells : Tells (first_found [])
unfolding first_found Tells
none_tells = tt

found_tells : (c : ℕ) (o : Option ℕ) (cs : List (ℕ × Option ℕ)) → ((i : ℕ) → o ≡ some i → Told (fault c i)) → Tells (first_found cs)
    → Tells (first_found ((c, o) ∷ cs))
unfolding first_found if_some Tells
found_tells c none cs h t = t
found_tells c (some i) cs h t = h i refl

late : (c i : ℕ) → 4 ≤ c → c ≤ 8 → Told (fault c i)
late c i l u = record { above = omega arith; below = u; nowhere = λ h. absurd (omega arith) }

early : (c : ℕ) (b : Bool) → 1 ≤ c → c ≤ 8 → (i : ℕ) → unless b ≡ some i → Told (fault c i)
unfolding unless test◌then◌else◌
early c true l u i e = absurd (none-ne-some i e)
early c false l u i e = record { above = l; below = u; nowhere = λ h. sym (some-injective 0 i e) }

head_tells : (bs : List ℕ) → Tells (head_fault bs)
unfolding head_fault
head_tells bs =
    found_tells 1 _ _ (early 1 _ (omega arith) (omega arith))
    (found_tells 2 _ _ (early 2 _ (omega arith) (omega arith)) (found_tells 3 _ _ (early 3 _ (omega arith) (omega arith)) none_tells))

body_tells : (bs : List ℕ) → Tells (body_fault bs)
unfolding body_fault
body_tells bs =
    found_tells 4 _ _ (λ i e. late 4 i (omega arith) (omega arith))
    (found_tells 5 _ _ (λ i e. late 5 i (omega arith) (omega arith))
    (found_tells 6 _ _ (λ i e. late 6 i (omega arith) (omega arith))
    (found_tells 7 _ _ (λ i e. late 7 i (omega arith) (omega arith)) (found_tells 8 _ _ (λ i e. late 8 i (omega arith) (omega arith)) none_tells))))

either_tells : (o p : Option Fault) → Tells o → Tells p → Tells (if_some o some p)
unfolding if_some Tells
either_tells none p s t = t
either_tells (some f) p s t = s

tells_some : (o : Option Fault) (f : Fault) → Tells o → o ≡ some f → Told f
unfolding Tells
tells_some none f t e = absurd (none-ne-some f e)
tells_some (some g) f t e = rw (← some-injective g f e) t

pub fault_told : (bs : List ℕ) (f : Fault) → image_fault bs ≡ some f → Told f
unfolding image_fault
fault_told bs f e = tells_some _ f (either_tells _ _ (head_tells bs) (body_tells bs)) e

-- ---- 14, after all of them

pub fault_early : (bs : List ℕ) (f : Fault) → image_fault bs ≡ some f → check_fault bs ≡ some f
unfolding check_fault if_some
fault_early bs f e = rw e

pub fault_14 : {bs : List ℕ} {i : ℕ} → Sound bs → first_tree_set bs ≡ some i → check_fault bs ≡ some (fault 14 i)
unfolding check_fault first_found if_some
fault_14 s e = rw (no_fault s, e)

pub no_check_fault : {bs : List ℕ} → Sound bs → first_tree_set bs ≡ none → check_fault bs ≡ none
unfolding check_fault first_found if_some
no_check_fault s e = rw (no_fault s, e)

-- an image that is walked
pub walks : (bs : List ℕ) → (check_fault bs ≡ none) ↔ (Sound bs × (first_tree_set bs ≡ none))
unfolding check_fault
walks bs = (
  λ e. let p = none_both _ _ e in ((sound bs).0 p.0, (none_first _ _ _ p.1).0),
  λ s. no_check_fault s.0 s.1,
)

-- what is found is one of 1 to 8, or 14 in an image that has none of these
pub check_found : (bs : List ℕ) (f : Fault) → check_fault bs ≡ some f
    → (image_fault bs ≡ some f) ⊎ ((f.code ≡ 14) × Sound bs × (first_tree_set bs ≡ some f.place))
check_found bs f e = by (image_fault bs) (first_tree_set bs) refl refl
  where
    by : (o : Option Fault) (p : Option ℕ) → image_fault bs ≡ o → first_tree_set bs ≡ p
        → (image_fault bs ≡ some f) ⊎ ((f.code ≡ 14) × Sound bs × (first_tree_set bs ≡ some f.place))
    by (some g) p i t = inl (i ∙ sym (fault_early bs g i) ∙ e)
    by none none i t = absurd (none-ne-some f (sym (no_check_fault ((sound bs).0 i) t) ∙ e))
    by none (some m) i t =
        let g = some-injective _ _ (sym (fault_14 ((sound bs).0 i) t) ∙ e) in
        inr (ap (λ (h : Fault). h.code) (sym g), (sound bs).0 i, t ∙ ap (λ (h : Fault). some h.place) g)

pub record Early (f : Fault) : Type 0 where
  pub above : 1 ≤ f.code
  pub below : (f.code ≤ 8) ⊎ (f.code ≡ 14)
  pub nowhere : f.code < 4 → f.place ≡ 0

pub check_told : (bs : List ℕ) (f : Fault) → check_fault bs ≡ some f → Early f
check_told bs f e =
    ⊎_elim (λ i. let t = fault_told bs f i in record { above = t.above; below = inl t.below; nowhere = t.nowhere })
    (λ r. record { above = omega (arith, r.0); below = inr r.0; nowhere = λ l. absurd (omega (arith, l, r.0)) })
    (check_found bs f e)

-- no typing code
pub early_below : {f : Fault} → Early f → f.code < 20
early_below t = ⊎_elim (λ l. omega arith) (λ l. omega arith) t.below
