-- A type spread over the targets of a Tuple.
use mathlib.Core.Path.{◌≡◌, refl, sym, ap, ◌∙◌}
use mathlib.Core.List.{List}
use mathlib.Core.Option.{none, some}
use mathlib.Core.Logic.{◌⊎◌, inl, inr, ⊎_elim}
use Prim.Native.Nat.{ℕ, ◌<◌}
use native.Mathlib.Omega.{arith}
use borrow.Author.Tests.{eq-eqb, ne_eqb}
use lib.ListN.{length, replicate, length-replicate, get_or-replicate}
use Rattle.meaning.specs.Base.{if_some, or_else, test◌then◌else◌, choose, base_open}
use Rattle.meaning.specs.Types.{Ty, unknown, kind, parts, part}
use Rattle.meaning.specs.Walk.{State, End, unpacked, unpack_into}
use Rattle.types.specs.Table.{Tab, capacity, Wf, Grown, denote}
use Rattle.types.specs.declared.Kind.{Kind}
use Rattle.types.specs.declared.Kind.TheVariants as kinds
use Rattle.types.specs.Kinds.{kind_number}
use Rattle.types.specs.Reading.{Known, KindOf, PartOf, PartsOf, HasPart, PartAt}
use Rattle.types.proofs.OfKind.{same_kind}
use Rattle.types.proofs.Laws.{unknown_number}
use Rattle.types.proofs.Parts.{parts_few}
use Rattle.types.proofs.Readers.{in_room}
use Rattle.rules.specs.Outcome.{types_named, pieces}
use Rattle.targets.specs.Spreading.{spread, Spreads, Unpacks, Sharing, Share}
use Rattle.targets.proofs.Endings.{named_none}

-- ---- by the kind

module _ (k : ℕ) (y : Ty) where
  unpacked_unknown : kind y ≡ 0 → unpacked k y ≡ some (replicate k unknown)
  unfolding unpacked choose test◌then◌else◌
  unpacked_unknown e = rw e

  unpacked_list : kind y ≡ 8 → unpacked k y ≡ some (replicate k (part 0 y))
  unfolding unpacked choose test◌then◌else◌
  unpacked_list e = rw e

  unpacked_tuple : kind y ≡ 10 → unpacked k y ≡ some (parts y)
  unfolding unpacked choose test◌then◌else◌
  unpacked_tuple e = rw e

  unpacked_none : (kind y ≡ 0 → ⊥) → (kind y ≡ 8 → ⊥) → (kind y ≡ 10 → ⊥) → unpacked k y ≡ none
  unfolding unpacked choose test◌then◌else◌
  unpacked_none a b c = rw (ne_eqb (kind y) 0 a, ne_eqb (kind y) 8 b, ne_eqb (kind y) 10 c)

  -- where it can be unpacked, the targets get as many types as they are
  into_spread : (ts : List Ty) → unpacked k y ≡ some ts → length ts ≡ k → (n : ℕ) (s : State) (go : List Ty → End)
      → unpack_into n k y s go ≡ go (spread k y)
  unfolding unpack_into spread if_some or_else test◌then◌else◌
  into_spread ts e l n s go = rw (e, eq-eqb (length ts) k l)

  spread_is : (ts : List Ty) → unpacked k y ≡ some ts → spread k y ≡ ts
  unfolding spread or_else
  spread_is ts e = rw e

pub spreads_into : {t : Tab} {i k : ℕ} → Spreads t i k → (n : ℕ) (s : State) (go : List Ty → End)
    → unpack_into n k (denote t i) s go ≡ go (spread k (denote t i))
spreads_into {t} {i} {k} p n s go =
    let y = denote t i in
    ⊎_elim (λ e. into_spread k y _ (unpacked_unknown k y e) (length-replicate k unknown) n s go)
    (λ q. ⊎_elim (λ e. into_spread k y _ (unpacked_list k y e) (length-replicate k (part 0 y)) n s go)
    (λ e. into_spread k y _ (unpacked_tuple k y e) (p.many e) n s go) q) p.kinds

pub spreads_grown : {t u : Tab} {i k : ℕ} → Grown t u → i < t.n → Spreads t i k → Spreads u i k
spreads_grown {i = i} g h p = record { kinds = rw (g.same i h) p.kinds; many = rw (g.same i h) p.many }

-- ---- the answers of `unpack`

names_26 : types_named 26 ≡ 0
unfolding types_named base_open
names_26 = refl

names_27 : types_named 27 ≡ 1
unfolding types_named base_open
names_27 = refl

pub known_count : {cs : List ℕ} {i m : ℕ} → Known cs i → PartsOf cs i m → m < 4294967296
known_count {i = i} h c = omega (arith, c.says h.table h.cells h.wf h.below, parts_few h.wf i h.below)

module _ {cs : List ℕ} {i : ℕ} {x : Kind} (k : ℕ) (told : KindOf cs i x) where
  kind_is : (t : Tab) → t.cells ≡ cs → Wf t → i < t.n → {c : Kind} → x ≡ c → kind (denote t i) ≡ kind_number c
  kind_is t e w b z = sym (told.says t e w b) ∙ ap kind_number z

  -- Unknown and List go into any number of targets
  pub unpacks_any : (x ≡ kinds.Unknown) ⊎ (x ≡ kinds.List) → Unpacks cs i k 0 0 0
  unpacks_any h = record {
    well = λ z t e w b. record {
      kinds = ⊎_elim (λ q. inl (kind_is t e w b q)) (λ q. inr (inl (kind_is t e w b q))) h;
      many = λ q. ⊎_elim (λ p. absurd (omega (arith, kind_is t e w b p, q))) (λ p. absurd (omega (arith, kind_is t e w b p, q))) h;
    };
    ill = λ z. absurd (z refl);
    named = λ t e w b M n l. named_none refl;
    typing = λ z. absurd (omega arith);
    alone = (λ z. absurd (omega arith), λ z. absurd (omega arith));
  }

  module _ {m : ℕ} (y : x ≡ kinds.Tuple) (counted : PartsOf cs i m) where
    many_is : (t : Tab) → t.cells ≡ cs → Wf t → i < t.n → m ≡ length (parts (denote t i))
    many_is t e w b = counted.says t e w b

    pub unpacks_tuple : m ≡ k → Unpacks cs i k 0 0 0
    unpacks_tuple h = record {
      well = λ z t e w b. record { kinds = inr (inr (kind_is t e w b y)); many = λ q. sym (many_is t e w b) ∙ h };
      ill = λ z. absurd (z refl);
      named = λ t e w b M n l. named_none refl;
      typing = λ z. absurd (omega arith);
      alone = (λ z. absurd (omega arith), λ z. absurd (omega arith));
    }

    pub unpacks_other : k < 4294967296 → m < 4294967296 → (m ≡ k → ⊥) → Unpacks cs i k 26 m k
    unfolding unpack_into if_some pieces types_named base_open
    unpacks_other hk hm h = record {
      well = λ z. absurd (omega arith);
      ill = λ z t e w b ws n s go.
          let l = many_is t e w b in
          rw (unpacked_tuple k (denote t i) (kind_is t e w b y), ← l, ne_eqb m k h);
      named = λ t e w b M n l. record {
        first = λ z. absurd (omega (arith, names_26));
        second = λ z. absurd (omega (arith, names_26));
        small = λ z q. (hm, hk);
        placed = λ z. l;
      };
      typing = λ z. absurd (omega arith);
      alone = (λ z. absurd (omega arith), λ z. absurd (omega arith));
    }

  pub unpacks_not : (x ≡ kinds.Unknown → ⊥) → (x ≡ kinds.List → ⊥) → (x ≡ kinds.Tuple → ⊥) → Unpacks cs i k 27 i 0
  unfolding unpack_into if_some pieces types_named base_open
  unpacks_not a b c = record {
    well = λ z. absurd (omega arith);
    ill = λ z t e w h ws n s go.
        let q = told.says t e w h in
        rw (unpacked_none k (denote t i) (λ p. a (same_kind x kinds.Unknown (q ∙ p))) (λ p. b (same_kind x kinds.List (q ∙ p)))
        (λ p. c (same_kind x kinds.Tuple (q ∙ p))));
    named = λ t e w h M n l. record {
      first = λ z. h;
      second = λ z. absurd (omega (arith, names_27));
      small = λ z q. absurd (omega (arith, names_27));
      placed = λ z. l;
    };
    typing = λ z. absurd (omega arith);
    alone = (λ z. absurd (omega arith), λ z. absurd (omega arith));
  }

-- ---- the answers of `part_for`

pub sharing_room : {cs : List ℕ} {i j : ℕ} → Sharing cs i j → i < capacity cs
sharing_room s = rw s.cells at (in_room s.wf _ s.below)

module _ {cs : List ℕ} {i j : ℕ} {x : Kind} (told : KindOf cs i x) where
  pub sharing_element : Sharing cs i j → x ≡ kinds.Tuple → HasPart cs i j
  sharing_element s z =
      let q : kind (denote s.table i) ≡ 10 = sym (told.says s.table s.cells s.wf s.below) ∙ ap kind_number z in
      record {
        known = record { table = s.table; cells = s.cells; wf = s.wf; below = s.below };
        within = rw (s.spreads.many q) s.within;
      }

  pub share_part : {r : ℕ} → x ≡ kinds.List → PartOf cs 0 i r → Share cs i j r
  share_part {r} z p = record {
    says = λ t k e w b s h.
        let q : kind (denote t i) ≡ 8 = sym (told.says t e w b) ∙ ap kind_number z in
        rw (spread_is k (denote t i) _ (unpacked_list k (denote t i) q), get_or-replicate k j (part 0 (denote t i)) unknown h) (p.says t e w b (λ c. omega arith));
  }

  pub share_element : {r : ℕ} → x ≡ kinds.Tuple → PartAt cs i j r → Share cs i j r
  unfolding part
  share_element {r} z p = record {
    says = λ t k e w b s h.
        let q : kind (denote t i) ≡ 10 = sym (told.says t e w b) ∙ ap kind_number z in
        rw (spread_is k (denote t i) _ (unpacked_tuple k (denote t i) q)) (p.says t e w b (rw (s.many q) h));
  }

  pub share_unknown : (x ≡ kinds.List → ⊥) → (x ≡ kinds.Tuple → ⊥) → Share cs i j 0
  share_unknown m n = record {
    says = λ t k e w b s h.
        let q = told.says t e w b in
        let no_list : (kind (denote t i) ≡ 8 → ⊥) = λ p. m (same_kind x kinds.List (q ∙ p)) in
        let no_tuple : (kind (denote t i) ≡ 10 → ⊥) = λ p. n (same_kind x kinds.Tuple (q ∙ p)) in
        let z : kind (denote t i) ≡ 0 = ⊎_elim (λ p. p) (λ c. ⊎_elim (λ p. absurd (no_list p)) (λ p. absurd (no_tuple p)) c) s.kinds in
        rw (spread_is k (denote t i) _ (unpacked_unknown k (denote t i) z), get_or-replicate k j unknown unknown h)
        (record { below = omega (arith, w.base); means = unknown_number w });
  }
