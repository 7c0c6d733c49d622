-- What is delivered is the message: a format string and what is put in are what the code says.
use mathlib.Core.Path.{◌≡◌, refl, sym, ap, ◌∙◌}
use mathlib.Core.List.{List, [], ◌∷◌, map}
use Prim.Native.Nat.{ℕ, zero, suc, ◌+◌, ◌<◌, max}
use native.Mathlib.Omega.{arith}
use native.Mathlib.Decide.{ℕ_discrete}
use borrow.Author.Tests.{eq-eqb, ne_eqb}
use lib.ListN.{length, length-map}
use Rattle.meaning.specs.Base.{test◌then◌else◌, bytes, decimal}
use Rattle.meaning.specs.Answer.{overlaid}
use Rattle.meaning.specs.Image.{names_of}
use Rattle.meaning.specs.Message.{Piece as Named, refusal, said, fill, template, message}
use Rattle.meaning.specs.Types.{text}
use Rattle.types.specs.Table.{Tab, denote, Wf}
use Rattle.rules.specs.Outcome.{types_named, pieces}
use Rattle.types.proofs.Parts.{type_is}
use Rattle.types.proofs.Readers.{known}
use Rattle.message.specs.Texts.{AllKnown}
use Rattle.message.specs.Pieces.{one, meant, Stands, Says, nth, Ready, after, filled, gaps, put_in}
use Rattle.message.specs.Told.{told, laid_out, Tells}
use Rattle.message.specs.declared.Piece.{Piece}
use Rattle.message.specs.declared.Piece.TheVariants.{Nothing, OfType, OfNumber}

-- a message does not look at the refusal's node
pub any_node : (code n m : ℕ) (ps : List Named) → message (refusal code n ps) ≡ message (refusal code m ps)
unfolding message
any_node code n m ps = refl

-- ---- a format string with as many gaps as there are pieces

-- what the pieces say, in order
unfoldable pub Spoken : (ℕ → List ℕ) → ℕ → List (List ℕ) → Type 0
Spoken f k [] = Unit {0}
Spoken f k (x ∷ xs) = (f k ≡ x) × Spoken f (k + 1) xs

pub fill_is : (T : List ℕ) (k : ℕ) (ps : List Named) (f : ℕ → List ℕ) → gaps T ≡ length ps → Spoken f k (map said ps) → fill T ps ≡ filled T k f
unfolding gaps fill filled Spoken one after test◌then◌else◌
fill_is [] k ps f g s = refl
fill_is (c ∷ cs) k [] f g s =
    elim (ℕ_discrete c 95) [
      | yes e ↦ absurd (omega (arith, rw (eq-eqb c 95 e) at g))
      | no e ↦ rw (ne_eqb c 95 e) (ap (λ (r : List ℕ). c ∷ r) (fill_is cs k [] f (rw (ne_eqb c 95 e) at g) s))
    ]
fill_is (c ∷ cs) k (p ∷ ps) f g s =
    elim (ℕ_discrete c 95) [
      | yes e ↦
          let fewer : gaps cs ≡ length ps = omega (arith, rw (eq-eqb c 95 e) at g) in
          rw (eq-eqb c 95 e, s.0, fill_is cs (k + 1) ps f fewer s.1)
      | no e ↦ rw (ne_eqb c 95 e) (ap (λ (r : List ℕ). c ∷ r) (fill_is cs k (p ∷ ps) f (rw (ne_eqb c 95 e) at g) s))
    ]

-- the message of a code is its format string with xs put in
pub record Form (bs : List ℕ) (t : Tab) (code a b : ℕ) (xs : List (List ℕ)) : Type 0 where
  pub names : List Named
  pub says : message (refusal code 0 (pieces (names_of bs) t code a b)) ≡ fill (bytes (template code)) names
  pub many : gaps (bytes (template code)) ≡ length names
  pub texts : map said names ≡ xs

pub form_as : {bs : List ℕ} {t : Tab} {c code a b : ℕ} {xs : List (List ℕ)} → code ≡ c → Form bs t c a b xs → Form bs t code a b xs
form_as e f = rw e f

-- n numbers and the pieces are what the code's format string takes
pub record Given (bs cs : List ℕ) (n : ℕ) (ps : List Piece) (xs : List (List ℕ)) : Type 0 where
  pub ready : Ready bs cs n ps
  pub many : length ps ≡ length xs
  pub says : Spoken (λ k. meant bs cs (nth ps k)) 0 xs

module _ {bs : List ℕ} {t : Tab} {code a b n : ℕ} {ps : List Piece} {xs : List (List ℕ)} (f : Form bs t code a b xs) (g : Given bs t.cells n ps xs) where
  -- the format string has as many gaps as there are pieces
  pub given_many : gaps (bytes (template code)) ≡ length ps
  given_many = f.many ∙ sym (length-map f.names said) ∙ ap length f.texts ∙ sym g.many

  says_so : message (refusal code 0 (pieces (names_of bs) t code a b)) ≡ put_in bs t.cells ps (bytes (template code))
  unfolding put_in
  says_so = f.says ∙ fill_is (bytes (template code)) 0 f.names _ f.many (rw f.texts g.says)

  -- what is delivered is what is told
  pub delivered : (d : List ℕ) {e : List ℕ} {r : ℕ} → r ≡ length (laid_out bs t.cells ps (bytes (template code)) d) → e ≡ overlaid (laid_out bs t.cells ps (bytes (template code)) d) d
      → (r ≡ length (told bs t code a b (length d))) × (e ≡ overlaid (told bs t code a b (length d)) d)
  unfolding told
  delivered d v w = rw says_so (v, w)

-- ---- what is put in

none_known : (cs : List ℕ) → AllKnown cs 0
none_known cs = record { most = omega arith; each = λ i h. absurd (omega arith) }

-- all numbers up to one of the table
all_known : {t : Tab} (w : Wf t) (i : ℕ) → i < t.n → AllKnown t.cells (i + 1)
all_known {t} w i h = record {
  most = omega (arith, w.room, w.most);
  each = λ j l. known w j (omega arith);
}

module _ {t : Tab} {code a b : ℕ} (k : Tells t code a b) where
  stands_one : (bs : List ℕ) (j : ℕ) → Stands bs (a + 1) (nth (OfType a ∷ []) j)
  unfolding Stands nth
  stands_one bs zero = omega arith
  stands_one bs (suc j) = tt

  pub one_given : (bs : List ℕ) → types_named code ≡ 1 → Given bs t.cells (a + 1) (OfType a ∷ []) (text (denote t a) ∷ [])
  unfolding Spoken meant nth
  one_given bs h = record {
    ready = record { each = stands_one bs; known = all_known k.wf a (k.first (omega arith)) };
    many = refl;
    says = (ap text (type_is t t.cells refl a (k.first (omega arith))), tt);
  }

  stands_two : (bs : List ℕ) (j : ℕ) → Stands bs (max a b + 1) (nth (OfType a ∷ OfType b ∷ []) j)
  unfolding Stands nth
  stands_two bs zero = omega arith
  stands_two bs (suc zero) = omega arith
  stands_two bs (suc (suc j)) = tt

  pub two_given : (bs : List ℕ) → types_named code ≡ 2 → Given bs t.cells (max a b + 1) (OfType a ∷ OfType b ∷ []) (text (denote t a) ∷ text (denote t b) ∷ [])
  unfolding Spoken meant nth
  two_given bs h =
      let first = k.first (omega arith) in
      let second = k.second (omega arith) in
      record {
        ready = record { each = stands_two bs; known = all_known k.wf (max a b) (omega arith) };
        many = refl;
        says = (ap text (type_is t t.cells refl a first), (ap text (type_is t t.cells refl b second), tt));
      }

-- pieces that name no type
none_ready : (bs cs : List ℕ) (ps : List Piece) → ((j : ℕ) → Stands bs 0 (nth ps j)) → Ready bs cs 0 ps
none_ready bs cs ps s = record { each = s; known = none_known cs }

pub given_none : (bs cs : List ℕ) → Given bs cs 0 [] []
unfolding Stands nth Spoken
given_none bs cs = record { ready = none_ready bs cs [] (λ j. tt); many = refl; says = tt }

module _ {bs x : List ℕ} {p : Piece} (u : Says bs x p) (cs : List ℕ) where
  stands_first : (j : ℕ) → Stands bs 0 (nth (p ∷ []) j)
  unfolding Stands nth
  stands_first zero = u.stands 0
  stands_first (suc j) = tt

  pub given_one : Given bs cs 0 (p ∷ []) (x ∷ [])
  unfolding Spoken nth
  given_one = record { ready = none_ready bs cs _ stands_first; many = refl; says = (u.means cs, tt) }

  module _ {y : List ℕ} {q : Piece} (v : Says bs y q) where
    stands_both : (j : ℕ) → Stands bs 0 (nth (p ∷ q ∷ []) j)
    unfolding Stands nth
    stands_both zero = u.stands 0
    stands_both (suc zero) = v.stands 0
    stands_both (suc (suc j)) = tt

    pub given_two : Given bs cs 0 (p ∷ q ∷ []) (x ∷ y ∷ [])
    unfolding Spoken nth
    given_two = record { ready = none_ready bs cs _ stands_both; many = refl; says = (u.means cs, (v.means cs, tt)) }

    module _ {z : List ℕ} {r : Piece} (w : Says bs z r) where
      stands_all : (j : ℕ) → Stands bs 0 (nth (p ∷ q ∷ r ∷ []) j)
      unfolding Stands nth
      stands_all zero = u.stands 0
      stands_all (suc zero) = v.stands 0
      stands_all (suc (suc zero)) = w.stands 0
      stands_all (suc (suc (suc j))) = tt

      pub given_three : Given bs cs 0 (p ∷ q ∷ r ∷ []) (x ∷ y ∷ z ∷ [])
      unfolding Spoken nth
      given_three = record { ready = none_ready bs cs _ stands_all; many = refl; says = (u.means cs, (v.means cs, (w.means cs, tt))) }

pub says_nothing : (bs : List ℕ) → Says bs [] Nothing
unfolding Stands meant
says_nothing bs = record { stands = λ n. tt; means = λ cs. refl }

pub says_number : (bs : List ℕ) (m : ℕ) → Says bs (decimal m) (OfNumber m)
unfolding Stands meant
says_number bs m = record { stands = λ n. tt; means = λ cs. refl }
