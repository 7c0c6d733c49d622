-- Names that are no builtins are safe. Assumes nothing.
use mathlib.Core.Path.{◌≡◌, refl, sym, ◌∙◌}
use mathlib.Core.Bool.{Bool, true, false, false≢true}
use Prim.Native.Nat.{ℕ}
use lib.Dec.{eqb, leb}
use borrow.Author.Tests.{ne_eqb}
use Rattle.meaning.specs.Base.{◌and◌, ◌or◌, choose, test◌then◌else◌}
use Rattle.meaning.specs.Image.{NameRecord, Name, plain, takes, role_of, allows, safe}
use Rattle.meaning.proofs.Choices.{and_false}

allows_none : (r : NameRecord) (k : ℕ) → (r.role ≡ 1 → ⊥) → (r.role ≡ 2 → ⊥) → (r.role ≡ 3 → ⊥) → allows (role_of r) k ≡ false
unfolding role_of allows choose test◌then◌else◌
allows_none r k a b c = rw (ne_eqb r.role 1 a, ne_eqb r.role 2 b, ne_eqb r.role 3 c) (by (eqb r.role 4))
  where
    by : (t : Bool) → allows (test t then takes r.p else plain) k ≡ false
    by true = refl
    by false = refl

or_false : (t : Bool) → (t or false) ≡ t
unfolding ◌or◌
or_false true = refl
or_false false = refl

-- only the roles 1 to 3 are builtins, and only builtins are unsafe
pub no_builtin : (w : Name) (r : NameRecord) → role_of r ≡ w.role → (leb 1 r.role and leb r.role 3) ≡ false → safe w ≡ true
unfolding safe ◌and◌
no_builtin w r p e =
    let wrong : (n : ℕ) → (leb 1 n and leb n 3) ≡ true → r.role ≡ n → ⊥ = λ n t q. false≢true (sym (rw q at e) ∙ t) in
    let never : (k : ℕ) → allows w.role k ≡ false = λ k. rw p at (allows_none r k (wrong 1 refl) (wrong 2 refl) (wrong 3 refl)) in
    rw (never 0, never 1, or_false, and_false, and_false)
