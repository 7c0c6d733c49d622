-- The kinds: what holds of each of the thirteen, and what a type of a kind has for its kind and its parts.
use mathlib.Core.Path.{◌≡◌, refl, sym, ap}
use Prim.Native.Nat.{ℕ, zero, suc, ◌≤◌, ◌<◌}
use native.Mathlib.Omega.{arith}
use Rattle.meaning.specs.Base.{choose, test◌then◌else◌}
use Rattle.meaning.specs.Types.{Ty, Tys, unknown, list, tuple, map_iter, filter_iter, kind, plain, parts, part}
use Rattle.types.specs.Table.{shaped}

-- a numeral cannot stand in a pattern: so the cases of a kind are written once, here
pub each_kind : (P : ℕ → Type 0) → P 0 → P 1 → P 2 → P 3 → P 4 → P 5 → P 6 → P 7 → P 8 → P 9 → P 10 → P 11 → P 12 → (k : ℕ) → k ≤ 12 → P k
each_kind P p0 p1 p2 p3 p4 p5 p6 p7 p8 p9 p10 p11 p12 zero h = p0
each_kind P p0 p1 p2 p3 p4 p5 p6 p7 p8 p9 p10 p11 p12 (suc zero) h = p1
each_kind P p0 p1 p2 p3 p4 p5 p6 p7 p8 p9 p10 p11 p12 (suc (suc zero)) h = p2
each_kind P p0 p1 p2 p3 p4 p5 p6 p7 p8 p9 p10 p11 p12 (suc (suc (suc zero))) h = p3
each_kind P p0 p1 p2 p3 p4 p5 p6 p7 p8 p9 p10 p11 p12 (suc (suc (suc (suc zero)))) h = p4
each_kind P p0 p1 p2 p3 p4 p5 p6 p7 p8 p9 p10 p11 p12 (suc (suc (suc (suc (suc zero))))) h = p5
each_kind P p0 p1 p2 p3 p4 p5 p6 p7 p8 p9 p10 p11 p12 (suc (suc (suc (suc (suc (suc zero)))))) h = p6
each_kind P p0 p1 p2 p3 p4 p5 p6 p7 p8 p9 p10 p11 p12 (suc (suc (suc (suc (suc (suc (suc zero))))))) h = p7
each_kind P p0 p1 p2 p3 p4 p5 p6 p7 p8 p9 p10 p11 p12 (suc (suc (suc (suc (suc (suc (suc (suc zero)))))))) h = p8
each_kind P p0 p1 p2 p3 p4 p5 p6 p7 p8 p9 p10 p11 p12 (suc (suc (suc (suc (suc (suc (suc (suc (suc zero))))))))) h = p9
each_kind P p0 p1 p2 p3 p4 p5 p6 p7 p8 p9 p10 p11 p12 (suc (suc (suc (suc (suc (suc (suc (suc (suc (suc zero)))))))))) h = p10
each_kind P p0 p1 p2 p3 p4 p5 p6 p7 p8 p9 p10 p11 p12 (suc (suc (suc (suc (suc (suc (suc (suc (suc (suc (suc zero))))))))))) h = p11
each_kind P p0 p1 p2 p3 p4 p5 p6 p7 p8 p9 p10 p11 p12 (suc (suc (suc (suc (suc (suc (suc (suc (suc (suc (suc (suc zero)))))))))))) h = p12
each_kind P p0 p1 p2 p3 p4 p5 p6 p7 p8 p9 p10 p11 p12 (suc (suc (suc (suc (suc (suc (suc (suc (suc (suc (suc (suc (suc k))))))))))))) h = absurd (omega arith)

module _ (a b : Ty) (ts : Tys) where
  pub shaped_kind : (k : ℕ) → k ≤ 12 → kind (shaped k a b ts) ≡ k
  unfolding shaped choose test◌then◌else◌ plain kind
  shaped_kind = each_kind (λ k. kind (shaped k a b ts) ≡ k) refl refl refl refl refl refl refl refl refl refl refl refl refl

  -- a plain type has no part, and its record has 0, which is Unknown, as `part` has
  pub shaped_first : (k : ℕ) → k ≤ 12 → (k ≡ 10 → ⊥) → (k < 8 → a ≡ unknown) → part 0 (shaped k a b ts) ≡ a
  unfolding shaped choose test◌then◌else◌ plain part parts
  shaped_first =
      each_kind (λ k. (k ≡ 10 → ⊥) → (k < 8 → a ≡ unknown) → part 0 (shaped k a b ts) ≡ a)
      (λ n u. sym (u (omega arith)))
      (λ n u. sym (u (omega arith)))
      (λ n u. sym (u (omega arith)))
      (λ n u. sym (u (omega arith)))
      (λ n u. sym (u (omega arith)))
      (λ n u. sym (u (omega arith)))
      (λ n u. sym (u (omega arith)))
      (λ n u. sym (u (omega arith)))
      (λ n u. refl)
      (λ n u. refl)
      (λ n u. absurd (n refl))
      (λ n u. refl)
      (λ n u. refl)

  pub shaped_second : (k : ℕ) → k ≤ 12 → (k ≡ 10 → ⊥) → ((k ≡ 9 → ⊥) → b ≡ unknown) → part 1 (shaped k a b ts) ≡ b
  unfolding shaped choose test◌then◌else◌ plain part parts
  shaped_second =
      each_kind (λ k. (k ≡ 10 → ⊥) → ((k ≡ 9 → ⊥) → b ≡ unknown) → part 1 (shaped k a b ts) ≡ b)
      (λ n u. sym (u (λ e. absurd (omega arith))))
      (λ n u. sym (u (λ e. absurd (omega arith))))
      (λ n u. sym (u (λ e. absurd (omega arith))))
      (λ n u. sym (u (λ e. absurd (omega arith))))
      (λ n u. sym (u (λ e. absurd (omega arith))))
      (λ n u. sym (u (λ e. absurd (omega arith))))
      (λ n u. sym (u (λ e. absurd (omega arith))))
      (λ n u. sym (u (λ e. absurd (omega arith))))
      (λ n u. sym (u (λ e. absurd (omega arith))))
      (λ n u. refl)
      (λ n u. absurd (n refl))
      (λ n u. sym (u (λ e. absurd (omega arith))))
      (λ n u. sym (u (λ e. absurd (omega arith))))

-- a type goes by its parts only if its kind has parts, and by its elements only if it is a Tuple
pub shaped_cong : {a b c d : Ty} {ts us : Tys} (k : ℕ) → k ≤ 12 → (8 ≤ k → (k ≡ 10 → ⊥) → a ≡ c) → (k ≡ 9 → b ≡ d) → (k ≡ 10 → ts ≡ us)
    → shaped k a b ts ≡ shaped k c d us
unfolding shaped choose test◌then◌else◌
shaped_cong {a} {b} {c} {d} {ts} {us} =
    each_kind (λ k. (8 ≤ k → (k ≡ 10 → ⊥) → a ≡ c) → (k ≡ 9 → b ≡ d) → (k ≡ 10 → ts ≡ us) → shaped k a b ts ≡ shaped k c d us)
    (λ p q e. refl)
    (λ p q e. refl)
    (λ p q e. refl)
    (λ p q e. refl)
    (λ p q e. refl)
    (λ p q e. refl)
    (λ p q e. refl)
    (λ p q e. refl)
    (λ p q e. ap list (p (omega arith) (λ z. absurd (omega arith))))
    (λ p q e. rw (p (omega arith) (λ z. absurd (omega arith)), q refl))
    (λ p q e. ap tuple (e refl))
    (λ p q e. ap map_iter (p (omega arith) (λ z. absurd (omega arith))))
    (λ p q e. ap filter_iter (p (omega arith) (λ z. absurd (omega arith))))
