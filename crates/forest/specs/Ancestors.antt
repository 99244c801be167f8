-- Laws of ancestors, on which the laws of layouts rest.
--     above_in, above_parent         an ancestor of y is y or one of its parent; and a parent below a root is below it too
--     roots_one, above_le            a node is below one root, and not before it
--     some_none, some_same           an option is one thing
use Rattle.std.proofs.Common.{◌≡◌, ℕ, ◌≤◌, ◌⊎◌, Some, None, Option, sym, ap, ◌∙◌, subst, inl, inr, arith}
use Rattle.forest.specs.Climb.{Above, top, via, Down}

pub above_in : (par : ℕ → Option ℕ) (r : ℕ) {y : ℕ} → Above par r y → (y ≡ r) ⊎ ((q : ℕ) × (par y ≡ Some q) × Above par r q)
above_in par r (top y e) = inl e
above_in par r (via y q e a) = inr (q, e, a)

pub some_none : (o : Option ℕ) (q : ℕ) → o ≡ Some q → o ≡ None → ⊥
some_none o q e f = let c : ◌≡◌ {A = ℕ} 0 1 = cc in omega arith

some_same : (o : Option ℕ) (p q : ℕ) → o ≡ Some p → o ≡ Some q → p ≡ q
some_same o p q e f = cc

-- of a node below the root r, the parent is too
pub above_parent : (par : ℕ → Option ℕ) (r x q : ℕ) → par r ≡ None → par x ≡ Some q → Above par r x → Above par r q
above_parent par r x q o e a = elim (above_in par r a) [
  | inl i ↦ absurd (some_none (par r) q (ap par (sym i) ∙ e) o)
  | inr (m, i, b) ↦ subst (Above par r) (some_same (par x) m q i e) b
]

-- a node is below one root
pub roots_one : (par : ℕ → Option ℕ) (r q : ℕ) → par r ≡ None → par q ≡ None → {z : ℕ} → Above par r z → Above par q z → r ≡ q
roots_one par r q o u (top z e) b = elim (above_in par q b) [
  | inl i ↦ sym e ∙ i
  | inr (m, i, c) ↦ absurd (some_none (par z) m i (ap par e ∙ o))
]
roots_one par r q o u (via z m e a) b = roots_one par r q o u a (above_parent par q z m u e b)

-- and not before it
pub above_le : (par : ℕ → Option ℕ) (N : ℕ) → Down par N → (r : ℕ) {z : ℕ} → Above par r z → r ≤ z
above_le par N d r (top z e) = omega arith
above_le par N d r (via z q e a) = omega (arith, above_le par N d r a, (d z q e).0)
