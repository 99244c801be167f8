-- A list with one place set, read by a field; facts from truncated ones.
use Rattle.std.proofs.Common.{◌≡◌, ℕ, ◌<◌, ◌≤◌, Bool, List, length, get_or, set, sym, refl, ap, ◌∙◌, subst, inl, inr, arith}
use mathlib.Core.HLevel.{Discrete, hedberg}
use mathlib.Core.Logic.{∥∥₁_elim, ∥∥₁_prop}
use mathlib.Core.Bool.{Bool-set}
use native.Mathlib.Bridge.{le_prop}
use native.Mathlib.Nat.{ℕ_set}
use Rattle.std.proofs.lemmas.Bool.{cases_eq}
use Rattle.banks.specs.Counting.{put}
use Rattle.banks.specs.Meaning.{Doing, idle, arriving, departing}
use Rattle.forest.proofs.Counting.{put_same, put_other, at_set, but_set}

pub field_put : {A B : Type 0} (f : A → B) (l : List A) (i : ℕ) (v d : A) → i < length l → (z : ℕ)
    → f (get_or (set l i v) z d) ≡ put (λ z. f (get_or l z d)) i (f v) z
field_put f l i v d h z = elim (cases_eq i z) [
  | inl e ↦ ap f (subst (λ j. get_or (set l i v) j d ≡ v) e (at_set l i v d h)) ∙ sym (put_same (λ z. f (get_or l z d)) i (f v) z e)
  | inr n ↦ ap f (but_set l i v d z n) ∙ sym (put_other (λ z. f (get_or l z d)) i (f v) z n)
]

pub field_still : {A B : Type 0} (f : A → B) (l : List A) (i : ℕ) (v d : A) → i < length l → f v ≡ f (get_or l i d) → (z : ℕ)
    → f (get_or (set l i v) z d) ≡ f (get_or l z d)
field_still f l i v d h q z = elim (cases_eq i z) [
  | inl e ↦ subst (λ j. f (get_or (set l i v) j d) ≡ f (get_or l j d)) e (ap f (at_set l i v d h) ∙ q)
  | inr n ↦ ap f (but_set l i v d z n)
]

-- what holds of each place
pub all_set : {A : Type 0} (P : ℕ → A → Type 0) (l : List A) (i : ℕ) (v d : A) → i < length l → P i v → ((b : ℕ) → P b (get_or l b d))
    → (b : ℕ) → P b (get_or (set l i v) b d)
all_set P l i v d h p q b = elim (cases_eq i b) [
  | inl e ↦ subst (λ j. P j (get_or (set l i v) j d)) e (subst (P i) (sym (at_set l i v d h)) p)
  | inr n ↦ subst (P b) (sym (but_set l i v d b n)) (q b)
]

-- from a truncated fact: a bound, an equation of numbers or of flags, another truncated fact
pub le_from : {A : Type 0} (m n : ℕ) → ∥ A ∥₁ → (A → m ≤ n) → m ≤ n
le_from m n t f = ∥∥₁_elim t le_prop f

pub nat_from : {A : Type 0} (x y : ℕ) → ∥ A ∥₁ → (A → x ≡ y) → x ≡ y
nat_from x y t f = ∥∥₁_elim t (ℕ_set x y) f

pub bool_from : {A : Type 0} (x y : Bool) → ∥ A ∥₁ → (A → x ≡ y) → x ≡ y
bool_from x y t f = ∥∥₁_elim t (Bool-set x y) f

pub again : {A B : Type 0} → ∥ A ∥₁ → (A → B) → ∥ B ∥₁
again t f = ∥∥₁_elim t ∥∥₁_prop (λ x. ∣ f x ∣₁)

-- Doing is a set
discrete : Discrete Doing
discrete idle idle = yes refl
discrete idle (arriving t) = no (λ e. let z : ◌≡◌ {A = ℕ} 0 1 = cc in omega arith)
discrete idle (departing t) = no (λ e. let z : ◌≡◌ {A = ℕ} 0 1 = cc in omega arith)
discrete (arriving t) idle = no (λ e. let z : ◌≡◌ {A = ℕ} 0 1 = cc in omega arith)
discrete (arriving t) (arriving u) = elim (cases_eq t u) [ inl e ↦ yes (ap arriving e) | inr n ↦ no (λ (e : arriving t ≡ arriving u). n (cc)) ]
discrete (arriving t) (departing u) = no (λ e. let z : ◌≡◌ {A = ℕ} 0 1 = cc in omega arith)
discrete (departing t) idle = no (λ e. let z : ◌≡◌ {A = ℕ} 0 1 = cc in omega arith)
discrete (departing t) (arriving u) = no (λ e. let z : ◌≡◌ {A = ℕ} 0 1 = cc in omega arith)
discrete (departing t) (departing u) = elim (cases_eq t u) [ inl e ↦ yes (ap departing e) | inr n ↦ no (λ (e : departing t ≡ departing u). n (cc)) ]

pub doing_from : {A : Type 0} (x y : Doing) → ∥ A ∥₁ → (A → x ≡ y) → x ≡ y
doing_from x y t f = ∥∥₁_elim t (hedberg discrete x y) f
