-- Tables by put, and sums over them.
use Rattle.std.proofs.Common.{◌≡◌, ℕ, zero, suc, ◌+◌, ◌*◌, ◌<◌, ◌≤◌, Bool, true, false, cond, eqb, ◌⊎◌, List, length, get_or, set, sym, refl, ap, ◌∙◌, inl, inr, one-mul, zero-mul, arith, get_or-set_other, get_or-set_same}
use mathlib.Core.Path.{fun_ext}
use Rattle.std.proofs.lemmas.Bool.{eq-eqb, ne_eqb, cond-true, cond-false, cases_eq, cases_lt}
use Rattle.banks.specs.Counting.{put, one, sum}

pub false_true : false ≡ true → ⊥
false_true e = let z : ◌≡◌ {A = ℕ} 0 1 = ap (λ (b : Bool). cond b 1 0) e in omega arith

pub true_false : true ≡ false → ⊥
true_false e = false_true (sym e)

pub never : {A : Type 0} → ◌≡◌ {A = ℕ} 0 1 → A
never z = let n : ⊥ = omega arith in absurd n

pub one_same : (i j : ℕ) → i ≡ j → one i j ≡ 1
unfolding one
one_same i j e = cond-true (eqb i j) 1 0 (eq-eqb i j e)

pub one_other : (i j : ℕ) → (i ≡ j → ⊥) → one i j ≡ 0
unfolding one
one_other i j n = cond-false (eqb i j) 1 0 (ne_eqb i j n)

pub one_times : (i j n : ℕ) → i ≡ j → one i j * n ≡ n
one_times i j n e = rw (one_same i j e, one-mul)

pub one_gone : (i j n : ℕ) → (i ≡ j → ⊥) → one i j * n ≡ 0
one_gone i j n e = rw (one_other i j e, zero-mul)

pub one_cases : (i j : ℕ) → (one i j ≡ 0) ⊎ ((one i j ≡ 1) × (i ≡ j))
one_cases i j = elim (cases_eq i j) [ inl e ↦ inr (one_same i j e, e) | inr n ↦ inl (one_other i j n) ]

pub one_le : (i j : ℕ) → one i j ≤ 1
one_le i j = elim (one_cases i j) [ inl e ↦ omega arith | inr e ↦ omega (arith, e.0) ]

pub put_same : {A : Type 0} (f : ℕ → A) (i : ℕ) (x : A) (j : ℕ) → i ≡ j → put f i x j ≡ x
put_same f i x j e = cond-true (eqb i j) x (f j) (eq-eqb i j e)

pub put_other : {A : Type 0} (f : ℕ → A) (i : ℕ) (x : A) (j : ℕ) → (i ≡ j → ⊥) → put f i x j ≡ f j
put_other f i x j n = cond-false (eqb i j) x (f j) (ne_eqb i j n)

-- a table g that is f but at i, where it is x
pub put_by : {A : Type 0} (f g : ℕ → A) (i : ℕ) (x : A) → g i ≡ x → ((j : ℕ) → (i ≡ j → ⊥) → g j ≡ f j) → g ≡ put f i x
put_by {A} f g i x here there = fun_ext {f = g} {g = put f i x} (λ j. elim (cases_eq i j) [
  | inl e ↦ ap g (sym e) ∙ here ∙ sym (put_same f i x j e)
  | inr n ↦ there j n ∙ sym (put_other f i x j n)
])

-- what is written into a list
pub at_set : {A : Type 0} (xs : List A) (i : ℕ) (x d : A) → i < length xs → get_or (set xs i x) i d ≡ x
at_set xs i x d l = get_or-set_same xs i x d l

pub but_set : {A : Type 0} (xs : List A) (i : ℕ) (x d : A) (j : ℕ) → (i ≡ j → ⊥) → get_or (set xs i x) j d ≡ get_or xs j d
but_set xs i x d j n = get_or-set_other xs i j x d (λ e. n (sym e))

-- sums of functions that agree, and that agree but at i
pub sum_same : (f g : ℕ → ℕ) (n : ℕ) → ((k : ℕ) → k < n → f k ≡ g k) → sum f n ≡ sum g n
unfolding sum
sum_same f g zero h = refl
sum_same f g (suc n) h =
    let ih : sum f n ≡ sum g n = sum_same f g n (λ k l. h k (omega arith)) in
    let here : f n ≡ g n = h n (omega arith) in
    omega arith

pub sum_but : (f g : ℕ → ℕ) (i n : ℕ) → i < n → ((k : ℕ) → (i ≡ k → ⊥) → f k ≡ g k) → sum f n + g i ≡ sum g n + f i
unfolding sum
sum_but f g i zero l h = omega arith
sum_but f g i (suc n) l h = elim (cases_eq i n) [
  | inl e ↦
      let rest : sum f n ≡ sum g n = sum_same f g n (λ k m. h k (λ (q : i ≡ k). omega arith)) in
      let a : f i ≡ f n = ap f e in
      let b : g i ≡ g n = ap g e in
      omega arith
  | inr d ↦
      let ih : sum f n + g i ≡ sum g n + f i = sum_but f g i n (omega arith) h in
      let here : f n ≡ g n = h n d in
      omega arith
]

-- a part is at most the sum
pub part_le : (f : ℕ → ℕ) (i n : ℕ) → i < n → f i ≤ sum f n
unfolding sum
part_le f i zero l = omega arith
part_le f i (suc n) l = elim (cases_eq i n) [
  | inl e ↦ let a : f i ≡ f n = ap f e in omega arith
  | inr d ↦ let ih : f i ≤ sum f n = part_le f i n (omega arith) in omega arith
]

-- a sum of nothing is 0
pub sum_none : (f : ℕ → ℕ) (n : ℕ) → ((k : ℕ) → k < n → f k ≡ 0) → sum f n ≡ 0
unfolding sum
sum_none f zero h = refl
sum_none f (suc n) h =
    let ih : sum f n ≡ 0 = sum_none f n (λ k l. h k (omega arith)) in
    let here : f n ≡ 0 = h n (omega arith) in
    omega arith

-- a sum of ones and nothings is at most how many there are
pub sum_few : (f : ℕ → ℕ) (n : ℕ) → ((k : ℕ) → f k ≤ 1) → sum f n ≤ n
unfolding sum
sum_few f zero h = omega arith
sum_few f (suc n) h =
    let ih : sum f n ≤ n = sum_few f n h in
    let here : f n ≤ 1 = h n in
    omega arith

-- and of twos at most twice that
pub sum_two : (f : ℕ → ℕ) (n : ℕ) → ((k : ℕ) → f k ≤ 2) → sum f n ≤ 2 * n
unfolding sum
sum_two f zero h = omega arith
sum_two f (suc n) h = let ih : sum f n ≤ 2 * n = sum_two f n h in omega (arith, h n)

-- ones that stand below u are at most u
pub sum_cut : (f : ℕ → ℕ) (u n : ℕ) → ((k : ℕ) → f k ≤ 1) → ((k : ℕ) → u ≤ k → f k ≡ 0) → sum f n ≤ u
unfolding sum
sum_cut f u zero h z = omega arith
sum_cut f u (suc n) h z =
    let ih : sum f n ≤ u = sum_cut f u n h z in
    let few : sum f n ≤ n = sum_few f n h in
    elim (cases_lt n u) [ inl l ↦ omega (arith, h n) | inr l ↦ omega (arith, z n l) ]

-- sums of functions of which one is below the other, and strictly at i
pub sum_le : (f g : ℕ → ℕ) (n : ℕ) → ((k : ℕ) → f k ≤ g k) → sum f n ≤ sum g n
unfolding sum
sum_le f g zero h = omega arith
sum_le f g (suc n) h =
    let ih : sum f n ≤ sum g n = sum_le f g n h in
    let here : f n ≤ g n = h n in
    omega arith

pub sum_lt : (f g : ℕ → ℕ) (i n : ℕ) → i < n → ((k : ℕ) → f k ≤ g k) → f i < g i → sum f n < sum g n
unfolding sum
sum_lt f g i zero l h s = omega arith
sum_lt f g i (suc n) l h s = elim (cases_eq i n) [
  | inl e ↦
      let a : f i ≡ f n = ap f e in
      let b : g i ≡ g n = ap g e in
      let rest : sum f n ≤ sum g n = sum_le f g n h in
      omega arith
  | inr d ↦
      let ih : sum f n < sum g n = sum_lt f g i n (omega arith) h s in
      let here : f n ≤ g n = h n in
      omega arith
]

-- a sum that is not 0 has a part that is not
pub sum_some : (f : ℕ → ℕ) (n : ℕ) → 1 ≤ sum f n → (k : ℕ) × (k < n) × (1 ≤ f k)
unfolding sum
sum_some f zero h = let z : ⊥ = omega arith in absurd z
sum_some f (suc n) h = elim (cases_lt 0 (f n)) [
  | inl l ↦ (n, omega arith, l)
  | inr l ↦ (let (k, i, j) = sum_some f n (omega arith) in (k, omega (arith, i), j))
]

-- what is there, put back
pub put_back : {A : Type 0} (f : ℕ → A) (i : ℕ) → put f i (f i) ≡ f
put_back f i = sym (put_by f f i (f i) refl (λ j n. refl))
