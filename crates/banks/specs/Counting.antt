-- Functions on numbers as tables, and sums over them.
--     put f i x            f, but x at i
--     one i j              1 where i is j, else 0
--     sum f n              f 0 + .. + f (n - 1)
use Rattle.std.specs.Prelude.{ℕ, zero, suc, ◌+◌, cond, ◌==◌}

abbrev pub put : {A : Type 0} → (ℕ → A) → ℕ → A → ℕ → A
put f i x j = cond (i == j) x (f j)

unfoldable pub one : ℕ → ℕ → ℕ
one i j = cond (i == j) 1 0

unfoldable pub sum : (ℕ → ℕ) → ℕ → ℕ
sum f zero = 0
sum f (suc n) = f n + sum f n
