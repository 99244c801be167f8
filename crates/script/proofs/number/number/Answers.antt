use Rattle.std.proofs.Common.{◌≡◌, ℕ, ◌∷◌, rules}
use Rattle.script.specs.Spelling.{Number}
use Rattle.script.proofs.Numerals.{no_next}
use Rattle.script.proofs.number.number.Goals as goal

pub returns-in_err-value : goal.returns-in_err-value
returns-in_err-value c =
    let s = c.args.s.now in
    let tail = c.in_ok-tail.tail.now in
    let d = c.digit_count.ensures in
    let none : (n : ℕ) → Number c.split_at.result.0.now n → ⊥ = c.in_err-value.ensures in
    let cut : s ≡ 32 ∷ tail = search rules in
    rw c.from_residual-in_err-value.ensures (no_next s tail c.digit_count.result cut d.all d.past (rw c.split_at.ensures.front at none))
