use Rattle.std.proofs.Common.{◌≡◌, ℕ, false, List, [], ◌∷◌, length, Ok, Err, Result, refl, sym, subst, is_ok, MatchResult, rules}
use Rattle.std.proofs.lemmas.Result.{err_from_is_err_and}
use Rattle.script.specs.declared.fault.Fault.{Fault}
use Rattle.script.specs.declared.opening.Kind.{Kind}
use Rattle.script.specs.Spelling.{Numbers, kind_number, Names}
use Rattle.script.proofs.opening.bank_of.Goals as goal

-- what follows the letter is not one number
no_number : (s rest : List ℕ) (r : Result (List ℕ) Fault) (P : List ℕ → Type 0) (Q : Fault → Type 0) → s ≡ 98 ∷ rest
    → MatchResult r P (λ e. Q e × ((ns : List ℕ) → length ns ≡ 1 → Numbers rest ns → ⊥)) → is_ok r ≡ false → (k : Kind) → Names s k → ⊥
no_number s rest (Ok a) P Q cut h none k n = cc
no_number s rest (Err f) P Q cut h none k n =
    let there = n.1 in
    let tail : n.0 ≡ rest = cc in
    h.1 (kind_number k ∷ []) refl (subst (λ b. Numbers b (kind_number k ∷ [])) tail n.2)

pub returns-in_err-number : goal.returns-in_err-number
returns-in_err-number c =
    let p = err_from_is_err_and c.from_residual-in_err-number.result c.from_residual-in_err-number.ensures.1 in
    let s = c.args.s.now in
    let rest = c.in_ok-rest.rest.now in
    let cut : s ≡ 98 ∷ rest = search rules in
    rw (p.1, p.2) (search rules, no_number s rest c.numbers.result _ _ cut c.numbers.ensures (sym c.in_err-number.ensures.variant))
