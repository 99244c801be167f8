-- The call that a line spells. Assumes nothing.
use Rattle.std.proofs.Common.{◌≡◌, ℕ, ◌-◌, ◌<◌, cond, eqb, List, length, get_or, take, drop, IsErrAnd, Ok, Err, Result, sym, refl, ap, ◌∙◌, subst}
use Rattle.std.proofs.lemmas.Result.{err_from_is_err_and}
use Rattle.engine.specs.declared.call.Call.{Call}
use Rattle.engine.specs.declared.call.Call.TheVariants.{Make, Take, Signal, Turn}
use Rattle.script.specs.declared.fault.Fault.{Fault}
use Rattle.script.specs.declared.fault.Fault.TheVariants.{Unknown, Malformed, TooLong, Engine}
use Rattle.script.specs.Spelling.{Numbers, letter, numbered, Spelled, Parsed}
use Rattle.script.proofs.Counts.{numbers_once}
use Rattle.script.proofs.Lists.{headed}

-- a call by its letter and its numbers
abbrev arity : ℕ → ℕ
arity c = cond (eqb c 109) 0 (cond (eqb c 103) 2 1)

abbrev called : ℕ → List ℕ → Call
called c ns = cond (eqb c 109) Make (cond (eqb c 107) (Take (get_or ns 0 0)) (cond (eqb c 103) (Signal (get_or ns 0 0) (get_or ns 1 0)) (Turn (get_or ns 0 0))))

long : (c : Call) → length (numbered c) ≡ arity (letter c)
long Make = refl
long (Take task) = refl
long (Signal agent task) = refl
long (Turn agent) = refl

back : (c : Call) → called (letter c) (numbered c) ≡ c
back Make = refl
back (Take task) = refl
back (Signal agent task) = refl
back (Turn agent) = refl

-- the first byte of s is the letter of the call c, and the others are not its numbers
pub malformed : (s : List ℕ) (c : Call) (e : Fault) (r : Result Call Fault) → 0 < length s → get_or s 0 0 ≡ letter c → IsErrAnd r (λ y. y ≡ e)
    → (e ≡ Malformed) × ((ns : List ℕ) → length ns ≡ length (numbered c) → Numbers (take (length s - 1) (drop 1 s)) ns → ⊥) → Parsed s r
malformed s c e r some head back h =
    let p = err_from_is_err_and r back in
    let rest = take (length s - 1) (drop 1 s) in
    let cut = headed s (letter c) some head in
    rw (p.1, p.2, h.0) (
      (c, (rest, cut)),
      λ d k.
          let there = k.1 in
          let first : letter d ≡ letter c = cc in
          let tail : k.0 ≡ rest = cc in
          h.1 (numbered d) (long d ∙ ap arity first ∙ sym (long c)) (subst (λ b. Numbers b (numbered d)) tail k.2),
    )

spelled_once : (bs : List ℕ) (c d : Call) → Spelled bs c → Spelled bs d → c ≡ d
spelled_once bs c d p q =
    let one = p.1 in
    let other = q.1 in
    let first : letter c ≡ letter d = cc in
    let tail : p.0 ≡ q.0 = cc in
    let same = numbers_once p.0 (numbered c) (numbered d) (long c ∙ ap arity first ∙ sym (long d)) p.2 (subst (λ b. Numbers b (numbered d)) (sym tail) q.2) in
    sym (back c) ∙ ap (λ l. called l (numbered c)) first ∙ ap (called (letter d)) same ∙ back d

pub parsed_once : (bs : List ℕ) (r q : Result Call Fault) → Parsed bs r → Parsed bs q → r ≡ q
parsed_once bs (Err TooLong) q p k = absurd p
parsed_once bs (Err (Engine e)) q p k = absurd p
parsed_once bs r (Err TooLong) p k = absurd k
parsed_once bs r (Err (Engine e)) p k = absurd k
parsed_once bs (Ok c) (Ok d) p k = ap {B = Result Call Fault} (λ x. Ok x) (spelled_once bs c d p k)
parsed_once bs (Ok c) (Err Unknown) p k = absurd (k c (p.0, p.1))
parsed_once bs (Ok c) (Err Malformed) p k = absurd (k.1 c p)
parsed_once bs (Err Unknown) (Ok d) p k = absurd (p d (k.0, k.1))
parsed_once bs (Err Unknown) (Err Unknown) p k = refl
parsed_once bs (Err Unknown) (Err Malformed) p k = absurd (p k.0.0 k.0.1)
parsed_once bs (Err Malformed) (Ok d) p k = absurd (p.1 d k)
parsed_once bs (Err Malformed) (Err Unknown) p k = absurd (k p.0.0 p.0.1)
parsed_once bs (Err Malformed) (Err Malformed) p k = refl
