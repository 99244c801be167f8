-- The numbers of a line, one after another. Assumes nothing.
use Rattle.std.proofs.Common.{◌≡◌, ℕ, ◌<◌, List, [], ◌∷◌, length, sym, refl, subst, arith}
use Rattle.script.specs.Spelling.{Past, Next, Numbers}
use Rattle.script.proofs.Numerals.{next_once}

numbers_past : (bs ns : List ℕ) → Numbers bs ns → Past bs
numbers_past bs [] h = subst Past (sym h) tt
numbers_past bs (n ∷ ns) h = subst Past (sym h.2) (λ d. omega arith)

first_number : (bs : List ℕ) (n : ℕ) (ns : List ℕ) → Numbers bs (n ∷ ns) → (after : List ℕ) × Next bs n after × Numbers after ns
first_number bs n ns h = (h.1, record { ds = h.0; cut = h.2; number = h.3; past = numbers_past h.1 ns h.4 }, h.4)

-- the bytes settle which numbers they are
pub numbers_once : (bs ms ns : List ℕ) → length ms ≡ length ns → Numbers bs ms → Numbers bs ns → ms ≡ ns
numbers_once bs [] [] e p q = refl
numbers_once bs [] (n ∷ ns) e p q = absurd (omega arith)
numbers_once bs (m ∷ ms) [] e p q = absurd (omega arith)
numbers_once bs (m ∷ ms) (n ∷ ns) e p q =
    let one = first_number bs m ms p in
    let other = first_number bs n ns q in
    let same = next_once bs m n one.0 other.0 one.1 other.1 in
    let rest = numbers_once one.0 ms ns (omega arith) one.2 (subst (λ b. Numbers b ns) (sym same.1) other.2) in
    let here = same.0 in
    cc

pub numbers_cons : (bs : List ℕ) (n : ℕ) (after ns : List ℕ) → Next bs n after → Numbers after ns → Numbers bs (n ∷ ns)
numbers_cons bs n after ns h k = (h.ds, after, h.cut, h.number, k)

pub numbers_tail : (bs : List ℕ) (n : ℕ) (after : List ℕ) (m : ℕ) (ms : List ℕ) → Next bs n after → Numbers bs (m ∷ ms) → Numbers after ms
numbers_tail bs n after m ms h k =
    let first = first_number bs m ms k in
    subst (λ b. Numbers b ms) (sym (next_once bs n m after first.0 h first.1).1) first.2

pub none_next : (bs ms : List ℕ) → ((n : ℕ) (after : List ℕ) → Next bs n after → ⊥) → 0 < length ms → Numbers bs ms → ⊥
none_next bs [] no_next l k = omega arith
none_next bs (m ∷ ms) no_next l k = let first = first_number bs m ms k in no_next m first.0 first.1
