-- The tasks after one of them was written.
use Rattle.std.proofs.Common.{◌≡◌, ℕ, ◌<◌, List, length, get_or, set, replicate, None, Some, Option, sym, subst, inl, inr, arith}
use Rattle.std.proofs.lemmas.List.{get_or-set_other, get_or-replicate, get_or_past, length-replicate}
use Rattle.std.proofs.lemmas.Grind.{get_or-set_at}
use Rattle.std.proofs.lemmas.Bool.{cases_eq, cases_lt}

-- what holds of the new value at i and of the old ones elsewhere
pub at_set : {X : Type 0} (xs : List X) (i : ℕ) (x d : X) (j : ℕ) (P : X → Type 0) → i < length xs
    → (j ≡ i → P x) → ((j ≡ i → ⊥) → P (get_or xs j d)) → P (get_or (set xs i x) j d)
at_set xs i x d j P h here there =
    elim (cases_eq j i) [
      | inl e ↦ subst P (sym (get_or-set_at xs i j x d e h)) (here e)
      | inr n ↦ subst P (sym (get_or-set_other xs i j x d n)) (there n)
    ]

pub at_replicate : {X : Type 0} (n : ℕ) (x : X) (i : ℕ) → get_or (replicate n x) i x ≡ x
at_replicate n x i =
    elim (cases_lt i n) [
      | inl h ↦ get_or-replicate n i x x h
      | inr h ↦ get_or_past (replicate n x) i x (omega (arith, length-replicate n x))
    ]

-- a place that holds something is within the list
pub within : {X : Type 0} (xs : List (Option X)) (i : ℕ) (x : X) → get_or xs i None ≡ Some x → i < length xs
within xs i x h =
    elim (cases_lt i (length xs)) [
      | inl low ↦ low
      | inr high ↦ cc (get_or_past xs i None high)
    ]
