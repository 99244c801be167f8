-- Lists by their front and their elements. Assumes nothing.
use Rattle.std.proofs.Common.{◌≡◌, ℕ, ◌-◌, ◌<◌, List, [], ◌∷◌, ◌++◌, length, get_or, take, drop, sym, refl, ap, ◌∙◌, subst}
use Rattle.std.specs.List.{All, slice_get}
use Rattle.std.specs.Option.{IfSome}
use Rattle.std.proofs.lemmas.List.Elements.{All-head, All-tail}
use Rattle.std.proofs.lemmas.Slice.{first_rest}

-- what the pattern `[c, tail @ ..]` says of a slice
pub headed : (s : List ℕ) (c : ℕ) → 0 < length s → get_or s 0 0 ≡ c → s ≡ c ∷ take (length s - 1) (drop 1 s)
headed s c some e = first_rest s 0 some ∙ ap (λ x. x ∷ take (length s - 1) (drop 1 s)) e

-- a list has one longest front of elements with P
pub front_once : (P : ℕ → Type 0) (ds xs es ys : List ℕ) → ds ++ xs ≡ es ++ ys → All P ds → All P es
    → IfSome (slice_get xs 0) (λ c. P c → ⊥) → IfSome (slice_get ys 0) (λ c. P c → ⊥) → (ds ≡ es) × (xs ≡ ys)
front_once P [] xs [] ys e a b p q = (refl, e)
front_once P [] xs (c ∷ es) ys e a b p q = absurd (subst (λ l. IfSome (slice_get l 0) (λ d. P d → ⊥)) e p (All-head P c es b))
front_once P (c ∷ ds) xs [] ys e a b p q = absurd (subst (λ l. IfSome (slice_get l 0) (λ d. P d → ⊥)) (sym e) q (All-head P c ds a))
front_once P (c ∷ ds) xs (d ∷ es) ys e a b p q =
    let same : c ≡ d = cc in
    let tail : ds ++ xs ≡ es ++ ys = cc in
    let rest = front_once P ds xs es ys tail (All-tail P c ds a) (All-tail P d es b) p q in
    let front = rest.0 in
    let whole : c ∷ ds ≡ d ∷ es = cc in
    (whole, rest.1)
