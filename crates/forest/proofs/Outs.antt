-- The receipts out at the places of a tally are those at the nodes of its tree.
use Rattle.std.proofs.Common.{◌≡◌, ℕ, zero, suc, ◌+◌, ◌<◌, ◌≤◌, eqb, ltb, List, length, sym, ap, ◌∙◌, subst, inl, inr, arith}
use Rattle.std.proofs.lemmas.Bool.{cases_lt, cases_Bool, cond-true, cond-false, eq-eqb, eqb-true, lt-ltb}
use Rattle.forest.specs.declared.node.Node.{Node}
use Rattle.banks.specs.Counting.{sum}
use Rattle.forest.specs.Layouts.{Layout, out_at}
use Rattle.banks.specs.Meaning as bank
use Rattle.banks.specs.Meaning.{receipts}
use Rattle.forest.specs.Shown.{meaning}
use Rattle.forest.specs.Sound.{In, outs_of, comes, crowd, Sound}
use Rattle.forest.specs.Tables.{Tables, at}
use Rattle.forest.proofs.Changes.{in_nodes}
use Rattle.forest.proofs.Counting.{false_true, sum_none, sum_same}
use Rattle.forest.specs.Lays.{Lays}

-- a sum in two parts, and one whose second part is of nothing
sum_split : (f : ℕ → ℕ) (b n : ℕ) → sum f (b + n) ≡ sum f b + sum (λ p. f (b + p)) n
unfolding sum
sum_split f b zero = let e : sum f (b + 0) ≡ sum f b = ap (sum f) (omega arith) in omega arith
sum_split f b (suc n) =
    let ih : sum f (b + n) ≡ sum f b + sum (λ p. f (b + p)) n = sum_split f b n in
    let k : b + suc n ≡ suc (b + n) = omega arith in
    let e : sum f (b + suc n) ≡ sum f (suc (b + n)) = ap (sum f) k in
    omega arith

sum_past : (f : ℕ → ℕ) (n k : ℕ) → ((p : ℕ) → n ≤ p → f p ≡ 0) → sum f (n + k) ≡ sum f n
sum_past f n k none = omega (arith, sum_split f n k, sum_none (λ p. f (n + p)) k (λ p l. none (n + p) (omega arith)))

outs_some : (ns : List Node) (t z : ℕ) → 1 ≤ outs_of ns t z → ((at ns z).tally ≡ t) × (1 ≤ (at ns z).out)
outs_some ns t z h = elim (cases_Bool (eqb (at ns z).tally t)) [
  | inl e ↦ (eqb-true (at ns z).tally t e, omega (arith, cond-true (eqb (at ns z).tally t) (at ns z).out 0 e))
  | inr e ↦ absurd (omega (arith, cond-false (eqb (at ns z).tally t) (at ns z).out 0 e))
]

module _ (L : Layout) (l : Lays L) (B : Tables) where
  -- at an open tally
  pub out_open : (t p : ℕ) → t < B.ledger.opened → (meaning L B).out t p ≡ out_at L B t p
  out_open t p o = cond-true (ltb t B.ledger.opened) (out_at L B t p) 0 (lt-ltb t B.ledger.opened o)

  module _ (s : Sound L B) where
    pub outs_in : (t z : ℕ) → 1 ≤ outs_of B.nodes t z → In L B t z × (1 ≤ (at B.nodes z).out)
    outs_in t z h = let (e, k) = outs_some B.nodes t z h in (subst (λ j. In L B j z) e (s.kept z k), k)

    -- no place is past the bound
    pub out_past : (t p : ℕ) → t < B.ledger.opened → L.bound B ≤ p → out_at L B t p ≡ 0
    out_past t p o h = elim (cases_Bool (L.has B t p)) [
      | inl e ↦ absurd (omega (arith, (l.has_in B s t p o e).1))
      | inr e ↦ cond-false (L.has B t p) (at B.nodes (L.base t + p)).out 0 e
    ]

    pub out_is : (t p : ℕ) → t < B.ledger.opened → out_at L B t p ≡ outs_of B.nodes t (L.base t + p)
    out_is t p o = elim (cases_Bool (L.has B t p)) [
      | inl e ↦
          cond-true (L.has B t p) (at ns z).out 0 e
          ∙ sym (cond-true (eqb (at ns z).tally t) (at ns z).out 0 (eq-eqb (at ns z).tally t (s.kin t z (o, (l.has_in B s t p o e).0))))
      | inr e ↦ cond-false (L.has B t p) (at ns z).out 0 e ∙ sym (elim (cases_lt 0 (outs_of ns t z)) [
        | inl k ↦ absurd (false_true (sym e ∙ l.in_has B s t p (outs_in t z k).0))
        | inr k ↦ omega arith
      ])
    ]
      where
        ns : List Node
        ns = B.nodes

        z : ℕ
        z = L.base t + p

    pub receipts_are : (t : ℕ) → t < B.ledger.opened → receipts (meaning L B) t ≡ sum (outs_of B.nodes t) (length B.nodes)
    receipts_are t o =
        let n : ℕ = length B.nodes in
        let m : ℕ = L.bound B in
        let b : ℕ = L.base t in
        let g : ℕ → ℕ = outs_of B.nodes t in
        let shown : receipts (meaning L B) t ≡ sum (λ p. g (b + p)) m = sum_same ((meaning L B).out t) (λ p. g (b + p)) m (λ p _. out_open t p o ∙ out_is t p o) in
        let past : sum (λ p. g (b + p)) (m + n) ≡ sum (λ p. g (b + p)) m = sum_past (λ p. g (b + p)) m n (λ p h. sym (out_is t p o) ∙ out_past t p o h) in
        let before : sum g b ≡ 0 = sum_none g b (λ z h. none z (λ i. omega (arith, l.over B s t z i))) in
        let after : sum g (n + (b + m)) ≡ sum g n = sum_past g n (b + m) (λ z h. none z (λ i. omega (arith, in_nodes L l B s t z i))) in
        let same : sum g (b + (m + n)) ≡ sum g (n + (b + m)) = ap (sum g) (omega arith) in
        omega (arith, sum_split g b (m + n))
      where
        none : (z : ℕ) → (In L B t z → ⊥) → outs_of B.nodes t z ≡ 0
        none z not_in = elim (cases_lt 0 (outs_of B.nodes t z)) [ inl k ↦ absurd (not_in (outs_in t z k).0) | inr k ↦ omega arith ]

    pub crowd_is : (t : ℕ) → t < B.ledger.opened → bank.crowd (meaning L B) t ≡ crowd B t
    crowd_is t o = ap (λ n. n + sum (comes B t) 16) (receipts_are t o)
