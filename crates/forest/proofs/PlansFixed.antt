-- The first tables of the fixed bank are sound.
use Rattle.std.proofs.Common.{◌≡◌, ℕ, zero, suc, ◌+◌, ◌-◌, ◌*◌, ◌/◌, ◌%◌, ◌<◌, ◌≤◌, eqb, List, Some, None, sym, refl, ap, ◌∙◌, subst, inl, inr, arith}
use Rattle.std.proofs.lemmas.List.{get_or_past}
use Rattle.std.proofs.lemmas.Bool.{cases_eq, cases_lt, cond-false, cond-true, eq-eqb, ne_eqb}
use Rattle.std.proofs.lemmas.Bool.Decides.{nat_tests}
use Rattle.words.specs.Words.{blank}
use Rattle.forest.specs.declared.node.Node.{Node}
use Rattle.forest.specs.Climb.{Above, top, via, Down}
use Rattle.forest.specs.Ledgers.{first_ledger}
use Rattle.forest.specs.Plans.{fixed_layout, fixed_tables, fixed_parent, fixed_depth, fixed_node, Laid}
use Rattle.forest.specs.Sound.{Sound}
use Rattle.forest.specs.Tables.{no_node, at}
use Rattle.forest.specs.Ancestors.{some_none}
use Rattle.forest.proofs.PlansFirst.{Bare, first_sound}

root_parent : (t p : ℕ) → p ≡ 0 → fixed_parent t p ≡ None
root_parent t p e = cond-true (eqb p 0) None (Some (15 * t + (p - 1) / 2)) (eq-eqb p 0 e)

place_parent : (t p : ℕ) → (p ≡ 0 → ⊥) → fixed_parent t p ≡ Some (15 * t + (p - 1) / 2)
place_parent t p n = cond-false (eqb p 0) None (Some (15 * t + (p - 1) / 2)) (ne_eqb p 0 n)

depth_most : (p : ℕ) → fixed_depth p ≤ 3
depth_most p = grind (arith, nat_tests)

depth_up : (p q : ℕ) → 1 ≤ p → p < 15 → q ≡ (p - 1) / 2 → fixed_depth q + 1 ≤ fixed_depth p
depth_up p q l m e = grind (arith, nat_tests)

module _ (ns : List Node) (laid : Laid ns) where
  past : (z : ℕ) → 3840 ≤ z → at ns z ≡ no_node
  past z l = get_or_past ns z no_node (omega (arith, laid.0))

  -- what holds of every place and of no node holds everywhere
  each : (P : Node → Type 0) → ((t p : ℕ) → P (fixed_node t p)) → P no_node → (z : ℕ) → P (at ns z)
  each P h n z = elim (cases_lt z 3840) [
    | inl l ↦ subst P (sym (laid.1 z l)) (h (z / 15) (z % 15))
    | inr l ↦ subst P (sym (past z l)) n
  ]

  at_place : (t p : ℕ) → t < 256 → p < 15 → at ns (15 * t + p) ≡ fixed_node t p
  at_place t p h l =
      let e : (15 * t + p) / 15 ≡ t = omega arith in
      let f : (15 * t + p) % 15 ≡ p = omega arith in
      let k = laid.1 (15 * t + p) (omega arith) in
      cc

  parent_of : (y q : ℕ) → (at ns y).parent ≡ Some q → (y < 3840) × (1 ≤ y % 15) × (q ≡ 15 * (y / 15) + (y % 15 - 1) / 2)
  parent_of y q e = elim (cases_lt y 3840) [
    | inr l ↦ absurd (some_none (at ns y).parent q e (ap (λ (n : Node). n.parent) (past y l)))
    | inl l ↦
        let k : (at ns y).parent ≡ fixed_parent (y / 15) (y % 15) = ap (λ (n : Node). n.parent) (laid.1 y l) in
        elim (cases_eq (y % 15) 0) [
          | inl z ↦ absurd (some_none (at ns y).parent q e (k ∙ root_parent (y / 15) (y % 15) z))
          | inr n ↦ let f = place_parent (y / 15) (y % 15) n in (l, omega arith, cc)
        ]
  ]

  down : Down (λ z. (at ns z).parent) 3840
  down y q e = let (l, n, i) = parent_of y q e in (omega (arith, n, i), l)

  deep : (y q : ℕ) → (at ns y).parent ≡ Some q → (at ns q).depth + 1 ≤ (at ns y).depth
  deep y q e =
      let (l, n, i) = parent_of y q e in
      let h : q % 15 ≡ (y % 15 - 1) / 2 = omega (arith, n, i) in
      let here : (at ns y).depth ≡ fixed_depth (y % 15) = ap (λ (m : Node). m.depth) (laid.1 y l) in
      let there : (at ns q).depth ≡ fixed_depth (q % 15) = ap (λ (m : Node). m.depth) (laid.1 q (omega (arith, l, n, i))) in
      omega (arith, depth_up (y % 15) (q % 15) n (omega arith) h)

  -- by the parents, each of which is an earlier place
  spread : (n t p : ℕ) → p < n → t < 256 → p < 15 → Above (λ z. (at ns z).parent) (15 * t) (15 * t + p)
  spread zero t p m h l = absurd (omega arith)
  spread (suc n) t p m h l = elim (cases_eq p 0) [
    | inl e ↦ top (15 * t + p) (omega arith)
    | inr e ↦ via (15 * t + p) (15 * t + (p - 1) / 2) (ap (λ (m : Node). m.parent) (at_place t p h l) ∙ place_parent t p e) (spread n t ((p - 1) / 2) (omega arith) h (omega arith))
  ]

  -- a node below a root is one of its places
  below : (t : ℕ) → t < 256 → {z : ℕ} → Above (λ z. (at ns z).parent) (15 * t) z → (z < 3840) × (z / 15 ≡ t)
  below t h (top z e) = (omega arith, omega arith)
  below t h (via z q e a) = let (l, n, i) = parent_of z q e in (l, omega (arith, n, i, (below t h a).1))

pub fixed_first_sound : (ns : List Node) → Laid ns → Sound fixed_layout (fixed_tables ns first_ledger)
fixed_first_sound ns laid = first_sound ns 256 3840 bare fixed_layout (omega arith) (omega arith) (omega (arith, laid.0)) refl (λ g. laid.0)
    (down ns laid) (deep ns laid) (each ns laid (λ n. n.depth ≤ 3) (λ t p. depth_most p) (omega arith)) tops (λ t p h l. spread ns laid 15 t p l h l)
    (λ t z h a first. let (l, e) = below ns laid t h a in ap (λ (m : Node). m.tally) (laid.1 z l) ∙ e) (past ns laid)
  where
    bare : Bare ns
    bare = record {
      word = each ns laid (λ n. n.word ≡ blank) (λ t p. refl) refl;
      left = each ns laid (λ n. n.left ≡ None) (λ t p. refl) refl;
      out = each ns laid (λ n. n.out ≡ 0) (λ t p. refl) refl;
    }

    tops : (t : ℕ) → t < 256 → (at ns (15 * t)).parent ≡ None
    tops t h = ap (λ (m : Node). m.parent) (laid.1 (15 * t) (omega arith)) ∙ root_parent (15 * t / 15) (15 * t % 15) (omega arith)
