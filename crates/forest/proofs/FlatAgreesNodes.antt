-- The nodes of the machine that is laid flat: each is a root, of the tally with its number.
use Rattle.std.proofs.Common.{◌≡◌, ℕ, ◌<◌, false, length, Some, None, Option, refl, ap, ◌∙◌, subst, inl, inr, arith}
use Rattle.std.proofs.lemmas.Bool.{cases_lt}
use Rattle.words.specs.declared.kind.Kind.{Kind}
use Rattle.words.specs.declared.kind.Kind.TheVariants.{Empty, Half, Counted}
use Rattle.forest.specs.Agents.{cell_by, half?}
use Rattle.forest.specs.Climb.{halves}
use Rattle.forest.specs.FlatTables.{Rooted, Closed}
use Rattle.forest.specs.Layouts.{root}
use Rattle.forest.specs.Plans.{flat_layout}
use Rattle.forest.specs.Sound.{par_of, In, Sound}
use Rattle.forest.specs.Tables.{Tables, none?, at}
use Rattle.forest.specs.Ancestors.{above_in, some_none}

whole_kind : (k : Kind) (n v : ℕ) → halves (cell_by k n v) ≡ 0 → half? k ≡ false
whole_kind Empty n v e = refl
whole_kind Half n v e = absurd (omega arith)
whole_kind Counted n v e = refl

module _ (B : Tables) (tall : B.tallies ≡ 256) (s : Sound flat_layout B) where
  pub used_is : B.used ≡ 256
  used_is = omega (arith, s.full refl)

  pub nodes_are : length B.nodes ≡ 256
  nodes_are = s.whole refl ∙ used_is

  pub alone : (z : ℕ) → par_of B z ≡ None
  alone z = by_parent (par_of B z) refl
    where
      by_parent : (o : Option ℕ) → par_of B z ≡ o → o ≡ None
      by_parent None e = refl
      by_parent (Some q) e =
          let low : z < B.tallies = omega (arith, (s.down z q e).1, used_is) in
          absurd (some_none (par_of B z) q e (subst (λ k. par_of B k ≡ None) (omega arith) (s.tops z low)))

  -- a tree is its root
  pub own : (t z : ℕ) → In flat_layout B t z → z ≡ t
  own t z h = elim (above_in (par_of B) (root flat_layout t) h.1) [
    | inl e ↦ omega arith
    | inr (q, e, a) ↦ absurd (some_none (par_of B z) q e (alone z))
  ]

  pub rooted : Rooted B.nodes
  rooted = (λ t. ap none? (alone t), λ t. let w = (at B.nodes t).word in whole_kind w.kind w.count w.version (s.inv.roots t (alone t)))

  pub closed : Closed B.nodes B.ledger.opened
  closed t h = elim (cases_lt 0 (at B.nodes t).out) [
    | inl k ↦ absurd (let i = s.kept t k in omega (arith, i.0, own (at B.nodes t).tally t i))
    | inr k ↦ omega arith
  ]

  pub flat : (z : ℕ) → (at B.nodes z).depth ≡ 0
  flat z = omega (arith, s.shallow z)
