use Rattle.std.proofs.Common.{◌≡◌, ℕ, ◌-◌, sym, refl, ap, ◌∙◌, subst, arith}
use Rattle.banks.specs.Meaning.{Opens}
use Rattle.forest.specs.Forests.{forest_of, forest_means}
use Rattle.forest.specs.Groves.{tables_of}
use Rattle.forest.specs.Layouts.{root}
use Rattle.forest.specs.Shown.{meaning}
use Rattle.forest.proofs.Answered.{open_answered}
use Rattle.forest.proofs.Forests.{open_few}
use Rattle.forest.proofs.forest.calls.ForestBank.open.Goals as goal

pub root-requires : goal.root-requires
root-requires g c = omega (arith, c.open-tally.ensures.value, open_few g.met.T.Trees.lays c.args.self.now _ (sym c.may_open.ensures ∙ c.in_ok-may_open.was))

pub base-requires : goal.base-requires
base-requires g c = omega (arith, c.open-tally.ensures.value, open_few g.met.T.Trees.lays c.args.self.now _ (sym c.may_open.ensures ∙ c.in_ok-may_open.was))

pub invariant_of-self : goal.invariant_of-self
invariant_of-self g c =
    let L = g.T.Trees.layout in
    let b = c.args.self.now in
    let o = b.tables.ledger.opened in
    let ok = sym c.may_open.ensures ∙ c.in_ok-may_open.was in
    record { sound = (open_answered L g.met.T.Trees.lays (forest_of b) b.sound (tables_of g.T.Trees.grove c.open-tally.new.self) _ (o, L.first o) ok refl c.open-tally.ensures.tables).kept }

pub returns-clause-shows : goal.returns-clause-shows
returns-clause-shows g c =
    let L = g.T.Trees.layout in
    let l = g.met.T.Trees.lays in
    let b = c.args.self.now in
    let o = b.tables.ledger.opened in
    let C = tables_of g.T.Trees.grove c.open-tally.new.self in
    let value = c.open-tally.ensures.value in
    let place : L.first o ≡ c.root.result - c.base.result = omega (arith, c.root.ensures, c.base.ensures, ap (root L) value, ap L.base value, l.first o) in
    let done = open_answered L l (forest_of b) b.sound C _ (o, L.first o) (sym c.may_open.ensures ∙ c.in_ok-may_open.was) refl c.open-tally.ensures.tables in
    (value, subst (λ (p : ℕ). Opens (forest_means b) p (meaning L C)) place done.shows)
