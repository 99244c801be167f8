use Rattle.std.proofs.Common.{ℕ, ◌+◌, sym, ap, ◌∙◌}
use Rattle.forest.specs.Forests.{forest_of}
use Rattle.forest.specs.Groves.{tables_of}
use Rattle.forest.specs.Layouts.{leaves}
use Rattle.forest.proofs.Answered.{depart_answered}
use Rattle.forest.proofs.forest.calls.ForestBank.depart.Goals as goal

pub invariant_of-self : goal.invariant_of-self
invariant_of-self g c =
    let b = c.args.self.now in
    let a = c.args.agent in
    let t = c.args.tally in
    let p = c.args.place in
    let ok = sym c.may_depart.ensures ∙ c.in_ok-may_depart.was in
    let path = c.leave.ensures ∙ ap (λ (x : ℕ). leaves (forest_of b) a t (x + p)) c.base.ensures in
    record { sound = (depart_answered g.T.Trees.layout g.met.T.Trees.lays (forest_of b) b.sound (tables_of g.T.Trees.grove c.leave.new.self) a t p _ ok path).kept }

pub returns-clause-shows : goal.returns-clause-shows
returns-clause-shows g c =
    let b = c.args.self.now in
    let a = c.args.agent in
    let t = c.args.tally in
    let p = c.args.place in
    let ok = sym c.may_depart.ensures ∙ c.in_ok-may_depart.was in
    let path = c.leave.ensures ∙ ap (λ (x : ℕ). leaves (forest_of b) a t (x + p)) c.base.ensures in
    (depart_answered g.T.Trees.layout g.met.T.Trees.lays (forest_of b) b.sound (tables_of g.T.Trees.grove c.leave.new.self) a t p _ ok path).shows
