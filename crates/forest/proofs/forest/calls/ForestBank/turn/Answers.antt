use Rattle.std.proofs.Common.{sym, ◌∙◌}
use Rattle.forest.specs.Forests.{forest_of}
use Rattle.forest.specs.Groves.{tables_of}
use Rattle.forest.proofs.Answered.{turn_answered}
use Rattle.forest.proofs.Forests.{turn_ready}
use Rattle.forest.proofs.forest.calls.ForestBank.turn.Goals as goal

pub turn-requires : goal.turn-requires
turn-requires g c = turn_ready g.met.T.Trees.lays c.args.self.now _ c.args.agent (sym c.may_turn.ensures ∙ c.in_ok-may_turn.was)

pub invariant_of-self : goal.invariant_of-self
invariant_of-self g c =
    let b = c.args.self.now in
    let C = tables_of g.T.Trees.grove c.turn.new.self in
    let ok = sym c.may_turn.ensures ∙ c.in_ok-may_turn.was in
    record { sound = (turn_answered g.T.Trees.layout g.met.T.Trees.lays (forest_of b) b.sound C c.args.agent c.turn.result _ ok c.turn.ensures.value c.turn.ensures.tables).kept }

pub returns-clause-shows : goal.returns-clause-shows
returns-clause-shows g c =
    let b = c.args.self.now in
    let C = tables_of g.T.Trees.grove c.turn.new.self in
    let ok = sym c.may_turn.ensures ∙ c.in_ok-may_turn.was in
    (turn_answered g.T.Trees.layout g.met.T.Trees.lays (forest_of b) b.sound C c.args.agent c.turn.result _ ok c.turn.ensures.value c.turn.ensures.tables).shows
