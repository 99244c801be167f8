use Rattle.std.proofs.Common.{sym, refl, ap, ◌∙◌}
use Rattle.std.proofs.lemmas.Result.{err_from_is_err_and}
use Rattle.forest.specs.Forests.{forest_of}
use Rattle.forest.specs.Groves.{tables}
use Rattle.forest.specs.Ledgers.{sends}
use Rattle.forest.proofs.Answered.{arrive_answered, arrive_not}
use Rattle.forest.proofs.Forests.{arrive_few}
use Rattle.forest.proofs.forest.calls.ForestBank.arrive.Goals as goal

pub returns-in_err-may_arrive-clause-shows : goal.returns-in_err-may_arrive-clause-shows
returns-in_err-may_arrive-clause-shows g c =
    let b = c.args.self.now in
    let back = err_from_is_err_and c.from_residual.result c.from_residual.ensures.1 in
    let no = arrive_not g.T.Trees.layout g.met.T.Trees.lays (forest_of b) b.sound c.args.agent c.args.tally c.args.place c.args.side c.args.coin c.in_err-may_arrive.field-0.0
    (sym c.may_arrive.ensures ∙ c.in_err-may_arrive.was) in
    rw (back.1, back.2) (no.1, refl)

pub start-errand-requires : goal.start-errand-requires
start-errand-requires g c = arrive_few g.met.T.Trees.lays c.args.self.now _ c.args.agent c.args.tally c.args.place (sym c.may_arrive.ensures ∙ c.in_ok-may_arrive.was)

pub send-requires-clause-tally : goal.send-requires-clause-tally
send-requires-clause-tally g c = arrive_few g.met.T.Trees.lays c.args.self.now _ c.args.agent c.args.tally c.args.place (sym c.may_arrive.ensures ∙ c.in_ok-may_arrive.was)

pub invariant_of-self : goal.invariant_of-self
invariant_of-self g c =
    let b = c.args.self.now in
    let a = c.args.agent in
    let t = c.args.tally in
    let grove = g.T.Trees.grove b.tables.trees in
    let ok = sym c.may_arrive.ensures ∙ c.in_ok-may_arrive.was in
    let path = c.send.ensures ∙ ap (sends b.tables.ledger a t) c.start-errand.ensures in record {
      sound = (arrive_answered g.T.Trees.layout g.met.T.Trees.lays (forest_of b) b.sound (tables grove c.send.new.self) a t c.args.place c.args.side c.args.coin _ ok
          (λ i. tables grove (path i))).kept;
    }

pub returns-clause-shows : goal.returns-clause-shows
returns-clause-shows g c =
    let b = c.args.self.now in
    let a = c.args.agent in
    let t = c.args.tally in
    let grove = g.T.Trees.grove b.tables.trees in
    let ok = sym c.may_arrive.ensures ∙ c.in_ok-may_arrive.was in
    let path = c.send.ensures ∙ ap (sends b.tables.ledger a t) c.start-errand.ensures in
    (arrive_answered g.T.Trees.layout g.met.T.Trees.lays (forest_of b) b.sound (tables grove c.send.new.self) a t c.args.place c.args.side c.args.coin _ ok
    (λ i. tables grove (path i))).shows
