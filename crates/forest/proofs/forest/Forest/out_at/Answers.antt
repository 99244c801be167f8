use Rattle.std.proofs.Common.{◌+◌, ◌<◌, length, sym, ap, ◌∙◌, arith}
use Rattle.std.proofs.lemmas.Bool.{cond-true}
use Rattle.forest.specs.declared.node.Node.{Node}
use Rattle.forest.specs.Forests.{forest_of}
use Rattle.forest.specs.Tables.{at}
use Rattle.forest.proofs.Sizes.{place_there, place_low}
use Rattle.forest.proofs.Forests.{node_read}
use Rattle.forest.proofs.forest.Forest.out_at.Goals as goal

pub overflow_add-base : goal.overflow_add-base
overflow_add-base g c =
    let b = c.args.self.now in
    let has = sym (c.has.ensures b.tables.ledger) ∙ c.if-has.true in
    omega (arith, c.base.ensures, place_low g.T.Trees.layout g.met.T.Trees.lays (forest_of b) b.sound c.args.tally c.requires c.args.place has)

pub bounds-nodes-base : goal.bounds-nodes-base
bounds-nodes-base g c =
    let b = c.args.self.now in
    let has = sym (c.has.ensures b.tables.ledger) ∙ c.if-has.true in
    omega (arith, c.base.ensures, ap length c.nodes.ensures, place_there g.T.Trees.layout g.met.T.Trees.lays (forest_of b) b.sound c.args.tally c.requires c.args.place has)

pub returns-then-has : goal.returns-then-has
returns-then-has g c =
    let L = g.T.Trees.layout in
    let b = c.args.self.now in
    let t = c.args.tally in
    let p = c.args.place in
    let has = sym (c.has.ensures b.tables.ledger) ∙ c.if-has.true in
    let low : c.base.result + p < length c.nodes.result.now =
    omega (arith, c.base.ensures, ap length c.nodes.ensures, place_there L g.met.T.Trees.lays (forest_of b) b.sound t c.requires p has) in
    let is = node_read c.nodes.result.now (forest_of b).nodes (c.base.result + p) (L.base t + p) c.index-nodes-base.result low c.nodes.ensures (λ i. c.base.ensures i + p) in
    c.out.ensures ∙ ap (λ (n : Node). n.out) (c.index-nodes-base.is ∙ is) ∙ sym (cond-true (L.has (forest_of b) t p) (at (forest_of b).nodes (L.base t + p)).out 0 has)
