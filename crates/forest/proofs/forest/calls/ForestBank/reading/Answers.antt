use Rattle.std.proofs.Common.{◌<◌, length, sym, ap, ◌∙◌, arith}
use Rattle.forest.specs.declared.node.Node.{Node}
use Rattle.forest.specs.Forests.{forest_of}
use Rattle.forest.specs.Layouts.{read_by, empty?, root}
use Rattle.forest.proofs.Answered.{reading_answered}
use Rattle.forest.proofs.Forests.{node_read, read_few}
use Rattle.forest.proofs.Lawful.{lawful}
use Rattle.forest.proofs.forest.calls.ForestBank.reading.Goals as goal

pub returns-in_err-shut-clause-lawful : goal.returns-in_err-shut-clause-lawful
returns-in_err-shut-clause-lawful g c = let b = c.args.self.now in lawful g.T.Trees.layout g.met.T.Trees.lays (forest_of b) b.sound

pub root-requires : goal.root-requires
root-requires g c = (read_few g.met.T.Trees.lays c.args.self.now _ c.args.tally (sym c.shut.ensures ∙ c.in_ok-shut.was)).0

pub bounds-nodes-root : goal.bounds-nodes-root
bounds-nodes-root g c =
    omega (arith, c.root.ensures, ap length c.nodes.ensures, read_few g.met.T.Trees.lays c.args.self.now _ c.args.tally (sym c.shut.ensures ∙ c.in_ok-shut.was))

pub returns : goal.returns
returns g c =
    let L = g.T.Trees.layout in
    let l = g.met.T.Trees.lays in
    let b = c.args.self.now in
    let t = c.args.tally in
    let ok = sym c.shut.ensures ∙ c.in_ok-shut.was in
    let low : c.root.result < length c.nodes.result.now = omega (arith, c.root.ensures, ap length c.nodes.ensures, read_few l b _ t ok) in
    let is = node_read c.nodes.result.now (forest_of b).nodes c.root.result (root L t) c.index-nodes-root.result low c.nodes.ensures c.root.ensures in
    let says = c.reading.ensures ∙ ap (λ (n : Node). read_by (empty? n.word.kind)) (c.index-nodes-root.is ∙ is) in
    let done = reading_answered L l (forest_of b) t c.reading.result _ ok says in
    record { exact = done.0; shows = done.1; lawful = lawful L l (forest_of b) b.sound }
