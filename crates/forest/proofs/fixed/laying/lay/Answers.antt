use Rattle.std.proofs.Common.{rules}
use Rattle.forest.specs.Tables.{no_node}
use Rattle.forest.proofs.fixed.laying.lay.Goals as goal

pub returns : goal.returns
returns c = (c.from_fn.ensures.items.long, λ i h. let k = c.from_fn.ensures.items.at i no_node h in let d = k.2 in search rules)
