use Rattle.std.proofs.Common.{arith}
use Rattle.words.proofs.Packing.{joined}
use Rattle.words.proofs.word.packing.joined.Goals as goal

pub returns : goal.returns
returns c = joined c.args.kind c.args.count c.args.version (omega (arith, c.requires)) (omega (arith, c.requires)) (omega arith)
