use Rattle.std.proofs.Common.{◌≡◌, sym, subst, arith}
use Rattle.std.proofs.lemmas.Grind.{common_steps}
use Rattle.std.specs.List.{All}
use Rattle.script.specs.Settled.{settled, IsTold}
use Rattle.script.proofs.Settled.{settled_told}
use Rattle.script.proofs.session.settle.Goals as goal

pub returns-clause-told : goal.returns-clause-told
returns-clause-told c =
    let same : c.loop-line.lines ≡ settled c.args.lines.now c.args.answers.now = grind (arith, common_steps) in
    subst (All IsTold) (sym same) (settled_told c.args.lines.now c.args.answers.now c.requires)
