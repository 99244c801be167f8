use Rattle.std.proofs.Common.{◌≡◌, subst, vec_items}
use Rattle.engine.specs.Runs.{Runs}
use Rattle.script.specs.Settled.{calls_of, settled}
use Rattle.script.proofs.session.ask.Goals as goal

pub returns-clause-answers : goal.returns-clause-answers
returns-clause-answers g c =
    let lines = c.args.lines.now in
    let answers = vec_items c.in_ok-answers.answers in
    let asked : c.deref.result.now ≡ calls_of lines = rw (c.deref.ensures.value, c.in_ok-calls.ensures) in record {
      answers = answers;
      runs = subst (λ cs. Runs g.B.Bank.means g.B.Bank.does c.args.bank cs answers) asked c.in_ok-answers.ensures.runs;
      settles = subst (λ l. c.settle.new.lines ≡ settled lines l) c.deref-2.ensures.value c.settle.ensures.lines;
    }
