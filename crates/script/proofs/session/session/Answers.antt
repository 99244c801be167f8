use Rattle.std.proofs.Common.{◌≡◌, map, sym, ap, ◌∙◌, subst}
use Rattle.std.proofs.Math.Seq.{take-append_seam}
use Rattle.std.proofs.lemmas.Result.{IfOk-weaker}
use Rattle.engine.specs.Runs.{Runs}
use Rattle.script.specs.Settled.{spelled, calls_of}
use Rattle.script.proofs.Settled.{spelled_calls, settled_page}
use Rattle.script.proofs.session.session.Goals as goal

pub returns : goal.returns
returns g c =
    let read = c.in_ok-lines.ensures.reads in
    let asked = c.in_ok-ask.ensures.answers in
    let rs = read.0 in
    let answers = asked.answers in
    let before : c.deref_mut.result.now ≡ map spelled rs = c.deref_mut.ensures.value ∙ read.2 in
    let as_long = sym (c.ask.auto.lines ∙ c.deref_mut.ensures.len) in
    IfOk-weaker c.page.result _ _ (λ s prints. record {
      lines = rs;
      answers = answers;
      reads = read.1;
      runs = subst (λ cs. Runs g.B.Bank.means g.B.Bank.does c.args.bank cs answers) (ap calls_of before ∙ spelled_calls rs) asked.runs;
      prints = rw (c.deref.ensures.value, as_long, take-append_seam c.ask.new.lines _, asked.settles, before, settled_page 2 rs answers) at prints;
    }) c.page.ensures
