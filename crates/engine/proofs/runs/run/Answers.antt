use Rattle.std.proofs.Common.{take_all, arith, rules}
use Rattle.engine.specs.declared.call.Call.TheVariants.{Make}
use Rattle.engine.specs.State.{state_of, fresh}
use Rattle.engine.proofs.Steps.{run_next}
use Rattle.engine.proofs.runs.run.Goals as goal

pub loop-call-preserved : goal.loop-call-preserved
loop-call-preserved g c = record {
  ran =
      run_next g.B.Bank.means g.B.Bank.does (fresh c.args.bank) (state_of c.loop-call.engine) (state_of c.perform.new.engine) _ _ Make _ _ _
      c.loop-call-test.true c.perform.ensures.step.2 c.loop-call.invariant.ran c.perform.ensures.step.1;
  answered = omega arith;
  room = search rules;
}

pub returns-clause-runs : goal.returns-clause-runs
returns-clause-runs g c = (state_of c.loop-call.engine, rw (take_all _ c.args.calls.now c.loop-call-test.false) at c.loop-call.invariant.ran)
