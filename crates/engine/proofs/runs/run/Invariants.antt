use Rattle.std.proofs.Common.{◌≡◌, ◌≤◌, length, take, vec_items, vec_len, vec_capacity}
use Rattle.engine.specs.State.{state_of, fresh}
use Rattle.engine.specs.Runs.{Run}
use Rattle.engine.proofs.runs.run.Given as goal

abbrev pub invariant-loop-call : goal.invariant-loop-call
invariant-loop-call g l = record {
  ran : Run g.B.Bank.means g.B.Bank.does (fresh l.fn.bank) (take l.call-index l.calls) (vec_items l.answers) (state_of l.engine);
  answered : vec_len l.answers ≡ l.call-index;
  room : length l.calls ≤ vec_capacity l.answers;
}
