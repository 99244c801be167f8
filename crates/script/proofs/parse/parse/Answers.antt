use Rattle.std.proofs.Common.{rules}
use Rattle.engine.specs.declared.call.Call.TheVariants.{Take, Signal, Turn}
use Rattle.script.proofs.Calls.{malformed}
use Rattle.script.proofs.parse.parse.Goals as goal

pub returns-in_err-task-in-107 : goal.returns-in_err-task-in-107
returns-in_err-task-in-107 c =
    malformed c.args.s.now (Take 0) _ c.from_residual-in_err-task-in-107.result (search rules) (search rules) c.from_residual-in_err-task-in-107.ensures.1 c.in_err-task-in-107.ensures

pub returns-in_err-agent-in-103 : goal.returns-in_err-agent-in-103
returns-in_err-agent-in-103 c =
    malformed c.args.s.now (Signal 0 0) _ c.from_residual-in_err-agent-in-103.result (search rules) (search rules) c.from_residual-in_err-agent-in-103.ensures.1 c.in_err-agent-in-103.ensures

pub returns-in_err-agent-in-116 : goal.returns-in_err-agent-in-116
returns-in_err-agent-in-116 c =
    malformed c.args.s.now (Turn 0) _ c.from_residual-in_err-agent-in-116.result (search rules) (search rules) c.from_residual-in_err-agent-in-116.ensures.1 c.in_err-agent-in-116.ensures
