-- What is printed of a line.
--     refusal_text line f   `no`, the line, and the text of f
--     answer_text a         what the engine's answer a prints
--     told_text line o      what the outcome o of that line prints
--     row text              the text and a newline
use Rattle.std.specs.Prelude.{ℕ, List, ◌++◌, Ok, Err, Result, codes, decimal}
use Rattle.engine.specs.declared.call.Answer.{Answer}
use Rattle.engine.specs.declared.call.Answer.TheVariants.{Made, Taken, Signalling, Moved}
use Rattle.engine.specs.declared.call.Moved.TheVariants.{Going, Signalled, Ready}
use Rattle.script.specs.declared.fault.Fault.{Fault}
use Rattle.script.specs.Faults.{fault_text}

abbrev pub refusal_text : ℕ → Fault → List ℕ
refusal_text line f = codes "no " ++ (decimal line ++ (codes " " ++ fault_text f))

abbrev pub answer_text : Answer → List ℕ
answer_text (Made finish root) = codes "ok " ++ (decimal finish ++ (codes " " ++ decimal root))
answer_text Taken = codes "ok"
answer_text Signalling = codes "ok"
answer_text (Moved Going) = codes "going"
answer_text (Moved Signalled) = codes "signalled"
answer_text (Moved (Ready finish)) = codes "ready " ++ decimal finish

abbrev pub told_text : ℕ → Result Answer Fault → List ℕ
told_text line (Ok a) = answer_text a
told_text line (Err f) = refusal_text line f

abbrev pub row : List ℕ → List ℕ
row text = text ++ codes "\n"
