-- What is told of the lines of a script after the first.
--     calls_in rs                   the calls among the lines rs
--     outcome a                     the outcome of a line whose call the engine answered by a
--     page_from k rs answers        what is printed of the lines rs, which begin at line k, where the calls among them were answered so
--     Session means does b bs out   the bank b takes the calls among the lines of bs, and out is printed
use Rattle.std.specs.Prelude.{◌≡◌, ℕ, ◌+◌, List, [], ◌∷◌, ◌++◌, Ok, Err, Result}
use Rattle.std.specs.List.{filter_map}
use Rattle.std.specs.Result.{result_ok}
use Rattle.banks.specs.Calls.{Request, Reply}
use Rattle.banks.specs.Meaning.{Meaning}
use Rattle.engine.specs.Runs.{Runs}
use Rattle.engine.specs.declared.call.Answer.{Answer}
use Rattle.engine.specs.declared.call.Call.{Call}
use Rattle.engine.specs.declared.fault.EngineFault.{EngineFault}
use Rattle.script.specs.declared.fault.Fault.{Fault}
use Rattle.script.specs.declared.fault.Fault.TheVariants.{Engine}
use Rattle.script.specs.Lines.{Reads}
use Rattle.script.specs.Texts.{told_text, row}

abbrev pub calls_in : List (Result Call Fault) → List Call
calls_in rs = filter_map result_ok rs

abbrev pub outcome : Result Answer EngineFault → Result Answer Fault
outcome (Ok a) = Ok a
outcome (Err e) = Err (Engine e)

-- there are as many answers as calls, so the third case does not arise
abbrev pub page_from : ℕ → List (Result Call Fault) → List (Result Answer EngineFault) → List ℕ
page_from k [] answers = []
page_from k (Err f ∷ rs) answers = row (told_text k (Err f)) ++ page_from (k + 1) rs answers
page_from k (Ok c ∷ rs) [] = []
page_from k (Ok c ∷ rs) (a ∷ answers) = row (told_text k (outcome a)) ++ page_from (k + 1) rs answers

pub record Session {B : Type 0} (means : B → Meaning) (does : B → Request → Reply → B → Type 0) (b : B) (bs out : List ℕ) : Type 0 where
  pub lines : List (Result Call Fault)
  pub answers : List (Result Answer EngineFault)
  pub reads : Reads bs lines
  pub runs : Runs means does b (calls_in lines) answers
  pub prints : out ≡ page_from 2 lines answers
