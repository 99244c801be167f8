-- The lines of a script after the first as one list, in which answers take the places of calls.
--     spelled r                    the line that spells r, with no answer yet
--     answered a                   the line whose call was answered by a
--     Unanswered bs ls             ls are the lines of bs, and no call has its answer yet
--     call_of l                    the call of the line l that has no answer yet
--     calls_of ls                  those calls of the lines ls
--     settled ls answers           the lines ls, with the answers in the places of their calls
--     IsTold l                     the line l has no call without an answer
--     AskedOf means does b ls ms   the bank b takes the calls of the lines ls, and ms are those lines with the answers
--     page_of k ls                 what is printed of the lines ls, which begin at line k
use Rattle.std.specs.Prelude.{◌≡◌, ℕ, ◌+◌, List, [], ◌∷◌, ◌++◌, map, Some, None, Option, Ok, Err, Result}
use Rattle.std.specs.List.{filter_map}
use Rattle.banks.specs.Calls.{Request, Reply}
use Rattle.banks.specs.Meaning.{Meaning}
use Rattle.engine.specs.Runs.{Runs}
use Rattle.engine.specs.declared.call.Answer.{Answer}
use Rattle.engine.specs.declared.call.Call.{Call}
use Rattle.engine.specs.declared.fault.EngineFault.{EngineFault}
use Rattle.script.specs.declared.fault.Fault.{Fault}
use Rattle.script.specs.declared.fault.Fault.TheVariants.{Engine}
use Rattle.script.specs.declared.line.Line.{Line}
use Rattle.script.specs.declared.line.Line.TheVariants.{Asks, Answered, Refused}
use Rattle.script.specs.Lines.{Reads}
use Rattle.script.specs.Texts.{told_text, row}

abbrev pub spelled : Result Call Fault → Line
spelled (Ok c) = Asks c
spelled (Err f) = Refused f

abbrev pub answered : Result Answer EngineFault → Line
answered (Ok a) = Answered a
answered (Err e) = Refused (Engine e)

abbrev pub Unanswered : List ℕ → List Line → Type 0
Unanswered bs ls = (rs : List (Result Call Fault)) × Reads bs rs × (ls ≡ map spelled rs)

abbrev pub call_of : Line → Option Call
call_of (Asks c) = Some c
call_of (Answered a) = None
call_of (Refused f) = None

abbrev pub calls_of : List Line → List Call
calls_of ls = filter_map call_of ls

-- there are as many answers as calls, so the second case does not arise
abbrev pub settled : List Line → List (Result Answer EngineFault) → List Line
settled [] answers = []
settled (Asks c ∷ ls) [] = []
settled (Asks c ∷ ls) (a ∷ answers) = answered a ∷ settled ls answers
settled (Answered b ∷ ls) answers = Answered b ∷ settled ls answers
settled (Refused f ∷ ls) answers = Refused f ∷ settled ls answers

abbrev pub IsTold : Line → Type 0
IsTold l = call_of l ≡ None

pub record AskedOf {B : Type 0} (means : B → Meaning) (does : B → Request → Reply → B → Type 0) (b : B) (ls ms : List Line) : Type 0 where
  pub answers : List (Result Answer EngineFault)
  pub runs : Runs means does b (calls_of ls) answers
  pub settles : ms ≡ settled ls answers

-- each line is told, so the second case does not arise
abbrev pub page_of : ℕ → List Line → List ℕ
page_of k [] = []
page_of k (Asks c ∷ ls) = page_of (k + 1) ls
page_of k (Answered a ∷ ls) = row (told_text k (Ok a)) ++ page_of (k + 1) ls
page_of k (Refused f ∷ ls) = row (told_text k (Err f)) ++ page_of (k + 1) ls
