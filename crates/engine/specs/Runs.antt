-- One call with its answer, and a list of calls with their answers.
--     answered f r                         the answer to a call that returned r: of its value f makes an answer, and a refusal stands
--     Step means does s c a z              the call c is answered by a, from the state s to the state z
--     Run means does s cs rs z             the calls of cs in order, by the answers of rs
--     Runs means does b cs rs              the same, from a new engine over the bank b
use Rattle.std.specs.Prelude.{◌≡◌, ℕ, List, [], ◌∷◌, Ok, Err, Result}
use Rattle.banks.specs.Meaning.{Meaning}
use Rattle.banks.specs.Calls.{Request, Reply}
use Rattle.engine.specs.declared.call.Call.{Call}
use Rattle.engine.specs.declared.call.Call.TheVariants.{Make, Take, Signal, Turn}
use Rattle.engine.specs.declared.call.Answer.{Answer}
use Rattle.engine.specs.declared.call.Answer.TheVariants.{Made, Taken, Signalling, Moved as Came}
use Rattle.engine.specs.declared.call.Moved.{Moved}
use Rattle.engine.specs.declared.fault.EngineFault.{EngineFault}
use Rattle.engine.specs.State.{State, fresh}
use Rattle.engine.specs.Calls.{MakeOf, TakeOf, SignalOf, TurnOf}

abbrev pub answered : {X : Type 0} → (X → Answer) → Result X EngineFault → Result Answer EngineFault
answered f (Ok x) = Ok (f x)
answered f (Err e) = Err e

module _ {B : Type 0} (means : B → Meaning) (does : B → Request → Reply → B → Type 0) where
  abbrev pub Step : State B → Call → Result Answer EngineFault → State B → Type 0
  Step s Make a z = (r : Result (ℕ × ℕ) EngineFault) × (a ≡ answered (λ q. Made q.0 q.1) r) × MakeOf means does s r z
  Step s (Take n) a z = (r : Result Unit EngineFault) × (a ≡ answered (λ _. Taken) r) × TakeOf s n r z
  Step s (Signal g n) a z = (r : Result Unit EngineFault) × (a ≡ answered (λ _. Signalling) r) × SignalOf s g n r z
  Step s (Turn g) a z = (r : Result Moved EngineFault) × (a ≡ answered Came r) × TurnOf means does s g r z

  abbrev pub Run : State B → List Call → List (Result Answer EngineFault) → State B → Type 0
  Run s [] [] z = z ≡ s
  Run s [] (a ∷ rest) z = ⊥
  Run s (c ∷ cs) [] z = ⊥
  Run s (c ∷ cs) (a ∷ rest) z = (m : State B) × Step s c a m × Run m cs rest z

  abbrev pub Runs : B → List Call → List (Result Answer EngineFault) → Type 0
  Runs b cs rs = (z : State B) × Run (fresh b) cs rs z
