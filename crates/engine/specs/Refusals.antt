-- What an engine refuses: each fault's layer and number, and the refusals of each call in their order.
--     layer_of f, number_of f         of the fault f; a bank's fault keeps its own
--     bank_fault f                    the bank's fault that f carries
--     refusal_of r                    the number of the fault in the result r, if any
--     make_refusal s, take_refusal s n, signal_refusal s a n, turn_refusal s a
--                                    the number of the refusal that a call meets before the bank is asked, if any
use Rattle.std.specs.Prelude.{ℕ, if◌then◌else◌, not, List, is_some, Some, None, Ok, Err, codes, Option, Result, nat_le, nat_lt}
use Rattle.banks.specs.declared.fault.BankFault.{BankFault}
use Rattle.banks.specs.Refusals as banks
use Rattle.engine.specs.declared.fault.EngineFault.{EngineFault}
use Rattle.engine.specs.declared.fault.EngineFault.TheVariants.{NoAgent, HasErrand, NoErrand, NotReady, NoFinish, NotInHand, NoNumbers, Bank}
use Rattle.engine.specs.Tasks.{ready?, in_hand?}
use Rattle.engine.specs.State.{State, task_at, hand_at}

abbrev pub layer_of : EngineFault → List ℕ
layer_of (Bank f) = codes "B"
layer_of _ = codes "E"

abbrev pub number_of : EngineFault → ℕ
number_of NoAgent = 1
number_of HasErrand = 2
number_of NoErrand = 3
number_of NotReady = 4
number_of NoFinish = 5
number_of NotInHand = 6
number_of NoNumbers = 7
number_of (Bank f) = banks.number f

abbrev pub bank_fault : EngineFault → Option BankFault
bank_fault (Bank f) = Some f
bank_fault _ = None

abbrev pub refusal_of : {X : Type 0} → Result X EngineFault → Option ℕ
refusal_of (Ok x) = None
refusal_of (Err f) = Some (number_of f)

module _ {B : Type 0} where
  abbrev pub make_refusal : State B → Option ℕ
  make_refusal s = if nat_le 512 s.rounds then Some 7 else None

  abbrev pub take_refusal : State B → ℕ → Option ℕ
  take_refusal s n =
      if not (ready? (task_at s n).phase) then Some 4
      else if not (is_some (task_at s n).finish) then Some 5
      else None

  abbrev pub signal_refusal : State B → ℕ → ℕ → Option ℕ
  signal_refusal s a n =
      if nat_lt 15 a then Some 1
      else if is_some (hand_at s a) then Some 2
      else if not (in_hand? (task_at s n).phase) then Some 6
      else None

  abbrev pub turn_refusal : State B → ℕ → Option ℕ
  turn_refusal s a =
      if nat_lt 15 a then Some 1
      else if is_some (hand_at s a) then None
      else Some 3
