-- The calls of an engine by what they answer: from the state s to the state z. A refusal has its number, and leaves
-- the engine and its bank as they were. A call that asks the bank says what the bank shows, and what it does exactly.
--     MakeOf means does s r z, TakeOf s n r z, SignalOf s a n r z, TurnOf means does s a r z
--     Refuses own asked f            the fault f: the engine's own refusal, or one that the bank made when it was asked
--     Opening .. b r c, Departing .., Turning ..      the bank b is asked, answers r, and is c then
--     At s a n w                     the agent a is busy with the task n, which has come to w
--     Under s n f t                  the task n is under f, which has the tally t
--     Stakes s n t q                 what a signal of the task n departs from: its finish's tally t, and its pair q
--     ErrandOf s a r                 r is the agent's task with its work, or why it has none
--     Moves .. s a n w m z, Stops .. s a n w b        a turn at w comes to m, or is refused by the bank with b
--     Leaves s a n d m z             a turn at leaving comes to m, where the bank's turn came to d
--     WorkOf .. s a n w r z          Moves or Stops, by the result r
use Rattle.std.specs.Prelude.{◌≡◌, ℕ, ◌+◌, true, false, Some, None, Ok, Err, Option, Result, MatchOption}
use Rattle.banks.specs.declared.answer.Turned.{Turned}
use Rattle.banks.specs.declared.answer.Turned.TheVariants as came
use Rattle.banks.specs.declared.fault.BankFault.{BankFault}
use Rattle.banks.specs.Meaning.{Meaning}
use Rattle.banks.specs.Calls as banks
use Rattle.banks.specs.Calls.{Request, Reply}
use Rattle.engine.specs.declared.call.Moved.{Moved}
use Rattle.engine.specs.declared.call.Moved.TheVariants.{Going, Signalled, Ready}
use Rattle.engine.specs.declared.fault.EngineFault.{EngineFault}
use Rattle.engine.specs.declared.task.Phase.TheVariants.{Busy}
use Rattle.engine.specs.declared.task.Work.{Work}
use Rattle.engine.specs.declared.task.Work.TheVariants.{Begun, Leaving}
use Rattle.engine.specs.Tasks.{claimed}
use Rattle.engine.specs.State.{
  State,
  task_at,
  pair_at,
  hand_at,
  next,
  with_bank,
  after_make,
  after_take,
  after_signal,
  after_claim,
  after_leave,
  after_last,
}
use Rattle.engine.specs.Refusals.{number_of, bank_fault, make_refusal, take_refusal, signal_refusal, turn_refusal}

abbrev pub Refuses : Option ℕ → (BankFault → Type 0) → EngineFault → Type 0
Refuses own asked f = MatchOption (bank_fault f) (own ≡ Some (number_of f)) (λ b. (own ≡ None) × asked b)

module _ {B : Type 0} where
  abbrev pub TakeOf : State B → ℕ → Result Unit EngineFault → State B → Type 0
  TakeOf s n (Ok u) z = (take_refusal s n ≡ None) × (z ≡ after_take s n)
  TakeOf s n (Err f) z = (take_refusal s n ≡ Some (number_of f)) × (z ≡ s)

  abbrev pub SignalOf : State B → (a n : ℕ) → Result Unit EngineFault → State B → Type 0
  SignalOf s a n (Ok u) z = (signal_refusal s a n ≡ None) × (z ≡ after_signal s a n)
  SignalOf s a n (Err f) z = (signal_refusal s a n ≡ Some (number_of f)) × (z ≡ s)

  abbrev pub At : State B → (a n : ℕ) → Work → Type 0
  At s a n w = (hand_at s a ≡ Some n) × ((task_at s n).phase ≡ Busy a w)

  abbrev pub Under : State B → (n f t : ℕ) → Type 0
  Under s n f t = ((task_at s n).finish ≡ Some f) × ((task_at s f).tally ≡ Some t)

  abbrev pub Stakes : State B → (n t q : ℕ) → Type 0
  Stakes s n t q = (f : ℕ) × Under s n f t × ((task_at s n).pair ≡ Some q)

  abbrev pub ErrandOf : State B → ℕ → Result (ℕ × Work) EngineFault → Type 0
  ErrandOf s a (Ok e) = (turn_refusal s a ≡ None) × At s a e.0 e.1
  ErrandOf s a (Err f) = (turn_refusal s a ≡ Some (number_of f)) × (bank_fault f ≡ None)

  abbrev pub Leaves : State B → (a n : ℕ) → Turned → Moved → State B → Type 0
  Leaves s a n came.Going m z = (m ≡ Going) × (z ≡ with_bank s z.bank)
  -- cannot come, since the agent is departing; but no fact of the engine alone says so
  Leaves s a n (came.Arrived p l r) m z = (m ≡ Going) × (z ≡ with_bank s z.bank)
  Leaves s a n (came.Departed false) m z = (m ≡ Signalled) × (z ≡ after_leave s a n z.bank)
  Leaves s a n (came.Departed true) m z =
      (f : ℕ) × ((task_at s n).finish ≡ Some f) × (m ≡ Ready f) × (z ≡ after_last s a n f z.bank)

module _ {B : Type 0} (means : B → Meaning) (does : B → Request → Reply → B → Type 0) where
  abbrev pub Opening : B → Result (ℕ × ℕ) BankFault → B → Type 0
  Opening b r c = banks.OpenOf means b r c × does b banks.open_one (banks.opened r) c

  abbrev pub Departing : B → (a t p : ℕ) → Result Unit BankFault → B → Type 0
  Departing b a t p r c = banks.DepartOf means b a t p r c × does b (banks.depart a t p) (banks.begun r) c

  abbrev pub Turning : B → ℕ → Result Turned BankFault → B → Type 0
  Turning b a r c = banks.TurnOf means b a r c × does b (banks.turn a) (banks.turned r) c

  abbrev pub MakeOf : State B → Result (ℕ × ℕ) EngineFault → State B → Type 0
  MakeOf s (Ok q) z =
      (make_refusal s ≡ None) × (q ≡ (next s, next s + 1))
      × ((o : ℕ × ℕ) × Opening s.bank (Ok o) z.bank × (z ≡ after_make s o.0 o.1 z.bank))
  MakeOf s (Err f) z = Refuses (make_refusal s) (λ b. Opening s.bank (Err b) s.bank) f × (z ≡ s)

  abbrev pub Moves : State B → (a n : ℕ) → Work → Moved → State B → Type 0
  Moves s a n Begun m z =
      (t q : ℕ) × Stakes s n t q × Departing s.bank a t (claimed (pair_at s q)) (Ok tt) z.bank × (m ≡ Going) × (z ≡ after_claim s a n q z.bank)
  Moves s a n Leaving m z = (d : Turned) × Turning s.bank a (Ok d) z.bank × Leaves s a n d m z

  abbrev pub Stops : State B → (a n : ℕ) → Work → BankFault → Type 0
  Stops s a n Begun b =
      (t q : ℕ) × Stakes s n t q × Departing s.bank a t (claimed (pair_at s q)) (Err b) s.bank
  Stops s a n Leaving b = Turning s.bank a (Err b) s.bank

  abbrev pub WorkOf : State B → (a n : ℕ) → Work → Result Moved EngineFault → State B → Type 0
  WorkOf s a n w (Ok m) z = Moves s a n w m z
  WorkOf s a n w (Err f) z = MatchOption (bank_fault f) ⊥ (Stops s a n w) × (z ≡ s)

  abbrev pub TurnOf : State B → ℕ → Result Moved EngineFault → State B → Type 0
  TurnOf s a (Ok m) z = (turn_refusal s a ≡ None) × ((n : ℕ) × (w : Work) × At s a n w × Moves s a n w m z)
  TurnOf s a (Err f) z =
      Refuses (turn_refusal s a) (λ b. (n : ℕ) × (w : Work) × At s a n w × Stops s a n w b) f × (z ≡ s)
