-- The calls of a bank by what they answer: from the bank b to the bank c. A refusal has its number, and leaves the
-- bank as it was.
--     OpenOf means b r c, ArriveOf .., DepartOf .., TurnOf .., ReadOf ..
--     Request, Reply       a call with its arguments, and its answer: what a bank's exact relation speaks of
use Rattle.std.specs.Prelude.{◌≡◌, ℕ, true, false, Some, None, Ok, Err, Result}
use Rattle.banks.specs.declared.answer.Coin.{Coin}
use Rattle.banks.specs.declared.answer.Reading.{Reading}
use Rattle.banks.specs.declared.answer.Reading.TheVariants.{Held, Zero}
use Rattle.banks.specs.declared.answer.Side.{Side}
use Rattle.banks.specs.declared.answer.Turned.{Turned}
use Rattle.banks.specs.declared.answer.Turned.TheVariants as came
use Rattle.banks.specs.declared.fault.BankFault.{BankFault}
use Rattle.banks.specs.Refusals.{number}
use Rattle.banks.specs.Meaning.{Meaning, Opens, Arrives, Departs, Goes, Arrived, Departed, open_refusal, arrive_refusal, depart_refusal, turn_refusal, reading_refusal}

pub data Request : Type 0 where
  open_one : Request
  arrive : (agent tally place : ℕ) → Side → Coin → Request
  depart : (agent tally place : ℕ) → Request
  turn : (agent : ℕ) → Request
  reading : (tally : ℕ) → Request

pub data Reply : Type 0 where
  opened : Result (ℕ × ℕ) BankFault → Reply
  begun : Result Unit BankFault → Reply
  turned : Result Turned BankFault → Reply
  reads : Result Reading BankFault → Reply

abbrev pub OpenOf : {B : Type 0} → (B → Meaning) → B → Result (ℕ × ℕ) BankFault → B → Type 0
OpenOf means b (Ok q) c = (q.0 ≡ (means b).opened) × Opens (means b) q.1 (means c)
OpenOf means b (Err f) c = (open_refusal (means b) ≡ Some (number f)) × (c ≡ b)

abbrev pub ArriveOf : {B : Type 0} → (B → Meaning) → B → (a t p : ℕ) → Result Unit BankFault → B → Type 0
ArriveOf means b a t p (Ok u) c = Arrives (means b) a t p (means c)
ArriveOf means b a t p (Err f) c = (arrive_refusal (means b) a t p ≡ Some (number f)) × (c ≡ b)

abbrev pub DepartOf : {B : Type 0} → (B → Meaning) → B → (a t p : ℕ) → Result Unit BankFault → B → Type 0
DepartOf means b a t p (Ok u) c = Departs (means b) a t p (means c)
DepartOf means b a t p (Err f) c = (depart_refusal (means b) a t p ≡ Some (number f)) × (c ≡ b)

-- what a turn of a comes to
abbrev pub ComesTo : Meaning → ℕ → Turned → Meaning → Type 0
ComesTo m a came.Going w = Goes m a w
ComesTo m a (came.Arrived p l r) w = (t : ℕ) × Arrived m a t p l r w
ComesTo m a (came.Departed drained) w = (t : ℕ) × Departed m a t drained w

abbrev pub TurnOf : {B : Type 0} → (B → Meaning) → B → ℕ → Result Turned BankFault → B → Type 0
TurnOf means b a (Ok r) c = ComesTo (means b) a r (means c)
TurnOf means b a (Err f) c = (turn_refusal (means b) a ≡ Some (number f)) × (c ≡ b)

abbrev pub ReadOf : Meaning → ℕ → Result Reading BankFault → Type 0
ReadOf m t (Ok Zero) = (reading_refusal m t ≡ None) × (m.zero? t ≡ true)
ReadOf m t (Ok Held) = (reading_refusal m t ≡ None) × (m.zero? t ≡ false)
ReadOf m t (Err f) = reading_refusal m t ≡ Some (number f)
