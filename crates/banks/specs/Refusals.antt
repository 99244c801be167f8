-- The refusals of layer B, each with its number.
use Rattle.std.specs.Prelude.{ℕ}
use Rattle.banks.specs.declared.fault.BankFault.{BankFault}
use Rattle.banks.specs.declared.fault.BankFault.TheVariants.{Full, NoAgent, HasErrand, Idle, NotOpen, NoPlace, Crowded, NoReceipt}

abbrev pub number : BankFault → ℕ
number Full = 11
number NoAgent = 12
number HasErrand = 13
number Idle = 14
number NotOpen = 15
number NoPlace = 16
number Crowded = 17
number NoReceipt = 18
