-- The refusals of layer W, each with its number.
use Rattle.std.specs.Prelude.{ℕ}
use Rattle.words.specs.declared.fault.WordFault.{WordFault}
use Rattle.words.specs.declared.fault.WordFault.TheVariants.{Unlawful}

abbrev pub number : WordFault → ℕ
number Unlawful = 19
