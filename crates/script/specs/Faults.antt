-- What is printed of a fault: the layer where it arose, and its number there.
--     fault_text f         the text of f
use Rattle.std.specs.Prelude.{ℕ, List, ◌++◌, codes, decimal}
use Rattle.engine.specs.Refusals.{layer_of, number_of}
use Rattle.script.specs.declared.fault.Fault.{Fault}
use Rattle.script.specs.declared.fault.Fault.TheVariants.{Unknown, Malformed, TooLong, Engine}

abbrev pub fault_text : Fault → List ℕ
fault_text Unknown = codes "S 21"
fault_text Malformed = codes "S 22"
fault_text TooLong = codes "S 23"
fault_text (Engine e) = layer_of e ++ (codes " " ++ decimal (number_of e))
