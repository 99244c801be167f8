use Rattle.std.proofs.Common.{arith}
use Rattle.script.proofs.Numerals.{digits_are_text, parsed}
use Rattle.script.proofs.number.value.Goals as goal

pub returns-in_err-ok : goal.returns-in_err-ok
returns-in_err-ok c = let text = digits_are_text c.args.digits.now c.requires in grind arith

pub returns : goal.returns
returns c = parsed c.args.digits.now c.in_ok-ok.field-0.now c.parse.result c.ok-2.result c.requires (omega arith) (grind arith) c.parse.ensures.value.0 c.ok-2.ensures.value
