use Rattle.std.proofs.Common.{◌≡◌, ℕ, List, ◌++◌, length, take, drop}
use Rattle.script.specs.Spelling.{Numbers}
use Rattle.script.proofs.number.numbers.Given as goal

-- what is left goes on after the numbers found, and is what any such list of numbers goes on with
abbrev pub invariant-loop-slot : goal.invariant-loop-slot
invariant-loop-slot g l = record {
  room : length l.slot-items ≡ g.row.N;
  found : (ms : List ℕ) → Numbers l.rest ms → Numbers l.s (take l.slot-index l.slot-items ++ ms);
  left : (ns : List ℕ) → length ns ≡ g.row.N → Numbers l.s ns → Numbers l.rest (drop l.slot-index ns);
}
