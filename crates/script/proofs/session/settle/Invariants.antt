use Rattle.std.proofs.Common.{◌≡◌, ◌++◌, length, take, drop}
use Rattle.std.specs.Slice.Iter.{iter_rest}
use Rattle.script.specs.Settled.{calls_of, settled}
use Rattle.script.proofs.session.settle.Given as goal

abbrev pub invariant-loop-line : goal.invariant-loop-line
invariant-loop-line l = record {
  done : take l.line-index l.lines ++ settled (drop l.line-index l.lines) (iter_rest l.left) ≡ settled l.initial.lines l.answers;
  level : length (calls_of (drop l.line-index l.lines)) ≡ length (iter_rest l.left);
}
