use Rattle.std.proofs.Common.{◌≡◌, ◌+◌, ◌++◌, drop, string_bytes}
use Rattle.script.specs.Settled.{page_of}
use Rattle.script.proofs.session.page.Given as goal

abbrev pub invariant-loop-index : goal.invariant-loop-index
invariant-loop-index l = string_bytes l.out ++ page_of (l.index + 2) (drop l.index l.lines) ≡ page_of 2 l.lines
