use Rattle.std.proofs.Common.{subst}
use Rattle.std.proofs.lemmas.Option.{MatchOption-at_some}
use Rattle.std.proofs.lemmas.Result.{err_from_is_err_and}
use Rattle.script.specs.Spelling.{Names}
use Rattle.script.proofs.Cuts.{cut_once}
use Rattle.script.proofs.script.begin.Goals as goal

pub returns-in_err-bank_of : goal.returns-in_err-bank_of
returns-in_err-bank_of c =
    let p = err_from_is_err_and c.from_residual-in_err-bank_of.result c.from_residual-in_err-bank_of.ensures.1 in
    let none = c.in_err-bank_of.ensures in
    let whole = MatchOption-at_some _ _ _ c.in_ok-first.ensures.ok_part c.cut.ensures in
    rw (p.1, p.2) (
      none.0,
      λ first rest k cut n. none.1 k (subst (λ l. Names l k) (cut_once c.args.input.now first rest _ _ cut whole).0 n),
    )
