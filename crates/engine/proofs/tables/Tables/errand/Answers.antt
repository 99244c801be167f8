use Rattle.std.proofs.Common.{sym, ◌∙◌, rules}
use Rattle.engine.proofs.Sound.{busy_at}
use Rattle.engine.proofs.tables.Tables.errand.Goals as goal

pub unreachable-requires : goal.unreachable-requires
unreachable-requires c =
    let hand = sym c.in_ok-hand.ensures.hand ∙ c.in_ok-n.ensures.ok_part in
    let busy = busy_at c.args.self.now.sound c.args.agent c.in_ok-n.n hand in
    c.in_default.not-Busy c.args.agent busy.0 (cc busy.1)

pub returns : goal.returns
returns c =
    let hand = sym c.in_ok-hand.ensures.hand ∙ c.in_ok-n.ensures.ok_part in
    let busy = busy_at c.args.self.now.sound c.args.agent c.in_ok-n.n hand in
    (search rules, (hand, cc busy.1))
