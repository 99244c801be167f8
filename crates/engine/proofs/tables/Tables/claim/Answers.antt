use Rattle.engine.proofs.Kept.{claim_sound, shown_sound}
use Rattle.engine.proofs.tables.Tables.claim.Goals as goal

pub invariant_of-self : goal.invariant_of-self
invariant_of-self c =
    let claimed = claim_sound c.args.self.now.sound c.args.agent c.args.n c.args.pair _ c.requires.at.1 in
    record { sound = shown_sound _ _ c.claim.ensures claimed }
