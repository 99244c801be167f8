use Rattle.engine.proofs.Kept.{signal_sound, shown_sound}
use Rattle.engine.proofs.tables.Tables.begin.Goals as goal

pub invariant_of-self : goal.invariant_of-self
invariant_of-self c =
    let begun = signal_sound c.args.self.now.sound c.args.agent c.args.n c.requires.agent c.requires.task in
    record { sound = shown_sound _ _ c.begin.ensures begun }
