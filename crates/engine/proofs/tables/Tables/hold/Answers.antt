use Rattle.engine.proofs.Kept.{take_sound, shown_sound}
use Rattle.engine.proofs.tables.Tables.hold.Goals as goal

pub invariant_of-self : goal.invariant_of-self
invariant_of-self c =
    record { sound = shown_sound _ _ c.hold.ensures (take_sound c.args.self.now.sound c.args.n c.requires.ready c.requires.finish) }
