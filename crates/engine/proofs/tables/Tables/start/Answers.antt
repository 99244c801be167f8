use Rattle.engine.proofs.Kept.{make_sound, shown_sound}
use Rattle.engine.proofs.tables.Tables.start.Goals as goal

pub invariant_of-self : goal.invariant_of-self
invariant_of-self c =
    record { sound = shown_sound _ _ c.start.ensures.rows (make_sound c.args.self.now.sound c.args.tally c.args.place _ c.requires) }
