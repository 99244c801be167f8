use Rattle.engine.proofs.Kept.{fresh_sound, shown_sound}
use Rattle.engine.proofs.tables.Tables.new.Goals as goal

pub invariant_of-result : goal.invariant_of-result
invariant_of-result c = record { sound = shown_sound _ _ c.new.ensures fresh_sound }
