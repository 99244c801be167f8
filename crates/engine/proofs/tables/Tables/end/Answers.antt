use Rattle.std.proofs.Common.{ap, ◌∙◌}
use Rattle.engine.specs.State.{State, after_ready}
use Rattle.engine.proofs.Kept.{leave_sound, last_sound, shown_sound}
use Rattle.engine.proofs.tables.Tables.end.Goals as goal

pub invariant_of-self : goal.invariant_of-self
invariant_of-self c =
    let left = leave_sound c.args.self.now.sound c.args.agent c.args.n c.requires.0 c.requires.1 in
    record { sound = shown_sound _ _ c.leave.ensures left }

pub invariant_of-self-2 : goal.invariant_of-self-2
invariant_of-self-2 c =
    let finish = c.unwrap-finish.result in
    let drained = last_sound c.args.self.now.sound c.args.agent c.args.n finish c.requires.0 c.requires.1 (cc c.unwrap-finish.ensures) in
    record { sound = shown_sound _ _ (c.drain.ensures ∙ ap (λ (s : State Unit). after_ready s finish) c.leave.ensures) drained }
