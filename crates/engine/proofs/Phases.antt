-- What one phase of a task says of another.
use Rattle.std.proofs.Common.{◌≡◌, ℕ, true, refl}
use Rattle.std.proofs.lemmas.Bool.{eqb-true}
use Rattle.engine.specs.declared.task.Phase.{Phase}
use Rattle.engine.specs.declared.task.Phase.TheVariants.{Unborn, Waiting, Ready, InHand, Busy, Done}
use Rattle.engine.specs.declared.task.Work.{Work}
use Rattle.engine.specs.Tasks.{born?, held?, busy_by?}

pub busy_held : (a : ℕ) (p : Phase) → busy_by? a p ≡ true → held? p ≡ true
busy_held a Unborn h = h
busy_held a Waiting h = h
busy_held a Ready h = h
busy_held a InHand h = refl
busy_held a (Busy b w) h = refl
busy_held a Done h = h

pub held_born : (p : Phase) → held? p ≡ true → born? p ≡ true
held_born Unborn h = h
held_born Waiting h = refl
held_born Ready h = refl
held_born InHand h = refl
held_born (Busy b w) h = refl
held_born Done h = refl

pub busy_is : (a : ℕ) (p : Phase) → busy_by? a p ≡ true → (w : Work) × (p ≡ Busy a w)
busy_is a Unborn h = cc
busy_is a Waiting h = cc
busy_is a Ready h = cc
busy_is a InHand h = cc
busy_is a (Busy b w) h = (w, cc (eqb-true a b h))
busy_is a Done h = cc
