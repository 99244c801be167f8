-- Tasks and pairs, what the calls make of them, and tests of a phase.
--     blank, no_pair                 what stands at a number that is not given out
--     final_task t                   waits on the tally t
--     root_task f p q                ready under the task f, at the place p, with the pair q
--     in_phase k p                   the task k, come to the phase p
--     task_in ks n                   the task n of the tasks ks
--     come ks n p                    the tasks ks, with the task n come to the phase p
--     twice p                        the receipt at p twice, unmarked
--     claimed q, marked q            the receipt that a claim takes from the pair q, and the pair after it
--     born? p, ready? p, in_hand? p, held? p, busy_by? a p
use Rattle.std.specs.Prelude.{ℕ, Bool, true, false, if◌then◌else◌, List, Some, None, ◌==◌, slice_index_or, slice_set}
use Rattle.banks.specs.declared.answer.Side.TheVariants.{Left}
use Rattle.engine.specs.declared.task.Task.{Task}
use Rattle.engine.specs.declared.task.Pair.{Pair}
use Rattle.engine.specs.declared.task.Phase.{Phase}
use Rattle.engine.specs.declared.task.Phase.TheVariants.{Unborn, Waiting, Ready, InHand, Busy}

abbrev pub blank : Task
blank = record { phase = Unborn; finish = None; tally = None; place = 0; side = Left; pair = None }

abbrev pub no_pair : Pair
no_pair = record { first = 0; second = 0; mark = false }

abbrev pub final_task : ℕ → Task
final_task t = record blank { phase = Waiting; tally = Some t }

abbrev pub root_task : ℕ → ℕ → ℕ → Task
root_task f p q = record blank { phase = Ready; finish = Some f; place = p; pair = Some q }

abbrev pub in_phase : Task → Phase → Task
in_phase k p = record k { phase = p }

abbrev pub task_in : List Task → ℕ → Task
task_in ks n = slice_index_or ks n blank

abbrev pub come : List Task → ℕ → Phase → List Task
come ks n p = slice_set ks n (in_phase (task_in ks n) p)

abbrev pub twice : ℕ → Pair
twice p = record { first = p; second = p; mark = false }

abbrev pub claimed : Pair → ℕ
claimed q = if q.mark then q.second else q.first

abbrev pub marked : Pair → Pair
marked q = record q { mark = true }

-- its number is given out
abbrev pub born? : Phase → Bool
born? Unborn = false
born? _ = true

abbrev pub ready? : Phase → Bool
ready? Ready = true
ready? _ = false

abbrev pub in_hand? : Phase → Bool
in_hand? InHand = true
in_hand? _ = false

-- in hand or busy
abbrev pub held? : Phase → Bool
held? InHand = true
held? (Busy a w) = true
held? _ = false

abbrev pub busy_by? : ℕ → Phase → Bool
busy_by? a (Busy b w) = a == b
busy_by? a _ = false
