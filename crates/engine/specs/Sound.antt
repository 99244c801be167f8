-- What holds of every engine's tables.
--     Sound tasks pairs hands rounds      all of this:
--     Sized tasks pairs hands rounds      how long they are
--     Given tasks rounds                  the numbers of tasks that are born are given out
--     Held tasks                          a task in hand or busy has a finish
--     Known tasks rounds, Awaited tasks   a finish is given out, and has a tally
--     Paired tasks, Ranged tasks          a task with a finish has a pair, and pairs are in range
--     Last tasks                          a task with a tally has no finish
--     Handed tasks hands                  the task in an agent's hand is busy with that agent
use Rattle.std.specs.Prelude.{◌≡◌, ℕ, ◌*◌, ◌<◌, ◌≤◌, IsTrue, List, length, IsSome, IsNone, Some, None, Option, slice_index_or}
use Rattle.engine.specs.declared.task.Task.{Task}
use Rattle.engine.specs.declared.task.Pair.{Pair}
use Rattle.engine.specs.Tasks.{task_in, born?, held?, busy_by?}

abbrev pub Sized : List Task → List Pair → List (Option ℕ) → ℕ → Type 0
Sized tasks pairs hands rounds = (length tasks ≡ 1024) × (length pairs ≡ 512) × (length hands ≡ 16) × (rounds ≤ 512)

abbrev pub Given : List Task → ℕ → Type 0
Given tasks rounds = (n : ℕ) → IsTrue (born? (task_in tasks n).phase) → n < 2 * rounds

abbrev pub Held : List Task → Type 0
Held tasks = (n : ℕ) → IsTrue (held? (task_in tasks n).phase) → IsSome (task_in tasks n).finish

abbrev pub Known : List Task → ℕ → Type 0
Known tasks rounds = (n f : ℕ) → (task_in tasks n).finish ≡ Some f → f < 2 * rounds

abbrev pub Awaited : List Task → Type 0
Awaited tasks = (n f : ℕ) → (task_in tasks n).finish ≡ Some f → IsSome (task_in tasks f).tally

abbrev pub Paired : List Task → Type 0
Paired tasks = (n : ℕ) → IsSome (task_in tasks n).finish → IsSome (task_in tasks n).pair

abbrev pub Ranged : List Task → Type 0
Ranged tasks = (n q : ℕ) → (task_in tasks n).pair ≡ Some q → q < 512

abbrev pub Last : List Task → Type 0
Last tasks = (n : ℕ) → IsSome (task_in tasks n).tally → IsNone (task_in tasks n).finish

abbrev pub Handed : List Task → List (Option ℕ) → Type 0
Handed tasks hands = (a n : ℕ) → slice_index_or hands a None ≡ Some n → IsTrue (busy_by? a (task_in tasks n).phase)

pub record Sound (tasks : List Task) (pairs : List Pair) (hands : List (Option ℕ)) (rounds : ℕ) : Type 0 where
  pub sized : Sized tasks pairs hands rounds
  pub given : Given tasks rounds
  pub held : Held tasks
  pub known : Known tasks rounds
  pub awaited : Awaited tasks
  pub paired : Paired tasks
  pub ranged : Ranged tasks
  pub last : Last tasks
  pub handed : Handed tasks hands
