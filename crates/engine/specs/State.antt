-- The state of an engine, and the states after its calls.
--     State B                        an engine over a bank of type B
--     rows_of r, tables_of t         the state of the rows r, and of the tables t, over no bank
--     state_of e, fresh b            the state of the engine e; of a new engine over the bank b
--     task_at s n, pair_at s q       the task n, the pair q
--     hand_at s a                    the task that the agent a is busy with
--     next s                         the lowest number that is not given out
--     after_make s t p b             after a make that opened the tally t with its first place p; the bank is b
--     after_take s n                 the task n is in hand
--     after_signal s a n             the agent a is busy with the task n
--     after_claim s a n q b          the task n has claimed from the pair q, and is leaving
--     after_leave s a n b            the task n is done, and its agent a free
--     after_last s a n f b           the same, and its finish f is ready
--     after_ready s f                the finish f is ready
--     with_bank s b                  the bank is b, and all else as in s
use Rattle.std.specs.Prelude.{ℕ, ◌+◌, ◌*◌, List, replicate, Some, None, Option, slice_index_or, slice_set}
use Rattle.engine.specs.declared.engine.Engine.{Engine}
use Rattle.engine.specs.declared.rows.Rows.{Rows}
use Rattle.engine.specs.declared.tables.Tables.{Tables}
use Rattle.engine.specs.declared.task.Task.{Task}
use Rattle.engine.specs.declared.task.Pair.{Pair}
use Rattle.engine.specs.declared.task.Phase.TheVariants.{Ready, InHand, Busy, Done}
use Rattle.engine.specs.declared.task.Work.TheVariants.{Begun, Leaving}
use Rattle.engine.specs.Tasks.{blank, no_pair, final_task, root_task, twice, task_in, come, marked}

pub record State (B : Type 0) : Type 0 where
  pub tasks : List Task
  pub pairs : List Pair
  pub hands : List (Option ℕ)  -- the task that each agent is busy with
  pub rounds : ℕ  -- round r gave out the tasks 2 r and 2 r + 1, and the pair r
  pub bank : B

abbrev pub rows_of : Rows → State Unit
rows_of r = record { tasks = r.tasks; pairs = r.pairs; hands = r.hands; rounds = r.rounds; bank = tt }

abbrev pub tables_of : Tables → State Unit
tables_of t = rows_of t.rows

abbrev pub with_bank : {A B : Type 0} → State A → B → State B
with_bank s b = record { tasks = s.tasks; pairs = s.pairs; hands = s.hands; rounds = s.rounds; bank = b }

module _ {B : Type 0} where
  abbrev pub state_of : Engine B → State B
  state_of e = with_bank (tables_of e.tables) e.bank

  abbrev pub fresh : B → State B
  fresh b = record {
    tasks = replicate 1024 blank;
    pairs = replicate 512 no_pair;
    hands = replicate 16 None;
    rounds = 0;
    bank = b;
  }

  abbrev pub task_at : State B → ℕ → Task
  task_at s n = task_in s.tasks n

  abbrev pub pair_at : State B → ℕ → Pair
  pair_at s q = slice_index_or s.pairs q no_pair

  abbrev pub hand_at : State B → ℕ → Option ℕ
  hand_at s a = slice_index_or s.hands a None

  abbrev pub next : State B → ℕ
  next s = 2 * s.rounds

  abbrev pub after_make : State B → (t p : ℕ) → B → State B
  after_make s t p b = record s {
    tasks = slice_set (slice_set s.tasks (next s) (final_task t)) (next s + 1) (root_task (next s) p s.rounds);
    pairs = slice_set s.pairs s.rounds (twice p);
    rounds = s.rounds + 1;
    bank = b;
  }

  abbrev pub after_take : State B → ℕ → State B
  after_take s n = record s { tasks = come s.tasks n InHand }

  abbrev pub after_signal : State B → (a n : ℕ) → State B
  after_signal s a n = record s { tasks = come s.tasks n (Busy a Begun); hands = slice_set s.hands a (Some n) }

  abbrev pub after_claim : State B → (a n q : ℕ) → B → State B
  after_claim s a n q b = record s {
    tasks = come s.tasks n (Busy a Leaving);
    pairs = slice_set s.pairs q (marked (pair_at s q));
    bank = b;
  }

  abbrev pub after_leave : State B → (a n : ℕ) → B → State B
  after_leave s a n b = record s { tasks = come s.tasks n Done; hands = slice_set s.hands a None; bank = b }

  abbrev pub after_last : State B → (a n f : ℕ) → B → State B
  after_last s a n f b = record s {
    tasks = come (come s.tasks n Done) f Ready;
    hands = slice_set s.hands a None;
    bank = b;
  }

  abbrev pub after_ready : State B → ℕ → State B
  after_ready s f = record s { tasks = come s.tasks f Ready }
