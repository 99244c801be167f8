-- The meaning of a tally bank: what it shows in every state, when it refuses, and what each accepted call does.
--     Meaning                        what is known of a bank
--     receipts m t, crowd m t        receipts out at the tally t; these and the agents arriving there
--     Lawful m, New m                what holds in every state; in the first one
--     open_refusal m, ..             the number of the refusal that a call meets, if any, in their order
--     Opens m p w, Arrives .., Departs .., Goes .., Arrived .., Departed ..     accepted calls, from m to w
use Rattle.std.specs.Prelude.{◌≡◌, ℕ, ◌+◌, ◌-◌, ◌<◌, ◌≤◌, Bool, true, false, cond, not, Some, None, Option, ◌==◌, ◌≢◌, nat_le, nat_lt}
use Rattle.banks.specs.Counting.{put, one, sum}

-- what an agent is doing at the bank, with its tally
pub data Doing : Type 0 where
  idle : Doing
  arriving : ℕ → Doing
  departing : ℕ → Doing

-- whether an agent has an errand
abbrev pub works : Doing → Bool
works idle = false
works (arriving t) = true
works (departing t) = true

-- 1 for an agent that arrives at t
abbrev pub arrives : Doing → ℕ → ℕ
arrives idle t = 0
arrives (arriving u) t = one u t
arrives (departing u) t = 0

pub record Meaning : Type 0 where
  pub tallies : ℕ  -- how many tallies the bank has
  pub opened : ℕ  -- the tallies below it are open
  pub bound : ℕ  -- every place is below it
  pub out : ℕ → ℕ → ℕ  -- receipts out at a tally and place
  pub place : ℕ → ℕ → Bool  -- the arrival places of a tally
  pub doing : ℕ → Doing  -- of each agent
  pub zero? : ℕ → Bool  -- whether a tally reads zero, or else held
  pub lone : ℕ → ℕ  -- each agent's lone number: so many turns of its own end its errand if no other agent moves
  pub limit : ℕ  -- the bank's own limit on lone numbers

abbrev pub receipts : Meaning → ℕ → ℕ
receipts m t = sum (m.out t) m.bound

abbrev pub crowd : Meaning → ℕ → ℕ
crowd m t = receipts m t + sum (λ a. arrives (m.doing a) t) 16

pub record Lawful (m : Meaning) : Type 0 where
  pub bounded : m.tallies ≤ 256
  pub few : m.opened ≤ m.tallies
  pub low : m.limit ≤ 2000
  pub within : (a : ℕ) → m.lone a ≤ m.limit
  -- a lone number is 0 exactly when its agent is idle
  pub at_rest : (a : ℕ) → m.doing a ≡ idle → m.lone a ≡ 0
  pub at_work : (a : ℕ) → m.lone a ≡ 0 → m.doing a ≡ idle
  pub inside : (t p : ℕ) → m.bound ≤ p → m.out t p ≡ 0
  -- a tally reads held if a receipt is out or an agent is departing there
  pub held_out : (t p : ℕ) → t < m.opened → 1 ≤ m.out t p → m.zero? t ≡ false
  pub held_departing : (t a : ℕ) → t < m.opened → m.doing a ≡ departing t → m.zero? t ≡ false
  -- it reads zero if no receipt is out and no agent has an errand there; with arrivals alone there, either
  pub zero_none : (t : ℕ) → t < m.opened → ((p : ℕ) → m.out t p ≡ 0)
      → ((a : ℕ) → (m.doing a ≢ arriving t) × (m.doing a ≢ departing t)) → m.zero? t ≡ true

pub record New (m : Meaning) : Type 0 where
  pub none_open : m.opened ≡ 0
  pub none_out : (t p : ℕ) → m.out t p ≡ 0
  pub all_idle : (a : ℕ) → m.doing a ≡ idle
  pub lawful : Lawful m

-- The refusals of each call, in their order

abbrev pub open_refusal : Meaning → Option ℕ
open_refusal m = cond (nat_le m.tallies m.opened) (Some 11) None

abbrev pub arrive_refusal : Meaning → ℕ → ℕ → ℕ → Option ℕ
arrive_refusal m a t p =
    cond (nat_lt 15 a) (Some 12)
    (cond (works (m.doing a)) (Some 13)
    (cond (nat_le m.opened t) (Some 15)
    (cond (not (m.place t p)) (Some 16)
    (cond (nat_le 2048 (crowd m t)) (Some 17) None))))

abbrev pub depart_refusal : Meaning → ℕ → ℕ → ℕ → Option ℕ
depart_refusal m a t p =
    cond (nat_lt 15 a) (Some 12)
    (cond (works (m.doing a)) (Some 13)
    (cond (nat_le m.opened t) (Some 15)
    (cond (m.out t p == 0) (Some 18) None)))

abbrev pub turn_refusal : Meaning → ℕ → Option ℕ
turn_refusal m a = cond (nat_lt 15 a) (Some 12) (cond (works (m.doing a)) None (Some 14))

abbrev pub reading_refusal : Meaning → ℕ → Option ℕ
reading_refusal m t = cond (nat_le m.opened t) (Some 15) None

-- The accepted calls, from m to w

-- what every one keeps: an arrival place stays one
pub record Keeps (m w : Meaning) : Type 0 where
  pub tallies : w.tallies ≡ m.tallies
  pub bound : w.bound ≡ m.bound
  pub limit : w.limit ≡ m.limit
  pub places : (t p : ℕ) → m.place t p ≡ true → w.place t p ≡ true
  pub lawful : Lawful w

-- the next tally is open, with one receipt out at its first place p
pub record Opens (m : Meaning) (p : ℕ) (w : Meaning) : Type 0 where
  pub free : open_refusal m ≡ None
  pub keeps : Keeps m w
  pub opened : w.opened ≡ m.opened + 1
  pub out : w.out ≡ put m.out m.opened (one p)
  pub doing : w.doing ≡ m.doing
  pub first : w.place m.opened p ≡ true

-- the agent a is arriving at t
pub record Arrives (m : Meaning) (a t p : ℕ) (w : Meaning) : Type 0 where
  pub free : arrive_refusal m a t p ≡ None
  pub keeps : Keeps m w
  pub opened : w.opened ≡ m.opened
  pub out : w.out ≡ m.out
  pub doing : w.doing ≡ put m.doing a (arriving t)

-- a receipt has left the place p of t, and the agent a is departing
pub record Departs (m : Meaning) (a t p : ℕ) (w : Meaning) : Type 0 where
  pub free : depart_refusal m a t p ≡ None
  pub keeps : Keeps m w
  pub opened : w.opened ≡ m.opened
  pub out : w.out ≡ put m.out t (put (m.out t) p (m.out t p - 1))
  pub doing : w.doing ≡ put m.doing a (departing t)

-- what every turn of a does: its lone number falls; those of others may change
pub record Turns (m : Meaning) (a : ℕ) (w : Meaning) : Type 0 where
  pub free : turn_refusal m a ≡ None
  pub keeps : Keeps m w
  pub falls : w.lone a < m.lone a
  pub opened : w.opened ≡ m.opened

-- the errand goes on, with receipts and errands unchanged
pub record Goes (m : Meaning) (a : ℕ) (w : Meaning) : Type 0 where
  pub turns : Turns m a w
  pub out : w.out ≡ m.out
  pub doing : w.doing ≡ m.doing

-- an arrival at t has ended: a receipt is out at p, and l and r are places for later arrivals
pub record Arrived (m : Meaning) (a t p l r : ℕ) (w : Meaning) : Type 0 where
  pub turns : Turns m a w
  pub was : m.doing a ≡ arriving t
  pub out : w.out ≡ put m.out t (put (m.out t) p (m.out t p + 1))
  pub doing : w.doing ≡ put m.doing a idle
  pub left : w.place t l ≡ true
  pub right : w.place t r ≡ true

-- a departure from t has ended. It says drained exactly if the tally now reads zero
pub record Departed (m : Meaning) (a t : ℕ) (drained : Bool) (w : Meaning) : Type 0 where
  pub turns : Turns m a w
  pub was : m.doing a ≡ departing t
  pub out : w.out ≡ m.out
  pub doing : w.doing ≡ put m.doing a idle
  pub says : drained ≡ w.zero? t
