-- Banks over one machine: they differ in how their nodes are laid, where an arrival starts, and what a place is.
--     Layout                         what differs
--     may_arrive L B a t p, may_depart L B a t p     whether a call is let through, or its refusal
--     opens L B, sends B a t e, leaves B a t x, turns B a     the tables after a call that is let through
--     performed L B q                the answer to the call q, and the tables after it
--     Did L B q r C                  the call q is answered r, and takes the tables B to C
use Rattle.std.specs.Prelude.{◌≡◌, ℕ, ◌+◌, ◌-◌, ◌*◌, Bool, true, false, cond, Ok, Err, Result, ◌==◌, slice_set}
use Rattle.words.specs.declared.kind.Kind.{Kind}
use Rattle.words.specs.declared.kind.Kind.TheVariants.{Empty, Half, Counted}
use Rattle.banks.specs.declared.answer.Coin.{Coin}
use Rattle.banks.specs.declared.answer.Reading.{Reading}
use Rattle.banks.specs.declared.answer.Reading.TheVariants.{Held, Zero}
use Rattle.banks.specs.declared.answer.Side.{Side}
use Rattle.banks.specs.declared.answer.Turned.{Turned}
use Rattle.banks.specs.declared.answer.Turned.TheVariants as came
use Rattle.forest.specs.declared.errand.Errand.{Errand}
use Rattle.forest.specs.declared.errand.Phase.{Phase}
use Rattle.forest.specs.declared.errand.Phase.TheVariants.{Idle, Grow, Fork, Read, Raise, Open, Settle, Look, Lower}
use Rattle.forest.specs.declared.errand.Said.{Said}
use Rattle.forest.specs.declared.errand.Said.TheVariants.{Going, Arrived, Departed}
use Rattle.banks.specs.declared.fault.BankFault.{BankFault}
use Rattle.banks.specs.declared.fault.BankFault.TheVariants.{NoPlace, NoReceipt}
use Rattle.banks.specs.Calls.{Request, open_one, arrive, depart, turn, reading, Reply, opened, begun, turned, reads}
use Rattle.forest.specs.Errands.{goer}
use Rattle.forest.specs.Ledgers.{Test, job, may_open, free, shut, roomy, may_turn}
use Rattle.forest.specs.Ledgers as ledgers
use Rattle.forest.specs.Tables.{Tables, root_node, at, taken, grows, forks, climbs, after_turn}

pub record Layout : Type 0 where
  pub width : ℕ  -- so many nodes are laid for each tally from the start; the first of them is its root
  pub depth : ℕ  -- no node is deeper
  pub growth : ℕ  -- 1 where an arrival begins with the growth turns, else 0
  pub limit : ℕ  -- the limit on lone numbers
  pub first : ℕ → ℕ  -- the first place of a tally
  pub base : ℕ → ℕ  -- the place p of the tally t is the node base t + p
  pub bound : Tables → ℕ  -- every place is below it
  pub has : Tables → ℕ → ℕ → Bool  -- the places of an open tally
  pub takes : Tables → ℕ → ℕ → Bool  -- its arrival places
  pub start : ℕ → ℕ → ℕ → Side → Coin → Errand  -- how an arrival of an agent at a tally and place begins

-- r, then s
abbrev pub and_then : Test → Test → Test
and_then (Ok u) s = s
and_then (Err f) s = Err f

abbrev pub may_arrive : Layout → Tables → (a t p : ℕ) → Test
may_arrive L B a t p = and_then (free B.ledger a) (and_then (shut B.ledger t) (cond (L.takes B t p) (roomy B.ledger t) (Err NoPlace)))

-- the receipts out at a place of an open tally
abbrev pub out_at : Layout → Tables → ℕ → ℕ → ℕ
out_at L B t p = cond (L.has B t p) (at B.nodes (L.base t + p)).out 0

abbrev pub may_depart : Layout → Tables → (a t p : ℕ) → Test
may_depart L B a t p = and_then (free B.ledger a) (and_then (shut B.ledger t) (cond (out_at L B t p == 0) (Err NoReceipt) (Ok tt)))

abbrev pub root : Layout → ℕ → ℕ
root L t = L.width * t

abbrev pub opens : Layout → Tables → Tables
opens L B = record {
  nodes = slice_set B.nodes (root L B.ledger.opened) (root_node B.ledger.opened);
  ledger = ledgers.opens B.ledger;
  tallies = B.tallies;
  used = B.used;
}

abbrev pub sends : Tables → ℕ → ℕ → Errand → Tables
sends B a t e = record { nodes = B.nodes; ledger = ledgers.sends B.ledger a t e; tallies = B.tallies; used = B.used }

-- a receipt leaves the node x
abbrev pub leaves : Tables → (a t x : ℕ) → Tables
leaves B a t x = record { nodes = taken x B.nodes; ledger = ledgers.takes B.ledger a t (goer t x); tallies = B.tallies; used = B.used }

abbrev pub turns_by : Phase → Tables → ℕ → Tables
turns_by Idle B a = B
turns_by (Grow s c) B a = grows B a s c
turns_by (Fork s) B a = forks B a s
turns_by Read B a = climbs B a
turns_by Raise B a = climbs B a
turns_by Open B a = climbs B a
turns_by Settle B a = climbs B a
turns_by Look B a = climbs B a
turns_by Lower B a = climbs B a

abbrev pub turns : Tables → ℕ → Tables
turns B a = turns_by (job B.ledger a).phase B a

-- what a turn is heard to say, with the places for the nodes
abbrev pub heard : ℕ → ℕ × ℕ → Said → Turned
heard base later Going = came.Going
heard base later (Arrived x) = came.Arrived (x - base) later.0 later.1
heard base later (Departed drained) = came.Departed drained

abbrev pub heard_of : Layout → Tables → ℕ → Turned
heard_of L B a = let e = job B.ledger a in heard (L.base e.tally) e.later (after_turn B a).said

abbrev pub empty? : Kind → Bool
empty? Empty = true
empty? Half = false
empty? Counted = false

abbrev pub read_by : Bool → Reading
read_by true = Zero
read_by false = Held

abbrev pub zero? : Layout → Tables → ℕ → Bool
zero? L B t = empty? (at B.nodes (root L t)).word.kind

-- the answer and the tables after a call, which the test m has let through or refused
abbrev pub unless : {A : Type 0} → (Result A BankFault → Reply) → Test → A → Tables → Tables → Reply × Tables
unless reply (Ok u) x B C = (reply (Ok x), C)
unless reply (Err f) x B C = (reply (Err f), B)

abbrev pub performed : Layout → Tables → Request → Reply × Tables
performed L B open_one = unless opened (may_open B.tallies B.ledger) (B.ledger.opened, L.first B.ledger.opened) B (opens L B)
performed L B (arrive a t p side coin) = unless begun (may_arrive L B a t p) tt B (sends B a t (L.start a t p side coin))
performed L B (depart a t p) = unless begun (may_depart L B a t p) tt B (leaves B a t (L.base t + p))
performed L B (turn a) = unless turned (may_turn B.ledger a) (heard_of L B a) B (turns B a)
performed L B (reading t) = unless reads (shut B.ledger t) (read_by (zero? L B t)) B B

-- the call q is answered r, and takes the tables B to C
abbrev pub Did : Layout → Tables → Request → Reply → Tables → Type 0
Did L B q r C = ◌≡◌ {A = Reply × Tables} (r, C) (performed L B q)
