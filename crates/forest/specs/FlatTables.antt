-- The flat bank in its own words: a root alone for each of 256 tallies, whose node is the tally's number and whose one
-- place is 0. Loads are counted anew, no node waits for an errand, and the growth turns do not occur.
--     Roots, roots_of B              the nodes, the errands, how many tallies are open; those of the tables B
--     may_open T, may_arrive T a t p, ..     whether a call is let through, or its refusal
--     opens T, sends T a t, takes T a t, turns T a     the tables after a call that is let through
--     performed T q                  the answer to the call q, and the tables after it
--     Did T q r U                    the call q is answered r, and takes the tables T to U
--     Sized, Added, Few, Rooted, Closed, Placed, Alone     what holds of the tables between calls; Kept T all of it
--     meaning T                      what they mean
--     FlatLaw                        that the machine of trees, laid flat, is this bank
use Rattle.std.specs.Prelude.{◌≡◌, ℕ, ◌+◌, ◌-◌, ◌<◌, ◌≤◌, Bool, true, false, cond, ◌&&◌, List, length, replicate, Ok, Err, Result, ◌==◌, nat_le, nat_lt, slice_index_or, slice_set}
use Rattle.words.specs.declared.kind.Kind.{Kind}
use Rattle.words.specs.declared.kind.Kind.TheVariants.{Empty, Half, Counted}
use Rattle.words.specs.declared.word.Word.{Word}
use Rattle.banks.specs.declared.answer.Reading.{Reading}
use Rattle.banks.specs.declared.answer.Turned.{Turned}
use Rattle.banks.specs.declared.answer.Turned.TheVariants as came
use Rattle.banks.specs.declared.fault.BankFault.{BankFault}
use Rattle.banks.specs.declared.fault.BankFault.TheVariants as fault
use Rattle.banks.specs.Calls.{Request, open_one, arrive, depart, turn, reading, Reply, opened, begun, turned, reads}
use Rattle.banks.specs.Counting.{one, sum}
use Rattle.banks.specs.Meaning.{Doing, idle, arriving, departing, arrives, Meaning}
use Rattle.forest.specs.declared.errand.Errand.{Errand}
use Rattle.forest.specs.declared.errand.Phase.{Phase}
use Rattle.forest.specs.declared.errand.Phase.TheVariants.{Idle, Grow, Fork, Read, Raise, Open, Settle, Look, Lower}
use Rattle.forest.specs.declared.errand.Said.{Said}
use Rattle.forest.specs.declared.errand.Said.TheVariants.{Going, Arrived, Departed}
use Rattle.forest.specs.declared.node.Node.{Node}
use Rattle.forest.specs.Agents.{begins, half?}
use Rattle.forest.specs.Agents as agents
use Rattle.forest.specs.Errands.{no_errand, comer, goer, idles, still}
use Rattle.forest.specs.Layouts.{and_then, empty?, read_by}
use Rattle.forest.specs.Layouts as layouts
use Rattle.forest.specs.Ledgers.{Test}
use Rattle.forest.specs.Plans.{flat_layout, flat_first}
use Rattle.forest.specs.Shown as shown
use Rattle.forest.specs.Sound.{Sound}
use Rattle.forest.specs.Tables.{Tables, no_node, root_node, none?, at, turn_at, with_out, wrote, noted}

pub record Roots : Type 0 where
  pub nodes : List Node
  pub errands : List Errand
  pub opened : ℕ

abbrev pub roots : List Node → List Errand → ℕ → Roots
roots ns es o = record { nodes = ns; errands = es; opened = o }

abbrev pub roots_of : Tables → Roots
roots_of B = roots B.nodes B.ledger.errands B.ledger.opened

abbrev pub first_roots : Roots
first_roots = roots (replicate 256 no_node) (replicate 16 no_errand) 0

abbrev pub job : List Errand → ℕ → Errand
job es a = slice_index_or es a no_errand

-- What an errand is doing: at a root no node waits, so an agent that looks or lowers departs for itself

abbrev pub doing_by : Phase → ℕ → Doing
doing_by p t = agents.doing_by p 0 t

abbrev pub doing_of : Errand → Doing
doing_of e = doing_by e.phase e.tally

-- 1 for an agent that departs from t
abbrev pub departs : Doing → ℕ → ℕ
departs idle t = 0
departs (arriving u) t = 0
departs (departing u) t = one u t

-- how many agents arrive at t, and how many depart from it
abbrev pub comers : List Errand → ℕ → ℕ
comers es t = sum (λ a. arrives (doing_of (job es a)) t) 16

abbrev pub goers : List Errand → ℕ → ℕ
goers es t = sum (λ a. departs (doing_of (job es a)) t) 16

-- Calls

abbrev pub may_open : Roots → Test
may_open T = cond (nat_lt T.opened 256) (Ok tt) (Err fault.Full)

-- a tally opens counted, count 1, version 0, with one receipt out
abbrev pub opens : Roots → Roots
opens T = roots (slice_set T.nodes T.opened (root_node T.opened)) T.errands (T.opened + 1)

-- an agent that may begin an errand, and a tally that is open, or the refusal
abbrev pub free : List Errand → ℕ → Test
free es a = cond (nat_lt 15 a) (Err fault.NoAgent) (cond (idles (job es a).phase) (Ok tt) (Err fault.HasErrand))

abbrev pub shut : ℕ → ℕ → Test
shut o t = cond (nat_lt t o) (Ok tt) (Err fault.NotOpen)

-- the receipts out at a place
abbrev pub out_at : List Node → ℕ → ℕ → ℕ
out_at ns t p = cond (p == 0) (at ns t).out 0

abbrev pub may_arrive : Roots → (a t p : ℕ) → Test
may_arrive T a t p =
    and_then (free T.errands a)
    (and_then (shut T.opened t)
    (cond (p == 0) (cond (nat_le 2048 ((at T.nodes t).out + comers T.errands t)) (Err fault.Crowded) (Ok tt)) (Err fault.NoPlace)))

abbrev pub sends : Roots → ℕ → ℕ → Roots
sends T a t = roots T.nodes (slice_set T.errands a (comer t t (0, 0))) T.opened

abbrev pub may_depart : Roots → (a t p : ℕ) → Test
may_depart T a t p =
    and_then (free T.errands a)
    (and_then (shut T.opened t) (cond (out_at T.nodes t p == 0) (Err fault.NoReceipt) (Ok tt)))

-- a receipt leaves the tally
abbrev pub takes : Roots → ℕ → ℕ → Roots
takes T a t = roots (slice_set T.nodes t (with_out ((at T.nodes t).out - 1) (at T.nodes t))) (slice_set T.errands a (goer t t)) T.opened

abbrev pub may_turn : Roots → ℕ → Test
may_turn T a = cond (nat_lt 15 a) (Err fault.NoAgent) (cond (idles (job T.errands a).phase) (Err fault.Idle) (Ok tt))

-- what a turn is heard to say: every place is 0, whatever the errand has for later ones
abbrev pub heard : Said → Turned
heard Going = came.Going
heard (Arrived x) = came.Arrived 0 0 0
heard (Departed drained) = came.Departed drained

abbrev pub heard_of : Roots → ℕ → Turned
heard_of T a = heard (turn_at T.nodes (job T.errands a)).said

abbrev pub turns : Roots → ℕ → Roots
turns T a =
    let r = turn_at T.nodes (job T.errands a) in
    roots (noted r.said (wrote r.write (job T.errands a).node T.nodes)) (slice_set T.errands a r.errand) T.opened

abbrev pub read_of : Roots → ℕ → Result Reading BankFault
read_of T t = cond (nat_lt t T.opened) (Ok (read_by (empty? (at T.nodes t).word.kind))) (Err fault.NotOpen)

-- the answer and the tables after a call, which the test m has let through or refused
abbrev pub unless : {A : Type 0} → (Result A BankFault → Reply) → Test → A → Roots → Roots → Reply × Roots
unless reply (Ok u) x T U = (reply (Ok x), U)
unless reply (Err f) x T U = (reply (Err f), T)

abbrev pub performed : Roots → Request → Reply × Roots
performed T open_one = unless opened (may_open T) (T.opened, 0) T (opens T)
performed T (arrive a t p side coin) = unless begun (may_arrive T a t p) tt T (sends T a t)
performed T (depart a t p) = unless begun (may_depart T a t p) tt T (takes T a t)
performed T (turn a) = unless turned (may_turn T a) (heard_of T a) T (turns T a)
performed T (reading t) = (reads (read_of T t), T)

-- the call q is answered r, and takes the tables T to U
abbrev pub Did : Roots → Request → Reply → Roots → Type 0
Did T q r U = ◌≡◌ {A = Reply × Roots} (r, U) (performed T q)

-- Between calls

abbrev pub settles? : Phase → Bool
settles? Idle = false
settles? (Grow s c) = false
settles? (Fork s) = false
settles? Read = false
settles? Raise = false
settles? Open = false
settles? Settle = true
settles? Look = false
settles? Lower = false

abbrev pub Sized : List Node → List Errand → ℕ → Type 0
Sized ns es o = (length ns ≡ 256) × (length es ≡ 16) × (o ≤ 256)

-- a count is the receipts out and the departing agents
abbrev pub Added : List Node → List Errand → Type 0
Added ns es = (t : ℕ) → (at ns t).word.count ≡ (at ns t).out + goers es t

-- receipts out and arriving agents are few
abbrev pub Few : List Node → List Errand → Type 0
Few ns es = (t : ℕ) → (at ns t).out + comers es t ≤ 2048

-- every node is a root, and no root is half
abbrev pub Rooted : List Node → Type 0
Rooted ns = ((t : ℕ) → none? (at ns t).parent ≡ true) × ((t : ℕ) → half? (at ns t).word.kind ≡ false)

-- nothing is out at a tally that is not open
abbrev pub Closed : List Node → ℕ → Type 0
Closed ns o = (t : ℕ) → o ≤ t → (at ns t).out ≡ 0

-- an errand is at an open tally, at its root
abbrev pub Placed : List Errand → ℕ → Type 0
Placed es o = ((a : ℕ) → idles (job es a).phase ≡ false → (job es a).tally < o) × ((a : ℕ) → (job es a).node ≡ (job es a).tally)

-- no node waits for an errand, and none is in the growth turns
abbrev pub Alone : List Errand → Type 0
Alone es =
    ((a : ℕ) → (job es a).waiting.height ≡ 0) × ((a : ℕ) → settles? (job es a).phase ≡ false) × ((a : ℕ) → begins (job es a).phase ≡ 0)

pub record Kept (T : Roots) : Type 0 where
  pub sized : Sized T.nodes T.errands T.opened
  pub added : Added T.nodes T.errands
  pub few : Few T.nodes T.errands
  pub rooted : Rooted T.nodes
  pub closed : Closed T.nodes T.opened
  pub placed : Placed T.errands T.opened
  pub alone : Alone T.errands

-- Meaning

-- a compare-and-set that would win takes one turn; one that would lose takes two more
abbrev pub by_word : Bool → ℕ
by_word true = 1
by_word false = 3

abbrev pub counted? : Kind → Bool
counted? Empty = false
counted? Half = false
counted? Counted = true

-- the growth turns do not occur: they would stand two turns and one before a reading
abbrev pub lone_by : Phase → Kind → Bool → ℕ
lone_by Idle k same = 0
lone_by (Grow s c) k same = 4
lone_by (Fork s) k same = 3
lone_by Read k same = 2
lone_by Raise k same = by_word (counted? k && same)
lone_by Open k same = by_word (empty? k && same)
lone_by Settle k same = 3
lone_by Look k same = 2
lone_by Lower k same = by_word (counted? k && same)

abbrev pub lone_of : Errand → Word → ℕ
lone_of e w = lone_by e.phase w.kind (still e w)

abbrev pub meaning : Roots → Meaning
meaning T = record {
  tallies = 256;
  opened = T.opened;
  bound = 1;
  out = (λ t p. out_at T.nodes t p);
  place = (λ t p. nat_lt t T.opened && p == 0);
  doing = (λ a. doing_of (job T.errands a));
  zero? = (λ t. empty? (at T.nodes t).word.kind);
  lone = (λ a. lone_of (job T.errands a) (at T.nodes (job T.errands a).node).word);
  limit = 3;
}

-- The machine of trees, laid flat

-- what holds of the tables B: they are kept, they mean what their roots mean, and a call does to them what it does to the roots
pub record IsFlat (B : Tables) : Type 0 where
  pub kept : Kept (roots_of B)
  pub means : shown.meaning flat_layout B ≡ meaning (roots_of B)
  pub does : (q : Request) (r : Reply) (C : Tables) → layouts.Did flat_layout B q r C → Did (roots_of B) q r (roots_of C)

pub record FlatLaw : Type 0 where
  pub first : roots_of flat_first ≡ first_roots
  pub agrees : (B : Tables) → B.tallies ≡ 256 → ∥ Sound flat_layout B ∥₁ → IsFlat B
