-- What a bank keeps beside its nodes: the errand of each agent, the load of each tally, how many tallies are open.
--     first_ledger                   none open, all idle
--     job l a, load_of l t           the errand of the agent a; the load of the tally t
--     found l a                      the errand of the agent a, or the refusal of such a number
--     may_open T l, free l a, shut l t, roomy l t, may_turn l a     whether a call is let through, or its refusal
--     opens l, sends l a t e, takes l a t e, moves l a e            what a call leaves
use Rattle.std.specs.Prelude.{ℕ, ◌+◌, ◌-◌, cond, List, replicate, Ok, Err, Result, nat_lt, slice_index, slice_index_or, slice_set}
use Rattle.forest.specs.declared.errand.Errand.{Errand}
use Rattle.banks.specs.declared.fault.BankFault.{BankFault}
use Rattle.banks.specs.declared.fault.BankFault.TheVariants.{Full, NoAgent, HasErrand, Idle, NotOpen, Crowded}
use Rattle.forest.specs.declared.ledger.Ledger.{Ledger}
use Rattle.forest.specs.Errands.{no_errand, idles}

abbrev pub ledger : List Errand → List ℕ → ℕ → Ledger
ledger es ls o = record { errands = es; load = ls; opened = o }

abbrev pub first_ledger : Ledger
first_ledger = ledger (replicate 16 no_errand) (replicate 256 0) 0

abbrev pub job : Ledger → ℕ → Errand
job l a = slice_index_or l.errands a no_errand

abbrev pub load_of : Ledger → ℕ → ℕ
load_of l t = slice_index l.load t

abbrev pub Test : Type 0
Test = Result Unit BankFault

abbrev pub may_open : ℕ → Ledger → Test
may_open T l = cond (nat_lt l.opened T) (Ok tt) (Err Full)

-- the errand of the agent a, if there is one of that number
abbrev pub found : Ledger → ℕ → Result Errand BankFault
found l a = cond (nat_lt 15 a) (Err NoAgent) (Ok (job l a))

-- an agent that may begin an errand, a tally that is open, a tally that takes one more arrival
abbrev pub free : Ledger → ℕ → Test
free l a = cond (nat_lt 15 a) (Err NoAgent) (cond (idles (job l a).phase) (Ok tt) (Err HasErrand))

abbrev pub shut : Ledger → ℕ → Test
shut l t = cond (nat_lt t l.opened) (Ok tt) (Err NotOpen)

abbrev pub roomy : Ledger → ℕ → Test
roomy l t = cond (nat_lt (load_of l t) 2048) (Ok tt) (Err Crowded)

abbrev pub may_turn : Ledger → ℕ → Test
may_turn l a = cond (nat_lt 15 a) (Err NoAgent) (cond (idles (job l a).phase) (Err Idle) (Ok tt))

abbrev pub opens : Ledger → Ledger
opens l = ledger l.errands (slice_set l.load l.opened 1) (l.opened + 1)

abbrev pub sends : Ledger → ℕ → ℕ → Errand → Ledger
sends l a t e = ledger (slice_set l.errands a e) (slice_set l.load t (load_of l t + 1)) l.opened

abbrev pub takes : Ledger → ℕ → ℕ → Errand → Ledger
takes l a t e = ledger (slice_set l.errands a e) (slice_set l.load t (load_of l t - 1)) l.opened

abbrev pub moves : Ledger → ℕ → Errand → Ledger
moves l a e = ledger (slice_set l.errands a e) l.load l.opened
