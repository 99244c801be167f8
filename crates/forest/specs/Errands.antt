-- One turn of an errand that climbs or comes down: what it leaves at its node and of itself.
--     comer t x l                    an arrival for the tally t that begins at the node x, with the two later places l
--     grower t x s c                 one that begins with the growth turns there, with its side and coin
--     goer t x                       a departure from the node x
--     turned p k e w up              the turn of e, which is in phase p, where the word w of kind k is found, at a node with the parent up
use Rattle.std.specs.Prelude.{ℕ, Bool, true, false, cond, Some, None, Option, ◌==◌, nat_le}
use Rattle.words.specs.declared.kind.Kind.{Kind}
use Rattle.words.specs.declared.kind.Kind.TheVariants.{Empty, Half, Counted}
use Rattle.words.specs.declared.word.Word.{Word}
use Rattle.words.specs.Steps.{raised, opened, settled, lowered}
use Rattle.words.specs.Words.{blank, same, shown}
use Rattle.banks.specs.declared.answer.Coin.{Coin}
use Rattle.banks.specs.declared.answer.Side.{Side}
use Rattle.forest.specs.declared.errand.After.{After}
use Rattle.forest.specs.declared.errand.Errand.{Errand}
use Rattle.forest.specs.declared.errand.Frame.{Frame}
use Rattle.forest.specs.declared.errand.Phase.{Phase}
use Rattle.forest.specs.declared.errand.Phase.TheVariants.{Idle, Grow, Fork, Read, Raise, Open, Settle, Look, Lower}
use Rattle.forest.specs.declared.errand.Role.{Role}
use Rattle.forest.specs.declared.errand.Role.TheVariants.{Owner, Helper}
use Rattle.forest.specs.Waits.{none_waits, newest, pushed, dropped}
use Rattle.forest.specs.declared.errand.Said.TheVariants.{Going, Arrived, Departed}

abbrev pub begun : Phase → ℕ → ℕ → ℕ × ℕ → Errand
begun p t x l = record { phase = p; tally = t; node = x; word = blank; later = l; waiting = none_waits }

abbrev pub no_errand : Errand
no_errand = begun Idle 0 0 (0, 0)

abbrev pub comer : ℕ → ℕ → ℕ × ℕ → Errand
comer t x l = begun Read t x l

abbrev pub grower : ℕ → ℕ → Side → Coin → Errand
grower t x s c = begun (Grow s c) t x (0, 0)

abbrev pub goer : ℕ → ℕ → Errand
goer t x = begun Look t x (0, 0)

abbrev pub idles : Phase → Bool
idles Idle = true
idles (Grow s c) = false
idles (Fork s) = false
idles Read = false
idles Raise = false
idles Open = false
idles Settle = false
idles Look = false
idles Lower = false

-- whether the next turn may climb to the parent
abbrev pub mounts : Phase → Bool
mounts Idle = false
mounts (Grow s c) = false
mounts (Fork s) = false
mounts Read = true
mounts Raise = false
mounts Open = true
mounts Settle = false
mounts Look = false
mounts Lower = false

-- The parts of a turn

abbrev pub goes : Errand → After
goes e = record { errand = e; write = None; said = Going }

abbrev pub writes : Word → After → After
writes w r = record { errand = r.errand; write = Some w; said = r.said }

-- on at another node, in another phase
abbrev pub at_node : Phase → ℕ → Errand → Errand
at_node p x e = record { phase = p; tally = e.tally; node = x; word = e.word; later = e.later; waiting = e.waiting }

abbrev pub remembers : Phase → Word → Errand → After
remembers p w e = goes (record { phase = p; tally = e.tally; node = e.node; word = w; later = e.later; waiting = e.waiting })

abbrev pub climbs : Role → Word → ℕ → Errand → After
climbs r w up e = goes (record {
  phase = Read;
  tally = e.tally;
  node = up;
  word = e.word;
  later = e.later;
  waiting = pushed (record { node = e.node; role = r; word = w }) e.waiting;
})

-- the newest node that waits
abbrev pub top : Errand → Frame
top e = newest e.waiting

-- the arrival at the node is done
abbrev pub arrived : Errand → After
arrived e =
    cond (e.waiting.height == 0) (record { errand = no_errand; write = None; said = Arrived e.node })
    (goes (record { phase = Settle; tally = e.tally; node = (top e).node; word = (top e).word; later = e.later; waiting = e.waiting }))

-- back at the newest node that waits, which waits no more
abbrev pub popped : Errand → Errand
popped e = record { phase = Read; tally = e.tally; node = (top e).node; word = e.word; later = e.later; waiting = dropped e.waiting }

-- its owner has arrived there, its helper reads the word anew
abbrev pub resumes : Role → Errand → After
resumes Owner e = arrived e
resumes Helper e = goes e

abbrev pub resumed : Errand → After
resumed e = resumes (top e).role (popped e)

-- a departure is done
abbrev pub departed : Bool → Errand → After
departed drained e = cond (e.waiting.height == 0) (record { errand = no_errand; write = None; said = Departed drained }) (resumed e)

abbrev pub helps : Word → Option ℕ → Errand → After
helps w None e = goes e
helps w (Some up) e = climbs Helper w up e

-- whether the word found is still the one that is remembered
abbrev pub still : Errand → Word → Bool
still e w = same (shown e.word) (shown w)

-- a compare-and-set that is lost: the errand goes back to its reading
abbrev pub again : Phase → Errand → After
again p e = goes (at_node p e.node e)

abbrev pub raises : Word → Errand → After
raises w e = cond (still e w) (writes (raised w) (arrived e)) (again Read e)

abbrev pub opens_below : Word → Option ℕ → Errand → After
opens_below w None e = writes (opened true w) (arrived e)
opens_below w (Some up) e = writes (opened false w) (climbs Owner (opened false w) up e)

abbrev pub opens : Word → Option ℕ → Errand → After
opens w up e = cond (still e w) (opens_below w up e) (again Read e)

abbrev pub loses : Option ℕ → Errand → After
loses None e = goes e
loses (Some up) e = goes (at_node Look up e)

abbrev pub lowers_by : Bool → Option ℕ → Errand → After
lowers_by true None e = departed true e
lowers_by true (Some up) e = goes (at_node Look up e)
lowers_by false None e = departed false e
lowers_by false (Some up) e = departed false e

abbrev pub settles : Word → Option ℕ → Errand → After
settles w up e = cond (still e w) (writes (settled w) (resumed e)) (loses up e)

abbrev pub lowers : Word → Option ℕ → Errand → After
lowers w up e = cond (still e w) (writes (lowered w) (lowers_by (nat_le w.count 1) up e)) (again Look e)

abbrev pub turned : Phase → Kind → Errand → Word → Option ℕ → After
turned Idle Empty e w up = goes e
turned Idle Half e w up = goes e
turned Idle Counted e w up = goes e
turned (Grow s c) Empty e w up = goes e
turned (Grow s c) Half e w up = goes e
turned (Grow s c) Counted e w up = goes e
turned (Fork s) Empty e w up = goes e
turned (Fork s) Half e w up = goes e
turned (Fork s) Counted e w up = goes e
turned Read Empty e w up = remembers Open w e
turned Read Half e w up = helps w up e
turned Read Counted e w up = remembers Raise w e
turned Raise Empty e w up = again Read e
turned Raise Half e w up = again Read e
turned Raise Counted e w up = raises w e
turned Open Empty e w up = opens w up e
turned Open Half e w up = again Read e
turned Open Counted e w up = again Read e
turned Settle Empty e w up = loses up e
turned Settle Half e w up = settles w up e
turned Settle Counted e w up = loses up e
turned Look Empty e w up = remembers Lower w e
turned Look Half e w up = remembers Lower w e
turned Look Counted e w up = remembers Lower w e
turned Lower Empty e w up = again Look e
turned Lower Half e w up = again Look e
turned Lower Counted e w up = lowers w up e
