-- Tables of nodes, what stands beside them, and the turns of an errand in them.
--     no_node, root_node t           a node that nobody has used; the root of a tally t that has just opened
--     at ns x, node_at ns x          the node x; the same, if there is one
--     turn_at ns e                   the turn of e at its node
--     wrote w x ns, noted s ns       the nodes with the word that is written at x; with the receipt of an ended arrival put out
--     Able ns e                      what a turn of e asks of the nodes
--     Tables                         nodes and ledger, how many tallies there are, how many nodes are in use
--     may-grow B e c                 whether two children are linked at the node of e, whose coin is c
--     grows B a s c, forks B a s     the tables after the first and the second growth turn of the agent a
--     climbs B a                     the tables after any other turn of a
use Rattle.std.specs.Prelude.{◌≡◌, ℕ, ◌+◌, ◌-◌, ◌<◌, ◌≤◌, min, Bool, true, false, cond, ◌&&◌, List, length, Some, None, Option, nat_le, nat_lt, slice_index_or, slice_set}
use Rattle.words.specs.declared.word.Word.{Word}
use Rattle.words.specs.Steps.{settled}
use Rattle.words.specs.Words.{blank}
use Rattle.banks.specs.declared.answer.Coin.{Coin}
use Rattle.banks.specs.declared.answer.Coin.TheVariants.{Heads, Tails}
use Rattle.banks.specs.declared.answer.Side.{Side}
use Rattle.banks.specs.declared.answer.Side.TheVariants.{Left, Right}
use Rattle.forest.specs.declared.errand.After.{After}
use Rattle.forest.specs.declared.errand.Errand.{Errand}
use Rattle.forest.specs.declared.errand.Phase.TheVariants.{Fork, Read, Settle}
use Rattle.forest.specs.declared.errand.Said.{Said}
use Rattle.forest.specs.declared.errand.Said.TheVariants.{Going, Arrived, Departed}
use Rattle.forest.specs.declared.ledger.Ledger.{Ledger}
use Rattle.forest.specs.declared.node.Node.{Node}
use Rattle.forest.specs.Errands.{mounts, turned, at_node}
use Rattle.forest.specs.Ledgers.{job, moves}

abbrev pub no_node : Node
no_node = record { word = blank; parent = None; left = None; depth = 0; tally = 0; out = 0 }

abbrev pub root_node : ℕ → Node
root_node t = record { word = settled blank; parent = None; left = None; depth = 0; tally = t; out = 1 }

abbrev pub at : List Node → ℕ → Node
at ns x = slice_index_or ns x no_node

abbrev pub node_at : List Node → ℕ → Option Node
node_at ns x = cond (nat_lt x (length ns)) (Some (at ns x)) None

abbrev pub turn_at : List Node → Errand → After
turn_at ns e = turned e.phase (at ns e.node).word.kind e (at ns e.node).word (at ns e.node).parent

abbrev pub with_word : Word → Node → Node
with_word w n = record { word = w; parent = n.parent; left = n.left; depth = n.depth; tally = n.tally; out = n.out }

abbrev pub with_out : ℕ → Node → Node
with_out k n = record { word = n.word; parent = n.parent; left = n.left; depth = n.depth; tally = n.tally; out = k }

abbrev pub wrote : Option Word → ℕ → List Node → List Node
wrote None x ns = ns
wrote (Some w) x ns = slice_set ns x (with_word w (at ns x))

abbrev pub noted : Said → List Node → List Node
noted Going ns = ns
noted (Arrived x) ns = slice_set ns x (with_out ((at ns x).out + 1) (at ns x))
noted (Departed drained) ns = ns

-- what a turn of e asks of the nodes: they have its node, frames have room, and the place of an ended arrival is there
pub record Able (ns : List Node) (e : Errand) : Type 0 where
  pub node : e.node < length ns
  pub high : e.waiting.height ≤ 16
  pub room : (up : ℕ) → (at ns e.node).parent ≡ Some up → mounts e.phase ≡ true → e.waiting.height < 16
  pub waits : e.phase ≡ Settle → 0 < e.waiting.height
  pub place : (x : ℕ) → (turn_at ns e).said ≡ Arrived x → x < length ns
  pub few : (x : ℕ) → (turn_at ns e).said ≡ Arrived x → (at ns x).out < 65535

-- a receipt leaves the node x
abbrev pub taken : ℕ → List Node → List Node
taken x ns = slice_set ns x (with_out ((at ns x).out - 1) (at ns x))

pub record Tables : Type 0 where
  pub nodes : List Node
  pub ledger : Ledger
  pub tallies : ℕ
  pub used : ℕ  -- the nodes below it are in use

-- The growth turns

abbrev pub heads? : Coin → Bool
heads? Heads = true
heads? Tails = false

abbrev pub none? : Option ℕ → Bool
none? None = true
none? (Some x) = false

-- heads, no child, a depth below 16, and two of the first 8,192 nodes left
abbrev pub may_link : List Node → ℕ → ℕ → Coin → Bool
may_link ns x u c = heads? c && (none? (at ns x).left && (nat_lt (at ns x).depth 16 && nat_le (u + 2) (min (length ns) 8192)))

-- an empty child of x
abbrev pub child : ℕ → Node → Node
child x n = record { word = blank; parent = Some x; left = None; depth = n.depth + 1; tally = n.tally; out = 0 }

abbrev pub with_left : ℕ → Node → Node
with_left u n = record { word = n.word; parent = n.parent; left = Some u; depth = n.depth; tally = n.tally; out = n.out }

-- u and the next are children of x
abbrev pub linked : List Node → ℕ → ℕ → List Node
linked ns x u = slice_set (slice_set (slice_set ns x (with_left u (at ns x))) u (child x (at ns x))) (u + 1) (child x (at ns x))

abbrev pub nodes_by : Bool → List Node → ℕ → ℕ → List Node
nodes_by true ns x u = linked ns x u
nodes_by false ns x u = ns

abbrev pub used_by : Bool → ℕ → ℕ
used_by true u = u + 2
used_by false u = u

abbrev pub grows : Tables → ℕ → Side → Coin → Tables
grows B a s c =
    let e = job B.ledger a in
    let m = may_link B.nodes e.node B.used c in
    record { nodes = nodes_by m B.nodes e.node B.used; ledger = moves B.ledger a (at_node (Fork s) e.node e); tallies = B.tallies; used = used_by m B.used }

-- the children of a node, or the node twice
abbrev pub twins : ℕ → Option ℕ → ℕ × ℕ
twins x None = (x, x)
twins x (Some l) = (l, l + 1)

abbrev pub picked : Side → ℕ × ℕ → ℕ
picked Left l = l.0
picked Right l = l.1

abbrev pub forked : Side → ℕ × ℕ → Errand → Errand
forked s l e = record { phase = Read; tally = e.tally; node = picked s l; word = e.word; later = l; waiting = e.waiting }

abbrev pub forks : Tables → ℕ → Side → Tables
forks B a s =
    let e = job B.ledger a in
    record { nodes = B.nodes; ledger = moves B.ledger a (forked s (twins e.node (at B.nodes e.node).left) e); tallies = B.tallies; used = B.used }

-- Any other turn

abbrev pub after_turn : Tables → ℕ → After
after_turn B a = turn_at B.nodes (job B.ledger a)

abbrev pub climbs : Tables → ℕ → Tables
climbs B a =
    let r = after_turn B a in
    record {
      nodes = noted r.said (wrote r.write (job B.ledger a).node B.nodes);
      ledger = moves B.ledger a r.errand;
      tallies = B.tallies;
      used = B.used;
    }
