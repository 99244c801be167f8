-- The trees of a bank as its code keeps them, and beside a ledger.
--     Grove                          the nodes, how many tallies there are, how many nodes are in use
--     with_nodes ns g                g with the nodes ns
--     grown g x c                    g after the growth turn at the node x, whose coin is c
--     tables g l                     the tables of g and the ledger l
--     tables_of grove b              the tables that b keeps
--     Ready L B a                    what a turn of the agent a asks of the tables
use Rattle.std.specs.Prelude.{◌≡◌, ℕ, ◌<◌, List, length, Some}
use Rattle.banks.specs.declared.answer.Coin.{Coin}
use Rattle.forest.specs.declared.ledger.Ledger.{Ledger}
use Rattle.forest.specs.declared.node.Node.{Node}
use Rattle.forest.specs.declared.tables.Tables as code
use Rattle.forest.specs.Agents.{begins}
use Rattle.forest.specs.Layouts.{Layout}
use Rattle.forest.specs.Ledgers.{job}
use Rattle.forest.specs.Tables.{Tables, Able, at, may_link, nodes_by, used_by}

pub record Grove : Type 0 where
  pub nodes : List Node
  pub tallies : ℕ
  pub used : ℕ  -- the nodes below it are in use

abbrev pub with_nodes : List Node → Grove → Grove
with_nodes ns g = record { nodes = ns; tallies = g.tallies; used = g.used }

abbrev pub grown : Grove → ℕ → Coin → Grove
grown g x c =
    let m = may_link g.nodes x g.used c in
    record { nodes = nodes_by m g.nodes x g.used; tallies = g.tallies; used = used_by m g.used }

abbrev pub tables : Grove → Ledger → Tables
tables g l = record { nodes = g.nodes; ledger = l; tallies = g.tallies; used = g.used }

abbrev pub tables_of : {T : Type 0} → (T → Grove) → code.Tables T → Tables
tables_of grove b = tables (grove b.trees) b.ledger

-- of an agent with an errand: in the growth turns its node is there, and else the turn is able
pub record Ready (L : Layout) (B : Tables) (a : ℕ) : Type 0 where
  pub agent : a < 16
  pub low : (job B.ledger a).tally < 256
  pub grows : begins (job B.ledger a).phase ≡ 1 → (L.growth ≡ 1) × ((job B.ledger a).node < length B.nodes)
  pub few : (k : ℕ) → (at B.nodes (job B.ledger a).node).left ≡ Some k → k < 65535
  pub able : begins (job B.ledger a).phase ≡ 0 → Able B.nodes (job B.ledger a)
