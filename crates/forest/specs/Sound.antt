-- What holds of a bank's tables between calls.
--     par_of B z                     the parent of the node z
--     state_of B                     the counting forest of B
--     In L B t z                     z is in the tree of the open tally t
--     crowd B t                      the receipts out and the arriving agents of t
--     Sound L B                      what holds
use Rattle.std.specs.Prelude.{◌≡◌, ℕ, ◌+◌, ◌*◌, ◌<◌, ◌≤◌, true, cond, List, length, Some, None, Option, ◌==◌}
use Rattle.forest.specs.declared.node.Node.{Node}
use Rattle.forest.specs.Agents.{cell, agent, begins, doing_of, Fit}
use Rattle.forest.specs.Climb.{State, Inv, Above, aim, arriving, departing}
use Rattle.banks.specs.Counting.{sum}
use Rattle.forest.specs.Layouts.{Layout, root}
use Rattle.forest.specs.Ledgers.{job, load_of}
use Rattle.banks.specs.Meaning.{arrives}
use Rattle.forest.specs.Tables.{Tables, at, no_node}

abbrev pub par_of : Tables → ℕ → Option ℕ
par_of B z = (at B.nodes z).parent

abbrev pub state_of : Tables → State
state_of B = record {
  words = (λ z. cell (at B.nodes z).word);
  outs = (λ z. (at B.nodes z).out);
  agents = (λ a. agent (job B.ledger a));
}

abbrev pub In : Layout → Tables → ℕ → ℕ → Type 0
In L B t z = (t < B.ledger.opened) × Above (par_of B) (root L t) z

-- the receipts out at z, if it is a node of t
abbrev pub outs_of : List Node → ℕ → ℕ → ℕ
outs_of ns t z = cond ((at ns z).tally == t) (at ns z).out 0

-- 1 where the agent a arrives at t
abbrev pub comes : Tables → ℕ → ℕ → ℕ
comes B t a = arrives (doing_of (job B.ledger a)) t

abbrev pub crowd : Tables → ℕ → ℕ
crowd B t = sum (outs_of B.nodes t) (length B.nodes) + sum (comes B t) 16

pub record Sound (L : Layout) (B : Tables) : Type 0 where
  -- sizes
  pub crew : length B.ledger.errands ≡ 16
  pub listed : length B.ledger.load ≡ 256
  pub many : B.tallies ≤ 256
  pub few : B.ledger.opened ≤ B.tallies
  pub low : B.used ≤ 8192
  pub fits : B.used ≤ length B.nodes
  pub laid : L.width * B.tallies ≤ B.used
  -- a parent comes before its child and is less deep; roots have none; what is laid for a tally is in its tree
  pub down : (y q : ℕ) → par_of B y ≡ Some q → (q < y) × (y < B.used)
  pub deep : (y q : ℕ) → par_of B y ≡ Some q → (at B.nodes q).depth + 1 ≤ (at B.nodes y).depth
  pub shallow : (y : ℕ) → (at B.nodes y).depth ≤ L.depth
  pub tops : (t : ℕ) → t < B.tallies → par_of B (root L t) ≡ None
  pub spread : (t p : ℕ) → t < B.tallies → p < L.width → Above (par_of B) (root L t) (root L t + p)
  -- where trees do not grow, the nodes are those laid from the start
  pub full : L.growth ≡ 0 → B.used ≡ L.width * B.tallies
  pub whole : L.growth ≡ 0 → length B.nodes ≡ B.used
  -- the nodes of a tree name its tally
  pub kin : (t z : ℕ) → In L B t z → (at B.nodes z).tally ≡ t
  -- the nodes of a tree that is not open yet name its tally too; but a root that stands among the first nodes, one for each tally, names it as it opens
  pub ready : (t z : ℕ) → B.ledger.opened ≤ t → t < B.tallies → Above (par_of B) (root L t) z → (z ≡ root L t → B.tallies ≤ z) → (at B.nodes z).tally ≡ t
  -- receipts are out in trees of open tallies alone
  pub kept : (z : ℕ) → 1 ≤ (at B.nodes z).out → In L B (at B.nodes z).tally z
  -- children, nodes linked later, nodes not in use
  pub pairs : (y l : ℕ) → (at B.nodes y).left ≡ Some l → (par_of B l ≡ Some y) × (par_of B (l + 1) ≡ Some y)
  pub linked : (z : ℕ) → L.width * B.tallies ≤ z → z < B.used → In L B (at B.nodes z).tally z
  pub unused : (z : ℕ) → B.used ≤ z → at B.nodes z ≡ no_node
  -- the invariant of the counting forest
  pub inv : Inv (par_of B) (length B.nodes) 16 (state_of B)
  -- each errand suits its phase, and is in the tree of its tally
  pub fit : (a : ℕ) → Fit (job B.ledger a)
  pub grows : (a : ℕ) → begins (job B.ledger a).phase ≤ L.growth
  pub begun : (a : ℕ) → begins (job B.ledger a).phase ≡ 1 → In L B (job B.ledger a).tally (job B.ledger a).node
  pub comer : (a y : ℕ) → aim (agent (job B.ledger a)) ≡ arriving y → In L B (job B.ledger a).tally y
  pub goer : (a : ℕ) → aim (agent (job B.ledger a)) ≡ departing → In L B (job B.ledger a).tally (job B.ledger a).node
  pub later : (a y : ℕ) → aim (agent (job B.ledger a)) ≡ arriving y
      → (L.takes B (job B.ledger a).tally (job B.ledger a).later.0 ≡ true) × (L.takes B (job B.ledger a).tally (job B.ledger a).later.1 ≡ true)
  -- the loads
  pub loads : (t : ℕ) → t < 256 → load_of B.ledger t ≡ crowd B t
  pub most : (t : ℕ) → crowd B t ≤ 2048
  pub none : (t : ℕ) → B.ledger.opened ≤ t → crowd B t ≡ 0
