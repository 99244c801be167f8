-- A bank over its trees: what its tests have shown, and its nodes as the code reads them.
use Rattle.std.proofs.Common.{◌≡◌, ℕ, ◌<◌, List, length, get_or, Ok, ◌∙◌}
use Rattle.std.proofs.lemmas.List.{get_or_default}
use mathlib.Core.Logic.{∥∥₁_prop}
use Rattle.forest.specs.declared.forest.Forest.{Forest}
use Rattle.forest.specs.declared.node.Node.{Node}
use Rattle.forest.specs.declared.trees.Trees.{Ghosts}
use Rattle.forest.specs.Forests.{forest_of}
use Rattle.forest.specs.Groves.{Ready}
use Rattle.forest.specs.Layouts.{may_arrive, root}
use Rattle.forest.specs.Lays.{Lays}
use Rattle.forest.specs.Ledgers.{may_open, may_turn, shut}
use Rattle.forest.specs.Sound.{Sound}
use Rattle.forest.specs.Tables.{no_node, at}
use Rattle.forest.proofs.Refused.{told_ok, opens_low, arrives_so, turns_so, reads_so}
use Rattle.forest.proofs.Sizes.{opened_few, root_there, tally_few, root_open, ready}

pub node_read : (ns ms : List Node) (x y : ℕ) (n : Node) → x < length ns → ns ≡ ms → x ≡ y → get_or ns x n ≡ at ms y
node_read ns ms x y n h f i = get_or_default ns x n no_node h ∙ (λ j. at (f j) (i j))

-- that its tables are sound adds nothing
pub whole : {T : Type 0} {g : Ghosts T} (b : Forest T g) (s : ∥ Sound g.layout (forest_of b) ∥₁) → record { tables = b.tables; sound = s } ≡ b
whole b s = λ i. record { tables = b.tables; sound = ∥∥₁_prop s b.sound i }

-- a call that its test lets through
module _ {T : Type 0} {g : Ghosts T} (l : Lays g.layout) (b : Forest T g) (u : Unit {0}) where
  -- the next tally is among the 256, and its root is there
  pub open_few : may_open (forest_of b).tallies b.tables.ledger ≡ Ok u → (b.tables.ledger.opened < 256) × (root g.layout b.tables.ledger.opened < length (forest_of b).nodes)
  open_few e =
      let low = opens_low g.layout l (forest_of b) (told_ok (may_open (forest_of b).tallies b.tables.ledger) u e) in
      (opened_few g.layout l (forest_of b) b.sound low, root_there g.layout l (forest_of b) b.sound low)

  pub arrive_few : (a t p : ℕ) → may_arrive g.layout (forest_of b) a t p ≡ Ok u → t < 256
  arrive_few a t p e = tally_few g.layout l (forest_of b) b.sound t (arrives_so g.layout l (forest_of b) a t p (told_ok (may_arrive g.layout (forest_of b) a t p) u e)).here

  pub turn_ready : (a : ℕ) → may_turn b.tables.ledger a ≡ Ok u → Ready g.layout (forest_of b) a
  turn_ready a e = let (low, busy) = turns_so g.layout l (forest_of b) a (told_ok (may_turn b.tables.ledger a) u e) in ready g.layout l (forest_of b) b.sound a low busy

  pub read_few : (t : ℕ) → shut b.tables.ledger t ≡ Ok u → (t < 256) × (root g.layout t < length (forest_of b).nodes)
  read_few t e =
      let here = reads_so g.layout l (forest_of b) t (told_ok (shut b.tables.ledger t) u e) in
      (tally_few g.layout l (forest_of b) b.sound t here, root_open g.layout l (forest_of b) b.sound t here)
