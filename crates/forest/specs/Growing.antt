-- The growing bank.
--     Growing                        the bank
--     growing_of b                   its tables
--     GrowingNew N b                 b is new, over a table of N nodes
--     growing_means b                what b means
--     growing_does b q r c           the call q is answered r, and takes b to c
use Rattle.std.specs.Borrow.{MutBor}
use Rattle.std.specs.Prelude.{◌≡◌, ℕ, List}
use Rattle.forest.specs.declared.growing.table.Table as table
use Rattle.forest.specs.declared.node.Node.{Node}
use Rattle.forest.specs.declared.trees.Trees as trees
use Rattle.forest.specs.declared.growing.GrowingTrees.{GrowingTrees}
use Rattle.forest.specs.declared.forest.Forest.{Forest}
use Rattle.banks.specs.Calls.{Request, Reply}
use Rattle.forest.specs.Layouts.{Did}
use Rattle.banks.specs.Meaning.{Meaning}
use Rattle.forest.specs.Plans.{growing_layout, growing_grove, growing_tables, growing_first}
use Rattle.forest.specs.Shown.{meaning}
use Rattle.forest.specs.Tables.{Tables}

-- a table that a caller lends
abbrev pub lent : table.Ghosts (MutBor (List Node))
lent = record { list = (λ t. t.now) }

-- what the impl of `Trees` says of growing trees, at a lent table: the impl itself is for any table
abbrev pub growing_trees : trees.Ghosts (GrowingTrees (MutBor (List Node)) lent)
growing_trees = record { LONE_LIMIT = 1700; layout = growing_layout; grove = (λ t. growing_grove t.table.now t.tallies t.used) }

abbrev pub Growing : Type 0
Growing = Forest (GrowingTrees (MutBor (List Node)) lent) growing_trees

abbrev pub growing_of : Growing → Tables
growing_of b = growing_tables b.tables.trees.table.now b.tables.ledger b.tables.trees.tallies b.tables.trees.used

abbrev pub GrowingNew : ℕ → Growing → Type 0
GrowingNew N b = growing_of b ≡ growing_first N

abbrev pub growing_means : Growing → Meaning
growing_means b = meaning growing_layout (growing_of b)

abbrev pub growing_does : Growing → Request → Reply → Growing → Type 0
growing_does b q r c = Did growing_layout (growing_of b) q r (growing_of c)
