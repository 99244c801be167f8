-- The fixed bank.
--     Fixed                          the bank
--     fixed_of b                     its tables
--     FixedNew b                     b is new
--     fixed_means b                  what b means
--     fixed_does b q r c             the call q is answered r, and takes b to c
use Rattle.std.specs.Prelude.{◌≡◌}
use Rattle.forest.specs.contracts.fixed.FixedTreesTrees.TheImpl.{ghosts}
use Rattle.forest.specs.declared.fixed.FixedTrees.{FixedTrees}
use Rattle.forest.specs.declared.forest.Forest.{Forest}
use Rattle.banks.specs.Calls.{Request, Reply}
use Rattle.forest.specs.Layouts.{Did}
use Rattle.forest.specs.Ledgers.{first_ledger}
use Rattle.banks.specs.Meaning.{Meaning}
use Rattle.forest.specs.Plans.{fixed_layout, fixed_tables, Laid}
use Rattle.forest.specs.Shown.{meaning}
use Rattle.forest.specs.Tables.{Tables}

abbrev pub Fixed : Type 0
Fixed = Forest FixedTrees ghosts

abbrev pub fixed_of : Fixed → Tables
fixed_of b = fixed_tables b.tables.trees.nodes b.tables.ledger

abbrev pub FixedNew : Fixed → Type 0
FixedNew b = Laid b.tables.trees.nodes × (b.tables.ledger ≡ first_ledger)

abbrev pub fixed_means : Fixed → Meaning
fixed_means b = meaning fixed_layout (fixed_of b)

abbrev pub fixed_does : Fixed → Request → Reply → Fixed → Type 0
fixed_does b q r c = Did fixed_layout (fixed_of b) q r (fixed_of c)
