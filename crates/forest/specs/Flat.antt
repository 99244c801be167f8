-- The flat bank.
--     Flat                           the bank
--     flat_of b                      its tables
--     FlatNew b                      b is new
--     flat_means b                   what b means
--     flat_does b q r c              the call q is answered r, and takes b to c
use Rattle.std.specs.Prelude.{◌≡◌}
use Rattle.forest.specs.contracts.flat.FlatTreesTrees.TheImpl.{ghosts}
use Rattle.forest.specs.declared.flat.FlatTrees.{FlatTrees}
use Rattle.forest.specs.declared.forest.Forest.{Forest}
use Rattle.banks.specs.Calls.{Request, Reply}
use Rattle.forest.specs.Layouts.{Did}
use Rattle.banks.specs.Meaning.{Meaning}
use Rattle.forest.specs.Plans.{flat_layout, flat_tables, flat_first}
use Rattle.forest.specs.Shown.{meaning}
use Rattle.forest.specs.Tables.{Tables}

abbrev pub Flat : Type 0
Flat = Forest FlatTrees ghosts

abbrev pub flat_of : Flat → Tables
flat_of b = flat_tables b.tables.trees.nodes b.tables.ledger

abbrev pub FlatNew : Flat → Type 0
FlatNew b = flat_of b ≡ flat_first

abbrev pub flat_means : Flat → Meaning
flat_means b = meaning flat_layout (flat_of b)

abbrev pub flat_does : Flat → Request → Reply → Flat → Type 0
flat_does b q r c = Did flat_layout (flat_of b) q r (flat_of c)
