-- A bank over its trees.
--     forest_of b                    its tables
--     forest_means b                 what b means
--     forest_does b q r c            the call q is answered r, and takes b to c
use Rattle.forest.specs.declared.forest.Forest.{Forest}
use Rattle.forest.specs.declared.trees.Trees.{Ghosts}
use Rattle.banks.specs.Calls.{Request, Reply}
use Rattle.banks.specs.Meaning.{Meaning}
use Rattle.forest.specs.Groves.{tables_of}
use Rattle.forest.specs.Layouts.{Did}
use Rattle.forest.specs.Shown.{meaning}
use Rattle.forest.specs.Tables.{Tables}

abbrev pub forest_of : {T : Type 0} {g : Ghosts T} → Forest T g → Tables
forest_of {T} {g} b = tables_of g.grove b.tables

abbrev pub forest_means : {T : Type 0} {g : Ghosts T} → Forest T g → Meaning
forest_means {T} {g} b = meaning g.layout (forest_of b)

abbrev pub forest_does : {T : Type 0} {g : Ghosts T} → Forest T g → Request → Reply → Forest T g → Type 0
forest_does {T} {g} b q r c = Did g.layout (forest_of b) q r (forest_of c)
