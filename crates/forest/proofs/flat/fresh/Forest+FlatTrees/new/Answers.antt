use Rattle.std.proofs.Common.{sym, subst}
use Rattle.forest.specs.Plans.{flat_layout, flat_tables}
use Rattle.forest.specs.Sound.{Sound}
use Rattle.forest.proofs.FlatAgrees.{flat_law}
use Rattle.forest.proofs.PlansFirst.{flat_first_sound}
use Rattle.forest.proofs.flat.fresh.Forest+FlatTrees.new.Goals as goal

pub invariant_of-result : goal.invariant_of-result
invariant_of-result c = record { sound = ∣ subst (Sound flat_layout) (sym (λ i. flat_tables (c.blanks.ensures i) (c.new.ensures i))) flat_first_sound ∣₁ }

pub returns-clause-law : goal.returns-clause-law
returns-clause-law c = flat_law
