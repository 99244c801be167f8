use Rattle.std.proofs.Common.{sym, subst}
use Rattle.forest.specs.declared.ledger.Ledger.{Ledger}
use Rattle.forest.specs.Plans.{fixed_layout, fixed_tables}
use Rattle.forest.specs.Sound.{Sound}
use Rattle.forest.proofs.PlansFixed.{fixed_first_sound}
use Rattle.forest.proofs.fixed.fresh.Forest+FixedTrees.new.Goals as goal

pub invariant_of-result : goal.invariant_of-result
invariant_of-result c =
    let ns = c.lay.result in
    record { sound = ∣ subst (λ (l : Ledger). Sound fixed_layout (fixed_tables ns l)) (sym c.new.ensures) (fixed_first_sound ns c.lay.ensures) ∣₁ }
