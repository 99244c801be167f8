use Rattle.std.proofs.Common.{◌≡◌, min, length, sym, ap, ◌∙◌, subst, rules}
use Rattle.std.proofs.lemmas.Simd.{length-replicate}
use Rattle.forest.specs.Plans.{growing_layout, growing_tables}
use Rattle.forest.specs.Sound.{Sound}
use Rattle.forest.specs.Tables.{no_node}
use Rattle.forest.proofs.PlansFirst.{growing_first_sound}
use Rattle.forest.proofs.growing.fresh.Forest+GrowingTrees+mut+slice+Node.new.Goals as goal

pub invariant_of-result-2 : goal.invariant_of-result-2
invariant_of-result-2 c =
    let N = length c.args.nodes.now in
    let T = c.min-tallies.result in
    let size : length c.blank.new.nodes ≡ N = ap length c.blank.ensures ∙ length-replicate N no_node in
    let t : T ≡ min 256 N = search rules in
    record { sound = ∣ subst (Sound growing_layout) (sym (λ i. growing_tables (c.blank.ensures i) (c.new.ensures i) (t i) (t i))) (growing_first_sound N) ∣₁ }
