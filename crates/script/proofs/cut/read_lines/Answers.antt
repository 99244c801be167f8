use Rattle.std.proofs.Common.{sym, subst, rules, vec_items}
use Rattle.std.proofs.lemmas.Result.{IfOk-weaker}
use Rattle.script.specs.Settled.{Unanswered}
use Rattle.script.proofs.Cuts.{reads_from, unanswered_once}
use Rattle.script.proofs.cut.read_lines.Goals as goal

pub returns : goal.returns
returns c =
    let text = c.args.text.now in
    let all = IfOk-weaker c.collect.result _ (λ v. Unanswered text (vec_items v)) (λ v h.
    let end = h.1.2 tt in
    subst (Unanswered text) (sym h.2.0)
    (subst (λ s. Unanswered s.0.now h.0) c.map.ensures.source (reads_from _ (λ f l r e p. search rules) c.map.result h.0 (end.0, (h.1.0, h.1.1, end.1))))) c.collect.ensures.ran in
    record { reads = all; once = IfOk-weaker c.collect.result _ _ (λ v h ls k. unanswered_once text ls (vec_items v) k h) all }
