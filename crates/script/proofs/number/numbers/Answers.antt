use Rattle.std.proofs.Common.{◌≡◌, ◌+◌, [], ◌∷◌, drop, get_or, refl, ◌∙◌, subst, arith, length-drop, append-nil, append_assoc, true-eqb}
use Rattle.std.proofs.lemmas.List.{drop_more, nil_from_length, take_all, take_more_set, length-set}
use Rattle.std.proofs.lemmas.List.FromFn.{fill_by_all}
use Rattle.std.proofs.lemmas.Option.{MatchOption-at_none, MatchOption-at_some}
use Rattle.std.proofs.lemmas.Result.{err_from_is_err_and}
use Rattle.script.specs.Spelling.{Numbers, Next}
use Rattle.script.proofs.Counts.{numbers_cons, numbers_tail, none_next}
use Rattle.script.proofs.number.numbers.Goals as goal

pub returns-in_err-n : goal.returns-in_err-n
returns-in_err-n g c =
    let p = err_from_is_err_and c.from_residual.result c.from_residual.ensures.1 in
    let inv = c.loop-slot.invariant in
    let none = c.in_err-n.ensures in
    let i = c.loop-slot.slot-index in
    rw (p.1, p.2) (
      grind arith,
      λ ns long h. none_next c.loop-slot.rest.now (drop i ns) (MatchOption-at_none _ _ none.ok_part c.number.ensures) (omega (arith, length-drop i ns, inv.room, long)) (inv.left ns long h),
    )

pub loop-slot-preserved : goal.loop-slot-preserved
loop-slot-preserved g c =
    let inv = c.loop-slot.invariant in
    let items = c.loop-slot.slot-items in
    let rest = c.loop-slot.rest.now in
    let i = c.loop-slot.slot-index in
    let n = c.in_ok-n.n in
    let after = c.in_ok-n.after.now in
    let next : Next rest n after = MatchOption-at_some _ _ _ c.in_ok-n.ensures.ok_part c.number.ensures in record {
      room = length-set items i n ∙ inv.room;
      found = λ ms h. rw (take_more_set items i n (omega (arith, inv.room)), append_assoc) (inv.found (n ∷ ms) (numbers_cons rest n after ms next h));
      left = λ ns long h. numbers_tail rest n after (get_or ns i 0) (drop (i + 1) ns) next (rw (drop_more ns i 0 (omega (arith, inv.room, long))) at (inv.left ns long h));
    }

pub returns-then-is_empty : goal.returns-then-is_empty
returns-then-is_empty g c =
    let inv = c.loop-slot.invariant in
    let items = c.loop-slot.slot-items in
    let none : c.loop-slot.rest.now ≡ [] = nil_from_length c.loop-slot.rest.now (true-eqb _ 0 c.if-is_empty.ensures) in
    let all : Numbers c.args.s.now items = rw (append-nil, take_all c.loop-slot.slot-index items (omega (arith, inv.room))) at (inv.found [] none) in
    subst (Numbers c.args.s.now) (fill_by_all (λ k. get_or items k 0) items g.row.N 0 inv.room (λ k h. refl)) all
