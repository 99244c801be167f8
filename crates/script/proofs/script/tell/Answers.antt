use Rattle.std.proofs.Common.{ℕ, List, string_bytes}
use Rattle.std.proofs.lemmas.Result.{IfOk-weaker}
use Rattle.forest.specs.Flat.{FlatNew, flat_means, flat_does}
use Rattle.script.specs.declared.opening.Kind.{Kind}
use Rattle.script.specs.declared.opening.Kind.TheVariants.{Flat}
use Rattle.script.specs.Told.{Session}
use Rattle.script.specs.Whole.{Tells}
use Rattle.script.proofs.script.tell.Goals as goal

tells : (k : Kind) (b : _) (bs out : List ℕ) → FlatNew b → Session flat_means flat_does b bs out → Tells k bs out
tells Flat b bs out new told = (b, new, told)

pub returns : goal.returns
returns c =
    IfOk-weaker c.session.result _ _ (λ s told. tells c.args.kind c.new.result c.args.text.now (string_bytes s) c.new.ensures.value told)
    c.session.ensures
