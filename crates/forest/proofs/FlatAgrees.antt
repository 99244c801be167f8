-- The machine of trees, laid flat, is the flat bank.
use Rattle.std.proofs.Common.{refl, ap, ◌∙◌}
use Rattle.forest.specs.FlatTables.{FlatLaw}
use Rattle.forest.proofs.FlatAgreesCalls.{seen, same}
use Rattle.forest.proofs.FlatAgreesMeaning.{kept, means}

pub flat_law : FlatLaw
flat_law = record {
  first = refl;
  agrees = (λ B tall s. record {
    kept = kept B tall s;
    means = means B tall s;
    does = (λ q r C did. ap seen did ∙ same B tall s q);
  });
}
