-- What is printed for a whole input.
--     Tells k bs out       a new bank of the kind k takes the calls among the lines of bs, and out is printed
--     Opened k rest out    out is printed, where the first line names the kind k and rest are the other lines
--     Opens bs k rest      the first line of bs names a bank of the kind k, and rest are the other lines
--     Printed bs out       out is printed for the input bs
use Rattle.std.specs.Prelude.{◌≡◌, ℕ, ◌<◌, ◌≤◌, ◌⊎◌, List, ◌++◌, length, codes}
use Rattle.forest.specs.Flat.{FlatNew, flat_means, flat_does}
use Rattle.forest.specs.Flat as forest
use Rattle.script.specs.declared.fault.Fault.TheVariants.{Unknown, TooLong}
use Rattle.script.specs.declared.opening.Kind.{Kind}
use Rattle.script.specs.declared.opening.Kind.TheVariants.{Flat}
use Rattle.script.specs.Lines.{Cut}
use Rattle.script.specs.Spelling.{Names}
use Rattle.script.specs.Texts.{refusal_text, row}
use Rattle.script.specs.Told.{Session}

abbrev pub Tells : Kind → List ℕ → List ℕ → Type 0
Tells Flat bs out = (b : forest.Flat) × FlatNew b × Session flat_means flat_does b bs out

abbrev pub Opened : Kind → List ℕ → List ℕ → Type 0
Opened k rest out = (tail : List ℕ) × Tells k rest tail × (out ≡ codes "ok\n" ++ tail)

pub record Opens (bs : List ℕ) (k : Kind) (rest : List ℕ) : Type 0 where
  pub first : List ℕ
  pub cut : Cut bs first rest
  pub names : Names first k

abbrev pub Begun : List ℕ → List ℕ → Type 0
Begun bs out = (k : Kind) × (rest : List ℕ) × Opens bs k rest × Opened k rest out

-- the first line names no bank, or there is none
abbrev pub NoBank : List ℕ → Type 0
NoBank bs = (first rest : List ℕ) (k : Kind) → Cut bs first rest → Names first k → ⊥

abbrev pub Printed : List ℕ → List ℕ → Type 0
Printed bs out =
    ((65536 < length bs) × (out ≡ row (refusal_text 0 TooLong)))
    ⊎ (((length bs ≤ 65536) × NoBank bs × (out ≡ row (refusal_text 1 Unknown)))
    ⊎ ((length bs ≤ 65536) × Begun bs out))
