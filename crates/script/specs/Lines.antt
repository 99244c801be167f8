-- How a text is cut into lines, and what they spell.
--     Inner c              the byte c is no newline
--     Cut bs l rest        l is the first line of bs, and rest what comes after its newline
--     Cuts s o t           the lines s give the line o, or are at their end, and leave the lines t
--     Reads bs rs          the lines of bs spell rs, one after another
use Rattle.std.specs.Borrow.{Bor}
use Rattle.std.specs.Prelude.{◌≡◌, ℕ, ◌<◌, ◌⊎◌, List, [], ◌∷◌, ◌++◌, length, All, MatchOption, Option, Result}
use Rattle.engine.specs.declared.call.Call.{Call}
use Rattle.script.specs.declared.cut.Lines.{Lines}
use Rattle.script.specs.declared.fault.Fault.{Fault}
use Rattle.script.specs.Spelling.{Parsed}

abbrev pub Inner : ℕ → Type 0
Inner c = c ≡ 10 → ⊥

-- the last newline is optional: a line that has none is the last, and is not empty
pub record Cut (bs l rest : List ℕ) : Type 0 where
  pub inner : All Inner l
  pub ends : (bs ≡ l ++ (10 ∷ rest)) ⊎ ((bs ≡ l) × (rest ≡ []) × (0 < length l))

abbrev pub Cuts : Lines → Option (Bor (List ℕ)) → Lines → Type 0
Cuts s o t = MatchOption o (s.0.now ≡ []) (λ l. Cut s.0.now l.now t.0.now)

abbrev pub Reads : List ℕ → List (Result Call Fault) → Type 0
Reads bs [] = bs ≡ []
Reads bs (r ∷ rs) = (l : List ℕ) × (rest : List ℕ) × Cut bs l rest × Parsed l r × Reads rest rs
