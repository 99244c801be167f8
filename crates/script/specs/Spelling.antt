-- How a line of a script is spelled.
--     Number ds n          the digits ds write the number n
--     Next bs n after      bs is a space, the digits of n, and after, which goes on with no digit
--     Numbers bs ns        bs is the numbers ns, each a space and its digits, and nothing else
--     Begins bs c          bs begins with the letter of the call c
--     Spelled bs c         bs is the letter of c and its numbers
--     Parsed bs r          r is the call that bs spells, or the fault of bs
--     Decodes n r          r is the kind of bank with the number n, or the fault that there is none
--     Names bs k           bs is the first line of a script over a bank of the kind k
use Rattle.std.specs.Prelude.{◌≡◌, ℕ, ◌+◌, ◌-◌, ◌*◌, ◌<◌, ◌≤◌, List, [], ◌∷◌, ◌++◌, length, All, IfSome, Ok, Err, Result, slice_get}
use Rattle.std.specs.Char.{IsAsciiDigit}
use Rattle.engine.specs.declared.call.Call.{Call}
use Rattle.engine.specs.declared.call.Call.TheVariants.{Make, Take, Signal, Turn}
use Rattle.script.specs.declared.fault.Fault.{Fault}
use Rattle.script.specs.declared.fault.Fault.TheVariants.{Unknown, Malformed, TooLong, Engine}
use Rattle.script.specs.declared.opening.Kind.{Kind}
use Rattle.script.specs.declared.opening.Kind.TheVariants.{Flat}

-- what the digits write, after the number n
abbrev pub value_on : ℕ → List ℕ → ℕ
value_on n [] = n
value_on n (c ∷ cs) = value_on (n * 10 + (c - 48)) cs

pub record Number (ds : List ℕ) (n : ℕ) : Type 0 where
  pub digits : All IsAsciiDigit ds
  pub some : 0 < length ds
  pub five : length ds ≤ 5
  pub value : n ≡ value_on 0 ds
  pub small : n ≤ 65535

-- no digit comes first
abbrev pub Past : List ℕ → Type 0
Past bs = IfSome (slice_get bs 0) (λ c. IsAsciiDigit c → ⊥)

pub record Next (bs : List ℕ) (n : ℕ) (after : List ℕ) : Type 0 where
  pub ds : List ℕ
  pub cut : bs ≡ 32 ∷ (ds ++ after)
  pub number : Number ds n
  pub past : Past after

abbrev pub Numbers : List ℕ → List ℕ → Type 0
Numbers bs [] = bs ≡ []
Numbers bs (n ∷ ns) = (ds : List ℕ) × (after : List ℕ) × (bs ≡ 32 ∷ (ds ++ after)) × Number ds n × Numbers after ns

-- m, k, g and t, in this order
abbrev pub letter : Call → ℕ
letter Make = 109
letter (Take task) = 107
letter (Signal agent task) = 103
letter (Turn agent) = 116

abbrev pub numbered : Call → List ℕ
numbered Make = []
numbered (Take task) = task ∷ []
numbered (Signal agent task) = agent ∷ task ∷ []
numbered (Turn agent) = agent ∷ []

abbrev pub Begins : List ℕ → Call → Type 0
Begins bs c = (rest : List ℕ) × (bs ≡ letter c ∷ rest)

abbrev pub Spelled : List ℕ → Call → Type 0
Spelled bs c = (rest : List ℕ) × (bs ≡ letter c ∷ rest) × Numbers rest (numbered c)

-- a line alone is never too long, and calls nothing
abbrev pub Parsed : List ℕ → Result Call Fault → Type 0
Parsed bs (Ok c) = Spelled bs c
Parsed bs (Err Unknown) = (c : Call) → Begins bs c → ⊥
Parsed bs (Err Malformed) = ((c : Call) × Begins bs c) × ((c : Call) → Spelled bs c → ⊥)
Parsed bs (Err TooLong) = ⊥
Parsed bs (Err (Engine e)) = ⊥

abbrev pub kind_number : Kind → ℕ
kind_number Flat = 0

-- r is the kind of the number n, or the fault that no kind has it
abbrev pub Decodes : ℕ → Result Kind Fault → Type 0
Decodes n (Ok k) = kind_number k ≡ n
Decodes n (Err e) = (e ≡ Unknown) × ((k : Kind) → kind_number k ≡ n → ⊥)

-- the letter is b
abbrev pub Names : List ℕ → Kind → Type 0
Names bs k = (rest : List ℕ) × (bs ≡ 98 ∷ rest) × Numbers rest (kind_number k ∷ [])
