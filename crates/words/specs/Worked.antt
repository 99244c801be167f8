-- The worked cases: six of packing, four of the steps.
use Rattle.std.specs.Prelude.{◌≡◌, ℕ, false, Ok, Err}
use Rattle.words.specs.declared.kind.Kind.TheVariants.{Empty, Half, Counted}
use Rattle.words.specs.declared.fault.WordFault.TheVariants.{Unlawful}
use Rattle.words.specs.Words.{Plain, plain, code, unpacked}
use Rattle.words.specs.Steps.{opening, settling, lower}

-- the bits n spell w, and w has the bits n
abbrev pub Spells : ℕ → Plain → Type 0
Spells n w = (unpacked n ≡ Ok w) × (code w ≡ n)

-- the bits n spell w, and the step f takes w to the word of the bits m
abbrev pub Takes : (Plain → Plain) → ℕ → Plain → ℕ → Type 0
Takes f n w m = (unpacked n ≡ Ok w) × (code (f w) ≡ m)

abbrev pub Refused : ℕ → Type 0
Refused n = unpacked n ≡ Err Unlawful

abbrev pub Cases : Type 0
Cases =
    Spells 0x80010000 (plain Counted 1 0)
    × Spells 0xBFFFFFFF (plain Counted 16383 65535)
    × Spells 0x40000001 (plain Half 0 1)
    × Refused 0x00010000
    × Refused 0x80000000
    × Refused 0xC0000000
    × Takes (opening false) 0x0000FFFF (plain Empty 0 65535) 0x40000000
    × Takes settling 0x40000000 (plain Half 0 0) 0x80010000
    × Takes lower 0x80010005 (plain Counted 1 5) 0x00000005
    × Takes lower 0x80020005 (plain Counted 2 5) 0x80010005
