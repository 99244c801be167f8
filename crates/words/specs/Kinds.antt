-- What each kind of word allows.
--     least k, most k      the least and the most count of a word of kind k
--     bits k               its two kind bits
--     Decodes b r          r is the kind with the bits b, or the refusal of bits that no kind has
use Rattle.std.specs.Prelude.{◌≡◌, ℕ, ◌<◌, Result, MatchResult}
use Rattle.words.specs.declared.fault.WordFault.{WordFault}
use Rattle.words.specs.declared.kind.Kind.{Kind}
use Rattle.words.specs.declared.kind.Kind.TheVariants.{Empty, Half, Counted}

abbrev pub least : Kind → ℕ
least Empty = 0
least Half = 0
least Counted = 1

abbrev pub most : Kind → ℕ
most Empty = 0
most Half = 0
most Counted = 16383

abbrev pub bits : Kind → ℕ
bits Empty = 0
bits Half = 1
bits Counted = 2

abbrev pub Decodes : ℕ → Result Kind WordFault → Type 0
Decodes b r = MatchResult r (λ k. bits k ≡ b) (λ e. 2 < b)
