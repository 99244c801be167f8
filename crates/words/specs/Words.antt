-- Node words and their 32 bits.
--     shown w              kind, count and version of w, without the proof that they agree
--     Lawful w             kind, count and version agree
--     formed k c v         the word of these parts, or the refusal
--     code w               the 32 bits of w
--     unpacked n           the word that the bits n spell, or the refusal
--     Packed n r           r is the one lawful word whose bits are n, or the refusal where there is none
--     Packs w n            n is the 32 bits of w
--     Unpacks n r          r shows the word that the bits n spell, and is Packed
--     same a b             whether two words are the same
--     blank                the word of a node that nobody has used
use Rattle.std.specs.Prelude.{◌≡◌, ℕ, ◌+◌, ◌*◌, ◌/◌, ◌%◌, ◌^◌, ◌<◌, ◌≤◌, Bool, cond, ◌&&◌, Ok, Err, Result, ◌==◌, ◌≢◌, nat_le}
use Rattle.std.proofs.Common.{lit≤, lit<}
use Rattle.words.specs.declared.kind.Kind.{Kind}
use Rattle.words.specs.declared.kind.Kind.TheVariants.{Empty, Half, Counted}
use Rattle.words.specs.declared.fault.WordFault.{WordFault}
use Rattle.words.specs.declared.fault.WordFault.TheVariants.{Unlawful}
use Rattle.words.specs.declared.word.Word.{Word}
use Rattle.words.specs.Kinds.{bits, least, most}

pub record Plain : Type 0 where
  pub kind : Kind
  pub count : ℕ
  pub version : ℕ

abbrev pub plain : Kind → ℕ → ℕ → Plain
plain k c v = record { kind = k; count = c; version = v }

abbrev pub shown : Word → Plain
shown w = plain w.kind w.count w.version

-- what is shown of an answer
abbrev pub seen : Result Word WordFault → Result Plain WordFault
seen (Ok w) = Ok (shown w)
seen (Err e) = Err e

abbrev pub Lawful : Plain → Type 0
Lawful w = (least w.kind ≤ w.count) × (w.count ≤ most w.kind) × (w.version < 2 ^ 16)

abbrev pub fits : Kind → ℕ → Bool
fits k c = nat_le (least k) c && nat_le c (most k)

abbrev pub formed : Kind → ℕ → ℕ → Result Plain WordFault
formed k c v = cond (fits k c) (Ok (plain k c v)) (Err Unlawful)

abbrev pub code : Plain → ℕ
code w = bits w.kind * 2 ^ 30 + w.count * 2 ^ 16 + w.version

-- by the two kind bits, the count and the version
abbrev pub parted : ℕ → ℕ → ℕ → Result Plain WordFault
parted k c v = cond (k == 0) (formed Empty c v) (cond (k == 1) (formed Half c v) (cond (k == 2) (formed Counted c v) (Err Unlawful)))

abbrev pub unpacked : ℕ → Result Plain WordFault
unpacked n = parted (n / 2 ^ 30) (n / 2 ^ 16 % 2 ^ 14) (n % 2 ^ 16)

abbrev pub Packed : ℕ → Result Plain WordFault → Type 0
Packed n (Ok w) = Lawful w × (code w ≡ n) × ((v : Plain) → Lawful v → code v ≡ n → v ≡ w)
Packed n (Err e) = (w : Plain) → Lawful w → code w ≢ n

abbrev pub Packs : Word → ℕ → Type 0
Packs w n = n ≡ code (shown w)

abbrev pub Unpacks : ℕ → Result Word WordFault → Type 0
Unpacks n r = (seen r ≡ unpacked n) × Packed n (seen r)

abbrev pub same : Plain → Plain → Bool
same a b = bits a.kind == bits b.kind && (a.count == b.count && a.version == b.version)

abbrev pub blank : Word
blank = record { kind = Empty; count = 0; version = 0; lawful = (lit≤ tt, lit≤ tt); narrow = lit< tt }
