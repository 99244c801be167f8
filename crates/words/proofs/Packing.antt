-- The 32 bits of a word: packing and unpacking undo each other.
use Rattle.std.proofs.Common.{◌≡◌, ℕ, ◌+◌, ◌*◌, ◌/◌, ◌%◌, ◌^◌, ◌<◌, ◌≤◌, true, false, cond, Ok, Err, Result, sym, refl, ap, ◌∙◌, inl, inr, arith}
use lib.Bits.{bit_and, bit_or}
use Rattle.std.proofs.lemmas.Nat.{or_shifted, and_mask}
use Rattle.std.proofs.lemmas.Bool.Decides.{nat_tests, eqb_tells}
use Rattle.words.specs.declared.kind.Kind.{Kind}
use Rattle.words.specs.declared.kind.Kind.TheVariants.{Empty, Half, Counted}
use Rattle.words.specs.declared.fault.WordFault.{WordFault}
use Rattle.words.specs.declared.fault.WordFault.TheVariants.{Unlawful}
use Rattle.words.specs.Kinds.{bits, most, least}
use Rattle.words.specs.Words.{Plain, plain, code, parted, unpacked, formed, fits, Lawful, Packed}

-- the parts under their masks and shifts are the sum of the parts
pub joined : (k c v : ℕ) → k < 4 → c < 2 ^ 14 → v < 2 ^ 16
    → bit_or (bit_or ((k * 2 ^ 30) % 2 ^ 32) ((bit_and c 16383 * 2 ^ 16) % 2 ^ 32)) (bit_and v 65535) ≡ k * 2 ^ 30 + c * 2 ^ 16 + v
joined k c v hk hc hv =
    let mc : bit_and c 16383 ≡ c = and_mask c 14 ∙ omega arith in
    let mv : bit_and v 65535 ≡ v = and_mask v 16 ∙ omega arith in
    let e1 : (k * 2 ^ 30) % 2 ^ 32 ≡ k * 2 ^ 30 = omega arith in
    let e2 : (c * 2 ^ 16) % 2 ^ 32 ≡ c * 2 ^ 16 = omega arith in
    let lo : c * 2 ^ 16 < 2 ^ 30 = omega arith in
    let o1 : bit_or (k * 2 ^ 30) (c * 2 ^ 16) ≡ (k * 2 ^ 14 + c) * 2 ^ 16 = or_shifted k 30 (c * 2 ^ 16) lo ∙ omega arith in
    let o2 : bit_or ((k * 2 ^ 14 + c) * 2 ^ 16) v ≡ (k * 2 ^ 14 + c) * 2 ^ 16 + v = or_shifted (k * 2 ^ 14 + c) 16 v hv in
    rw (mc, mv, e1, e2, o1, o2) (omega arith)

pub bits_below : (k : Kind) → bits k < 4
bits_below Empty = omega arith
bits_below Half = omega arith
bits_below Counted = omega arith

pub most_below : (k : Kind) → most k < 2 ^ 14
most_below Empty = omega arith
most_below Half = omega arith
most_below Counted = omega arith

-- the three parts of a packed word
top : (k c v : ℕ) → c < 2 ^ 14 → v < 2 ^ 16 → (k * 2 ^ 30 + c * 2 ^ 16 + v) / 2 ^ 30 ≡ k
top k c v hc hv = omega arith

middle : (k c v : ℕ) → c < 2 ^ 14 → v < 2 ^ 16 → (k * 2 ^ 30 + c * 2 ^ 16 + v) / 2 ^ 16 % 2 ^ 14 ≡ c
middle k c v hc hv = omega arith

bottom : (k c v : ℕ) → v < 2 ^ 16 → (k * 2 ^ 30 + c * 2 ^ 16 + v) % 2 ^ 16 ≡ v
bottom k c v hv = omega arith

-- a lawful word is unpacked to itself
pub again : (k : Kind) (c v : ℕ) → least k ≤ c → c ≤ most k → v < 2 ^ 16 → unpacked (code (plain k c v)) ≡ Ok (plain k c v)
again Empty c v lo hi hv =
    let z : c < 2 ^ 14 = omega arith in
    rw (top 0 c v z hv, middle 0 c v z hv, bottom 0 c v hv) (grind (arith, nat_tests))
again Half c v lo hi hv =
    let z : c < 2 ^ 14 = omega arith in
    rw (top 1 c v z hv, middle 1 c v z hv, bottom 1 c v hv) (grind (arith, nat_tests))
again Counted c v lo hi hv =
    let z : c < 2 ^ 14 = omega arith in
    rw (top 2 c v z hv, middle 2 c v z hv, bottom 2 c v hv) (grind (arith, nat_tests))

-- no lawful word has bits that are refused
pub refuses : (n : ℕ) (e : WordFault) (w : Plain) → unpacked n ≡ Err e → Lawful w → code w ≡ n → ⊥
refuses n e w p s q =
    let a : unpacked (code w) ≡ Ok w = again w.kind w.count w.version s.0 s.1 s.2 in
    let b : unpacked (code w) ≡ unpacked n = ap unpacked q in
    let z : ◌≡◌ {A = ℕ} 0 1 = cc in omega arith

-- what is formed has these parts, and they agree
made : (k : Kind) (c v : ℕ) (w : Plain) → formed k c v ≡ Ok w → (w ≡ plain k c v) × (fits k c ≡ true)
made k c v w h =
    elim (fits k c) as (λ b. cond b (Ok (plain k c v)) (Err Unlawful) ≡ Ok w → (w ≡ plain k c v) × (b ≡ true)) [
      | true ↦ λ e. (cc, refl)
      | false ↦ λ e. let z : ◌≡◌ {A = ℕ} 0 1 = cc in absurd (omega arith)
    ] h

fit : (k : Kind) (c : ℕ) → fits k c ≡ true → (least k ≤ c) × (c ≤ most k)
fit k c h = (grind (arith, nat_tests), grind (arith, nat_tests))

sums : (n q : ℕ) → n / 2 ^ 30 ≡ q → q * 2 ^ 30 + (n / 2 ^ 16 % 2 ^ 14) * 2 ^ 16 + n % 2 ^ 16 ≡ n
sums n q h = omega arith

-- what was formed for one kind has these bits
gives : (n : ℕ) (k : Kind) (w : Plain) → n / 2 ^ 30 ≡ bits k → formed k (n / 2 ^ 16 % 2 ^ 14) (n % 2 ^ 16) ≡ Ok w → Lawful w × (code w ≡ n)
gives n k w h e =
    let m = made k (n / 2 ^ 16 % 2 ^ 14) (n % 2 ^ 16) w e in
    let f = fit k (n / 2 ^ 16 % 2 ^ 14) m.1 in
    rw m.0 ((f.0, f.1, omega arith), sums n (bits k) h)

-- by the kind bits
by_kind : (n q : ℕ) (w : Plain) → n / 2 ^ 30 ≡ q → parted q (n / 2 ^ 16 % 2 ^ 14) (n % 2 ^ 16) ≡ Ok w → Lawful w × (code w ≡ n)
by_kind n q w h e = elim (eqb_tells q 0) [
  | inl z ↦ gives n Empty w (h ∙ z.1) (rw z.0 at e)
  | inr a ↦ elim (eqb_tells q 1) [
    | inl z ↦ gives n Half w (h ∙ z.1) (rw (a.0, z.0) at e)
    | inr b ↦ elim (eqb_tells q 2) [
      | inl z ↦ gives n Counted w (h ∙ z.1) (rw (a.0, b.0, z.0) at e)
      | inr c ↦ let f : Err Unlawful ≡ Ok w = rw (a.0, b.0, c.0) at e in let z : ◌≡◌ {A = ℕ} 0 1 = cc in absurd (omega arith)
    ]
  ]
]

-- no other lawful word has them
only : (n : ℕ) (w v : Plain) → unpacked n ≡ Ok w → Lawful v → code v ≡ n → v ≡ w
only n w v e l c =
    let a : unpacked (code v) ≡ Ok v = again v.kind v.count v.version l.0 l.1 l.2 in
    let b : unpacked (code v) ≡ unpacked n = ap unpacked c in
    cc

pub right : (n : ℕ) (r : Result Plain WordFault) → r ≡ unpacked n → Packed n r
right n (Ok w) u = let g = by_kind n (n / 2 ^ 30) w refl (sym u) in (g.0, g.1, λ v. only n w v (sym u))
right n (Err x) u = λ w. refuses n x w (sym u)
