-- The steps that turns make on a word, first on what is shown of it, then on the word.
--     higher, raised             one higher; a count stops at 16,383
--     opening root, opened root  half, at a root counted with count 1; the version one higher, going round after 65,535
--     settling, settled          counted with count 1
--     lower, lowered             one lower, or empty where nothing would be left
use Rattle.std.specs.Prelude.{ℕ, ◌+◌, ◌-◌, ◌%◌, ◌^◌, ◌<◌, ◌≤◌, min, max, Bool, true, false, cond, nat_le}
use Rattle.std.proofs.Common.{arith}
use Rattle.words.specs.declared.kind.Kind.{Kind}
use Rattle.words.specs.declared.kind.Kind.TheVariants.{Empty, Half, Counted}
use Rattle.words.specs.declared.word.Word.{Word}
use Rattle.words.specs.Kinds.{most}
use Rattle.words.specs.Words.{Plain, plain}

abbrev pub higher : Plain → Plain
higher w = plain Counted (min w.count 16382 + 1) w.version

abbrev pub opening : Bool → Plain → Plain
opening true w = plain Counted 1 ((w.version + 1) % 2 ^ 16)
opening false w = plain Half 0 ((w.version + 1) % 2 ^ 16)

abbrev pub settling : Plain → Plain
settling w = plain Counted 1 w.version

abbrev pub lower : Plain → Plain
lower w = cond (nat_le w.count 1) (plain Empty 0 w.version) (plain Counted (w.count - 1) w.version)

-- The words that the steps leave are lawful.

pub most_le : (k : Kind) → most k ≤ 16383
most_le Empty = omega arith
most_le Half = omega arith
most_le Counted = omega arith

pub none_lawful : (0 ≤ 0) × (0 ≤ 0)
none_lawful = (omega arith, omega arith)

pub one_lawful : (1 ≤ 1) × (1 ≤ 16383)
one_lawful = (omega arith, omega arith)

pub higher_lawful : (c : ℕ) → (1 ≤ min c 16382 + 1) × (min c 16382 + 1 ≤ 16383)
higher_lawful c = (omega arith, omega arith)

pub fewer_lawful : (w : Word) → (1 ≤ max 1 (w.count - 1)) × (max 1 (w.count - 1) ≤ 16383)
fewer_lawful w = (omega arith, omega (arith, w.lawful, most_le w.kind))

pub round_narrow : (v : ℕ) → (v + 1) % 2 ^ 16 < 65536
round_narrow v = omega arith

abbrev pub raised : Word → Word
raised w = record { kind = Counted; count = min w.count 16382 + 1; version = w.version; lawful = higher_lawful w.count; narrow = w.narrow }

abbrev pub opened : Bool → Word → Word
opened true w = record { kind = Counted; count = 1; version = (w.version + 1) % 2 ^ 16; lawful = one_lawful; narrow = round_narrow w.version }
opened false w = record { kind = Half; count = 0; version = (w.version + 1) % 2 ^ 16; lawful = none_lawful; narrow = round_narrow w.version }

abbrev pub settled : Word → Word
settled w = record { kind = Counted; count = 1; version = w.version; lawful = one_lawful; narrow = w.narrow }

abbrev pub emptied : Word → Word
emptied w = record { kind = Empty; count = 0; version = w.version; lawful = none_lawful; narrow = w.narrow }

-- the count is above 1 where this is used, so that the greater of the two is one lower
abbrev pub fewer : Word → Word
fewer w = record { kind = Counted; count = max 1 (w.count - 1); version = w.version; lawful = fewer_lawful w; narrow = w.narrow }

abbrev pub lowered : Word → Word
lowered w = cond (nat_le w.count 1) (emptied w) (fewer w)
