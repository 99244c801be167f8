-- What a layout has to be for its bank to show the meaning of a bank.
--     Grown B C                      the tables C have all that the tables B have, and perhaps more
--     Started L B t e                how an arrival at the tally t begins
--     Lays L                         what a layout is
use Rattle.std.specs.Prelude.{◌≡◌, ℕ, ◌+◌, ◌*◌, ◌<◌, ◌≤◌, true, length}
use Rattle.banks.specs.declared.answer.Coin.{Coin}
use Rattle.banks.specs.declared.answer.Side.{Side}
use Rattle.forest.specs.declared.errand.Errand.{Errand}
use Rattle.forest.specs.Agents.{doing_of}
use Rattle.forest.specs.Climb.{Above}
use Rattle.forest.specs.Errands.{comer, grower}
use Rattle.forest.specs.Layouts.{Layout, root}
use Rattle.banks.specs.Meaning.{arriving}
use Rattle.forest.specs.Sound.{par_of, In, Sound}
use Rattle.forest.specs.Tables.{Tables, at}

pub record Grown (B C : Tables) : Type 0 where
  pub size : length C.nodes ≡ length B.nodes
  pub tallies : C.tallies ≡ B.tallies
  pub used : B.used ≤ C.used
  pub tally : (z : ℕ) → B.tallies ≤ z → z < B.used → (at C.nodes z).tally ≡ (at B.nodes z).tally

pub data Started (L : Layout) (B : Tables) (t : ℕ) (e : Errand) : Type 0 where
  climbs_from : (x : ℕ) (l : ℕ × ℕ) → e ≡ comer t x l → In L B t x → L.takes B t l.0 ≡ true → L.takes B t l.1 ≡ true → Started L B t e
  grows_from : (x : ℕ) (s : Side) (c : Coin) → e ≡ grower t x s c → L.growth ≡ 1 → In L B t x → Started L B t e

pub record Lays (L : Layout) : Type 0 where
  pub some : 1 ≤ L.width
  pub shallow : L.depth ≤ 16
  pub either : L.growth ≤ 1
  pub deep : L.growth ≡ 1 → L.depth ≡ 16
  -- lone numbers
  pub climbs : (6 * L.depth + 3) * (L.depth + 1) ≤ L.limit
  pub grows : L.growth * (4 * L.depth + 4) ≤ L.limit
  pub low : L.limit ≤ 2000
  -- places are the nodes of the trees
  pub first : (t : ℕ) → L.base t + L.first t ≡ root L t
  pub over : (B : Tables) → Sound L B → (t z : ℕ) → In L B t z → L.base t ≤ z
  pub has_in : (B : Tables) → Sound L B → (t p : ℕ) → t < B.ledger.opened → L.has B t p ≡ true → Above (par_of B) (root L t) (L.base t + p) × (p < L.bound B)
  pub in_has : (B : Tables) → Sound L B → (t p : ℕ) → In L B t (L.base t + p) → L.has B t p ≡ true
  pub bounds : (B C : Tables) → Grown B C → L.bound C ≡ L.bound B
  -- arrival places stay; the first is one, and where trees grow every node is
  pub stays : (B C : Tables) → Grown B C → (t p : ℕ) → L.takes B t p ≡ true → L.takes C t p ≡ true
  pub takes_first : (B : Tables) (t : ℕ) → L.takes B t (L.first t) ≡ true
  pub takes_in : (B : Tables) → Sound L B → L.growth ≡ 1 → (t z : ℕ) → In L B t z → L.takes B t z ≡ true
  -- how an arrival begins
  pub starts : (B : Tables) → Sound L B → (a t p : ℕ) (s : Side) (c : Coin) → a < 16 → t < B.ledger.opened → L.takes B t p ≡ true → Started L B t (L.start a t p s c)
  pub begins : (a t p : ℕ) (s : Side) (c : Coin) → doing_of (L.start a t p s c) ≡ arriving t
