-- What the code asks of its tables, from what holds of them.
use Rattle.std.proofs.Common.{◌≡◌, ℕ, ◌+◌, ◌<◌, ◌≤◌, true, false, length, Some, refl, ap, arith}
use Rattle.forest.specs.Agents.{begins}
use Rattle.forest.specs.Climb.{top}
use Rattle.forest.specs.Errands.{idles}
use Rattle.forest.specs.Groves.{Ready}
use Rattle.forest.specs.Layouts.{Layout, root}
use Rattle.forest.specs.Ledgers.{job}
use Rattle.forest.specs.Sound.{Sound}
use Rattle.forest.specs.Tables.{Tables, at, Able}
use Rattle.forest.proofs.Changes.{root_used, in_used, in_nodes}
use Rattle.forest.specs.Lays.{Lays}
use Rattle.forest.proofs.Lists.{le_from, nat_from}
use Rattle.forest.proofs.Moving.{moving}
use Rattle.forest.proofs.Turning as turning
use Rattle.forest.proofs.Ways.{Way, links, parts, moves, way_of}

module _ (L : Layout) (l : Lays L) (B : Tables) (s : ∥ Sound L B ∥₁) where
  pub opened_few : B.ledger.opened < B.tallies → B.ledger.opened < 256
  opened_few h = le_from _ _ s (λ z. omega (arith, z.many))

  pub root_there : B.ledger.opened < B.tallies → root L B.ledger.opened < length B.nodes
  root_there h = le_from _ _ s (λ z. omega (arith, root_used L l B z B.ledger.opened h, z.fits))

  -- of an open tally
  module _ (t : ℕ) (h : t < B.ledger.opened) where
    pub tally_few : t < 256
    tally_few = le_from _ _ s (λ z. omega (arith, z.few, z.many))

    pub root_open : root L t < length B.nodes
    root_open = le_from _ _ s (λ z. in_nodes L l B z t (root L t) (h, top (root L t) refl))

    pub place_there : (p : ℕ) → L.has B t p ≡ true → L.base t + p < length B.nodes
    place_there p e = le_from _ _ s (λ z. in_nodes L l B z t (L.base t + p) (h, (l.has_in B z t p h e).0))

    pub place_low : (p : ℕ) → L.has B t p ≡ true → L.base t + p < 65536
    place_low p e = le_from _ _ s (λ z. omega (arith, in_used L l B z t (L.base t + p) (h, (l.has_in B z t p h e).0), z.low))

  -- in the growth turns
  begun_there : (a : ℕ) → begins (job B.ledger a).phase ≡ 1 → (job B.ledger a).node < length B.nodes
  begun_there a e = le_from _ _ s (λ z. in_nodes L l B z (job B.ledger a).tally (job B.ledger a).node (z.begun a e))

  left_few : (y k : ℕ) → (at B.nodes y).left ≡ Some k → k < 65535
  left_few y k e = le_from _ _ s (λ z. let low = (z.down (k + 1) y (z.pairs y k e).1).1 in omega (arith, low, z.low))

  -- where trees do not grow, an agent with an errand climbs or comes down
  pub only_moves : (a : ℕ) → L.growth ≡ 0 → idles (job B.ledger a).phase ≡ false → moving (job B.ledger a).phase ≡ true
  only_moves a still busy = by_way (way_of (job B.ledger a).phase busy)
    where
      low : begins (job B.ledger a).phase ≤ 0
      low = le_from _ _ s (λ z. let g = z.grows a in omega (arith, g, still))

      by_way : Way (job B.ledger a).phase → moving (job B.ledger a).phase ≡ true
      by_way (links d c q) = let n : ⊥ = (let one : begins (job B.ledger a).phase ≡ 1 = ap begins q in omega (arith, low, one)) in absurd n
      by_way (parts d q) = let n : ⊥ = (let one : begins (job B.ledger a).phase ≡ 1 = ap begins q in omega (arith, low, one)) in absurd n
      by_way (moves m) = m

  growing : (a : ℕ) → begins (job B.ledger a).phase ≡ 1 → L.growth ≡ 1
  growing a q = nat_from _ _ s (λ z. let g = z.grows a in omega (arith, g, q, l.either))

  -- of an agent that climbs or comes down
  module _ (a : ℕ) (in_a : a < 16) (mo : moving (job B.ledger a).phase ≡ true) where
    able : Able B.nodes (job B.ledger a)
    able = record {
      node = le_from _ _ s (λ z. turning.node_low L l B z a in_a mo);
      high = le_from _ _ s (λ z. (z.fit a).short);
      room = (λ q e m. le_from _ _ s (λ z. turning.room_left L l B z a in_a mo q e m));
      waits = (λ e. le_from _ _ s (λ z. ((z.fit a).settles e).0));
      place = (λ y e. le_from _ _ s (λ z. turning.place_low L l B z a in_a mo y e));
      few = (λ y e. le_from _ _ s (λ z. turning.place_out L l B z a in_a mo y e));
    }

    errand_few : (job B.ledger a).tally < 256
    errand_few = le_from _ _ s (λ z. let low = (turning.live L l B z a in_a mo).0 in omega (arith, low, z.few, z.many))

  -- of an agent with an errand
  pub ready : (a : ℕ) → a < 16 → idles (job B.ledger a).phase ≡ false → Ready L B a
  ready a in_a busy =
      let e = job B.ledger a in
      record {
        agent = in_a;
        low = by_way_low (way_of e.phase busy);
        grows = (λ q. (growing a q, begun_there a q));
        few = left_few e.node;
        able = (λ q. by_way_able (way_of e.phase busy) q);
      }
    where
      begun_low : begins (job B.ledger a).phase ≡ 1 → (job B.ledger a).tally < 256
      begun_low q = le_from _ _ s (λ z. let h = (z.begun a q).0 in omega (arith, h, z.few, z.many))

      by_way_low : Way (job B.ledger a).phase → (job B.ledger a).tally < 256
      by_way_low (links d c q) = begun_low (ap begins q)
      by_way_low (parts d q) = begun_low (ap begins q)
      by_way_low (moves m) = errand_few a in_a m

      by_way_able : Way (job B.ledger a).phase → begins (job B.ledger a).phase ≡ 0 → Able B.nodes (job B.ledger a)
      by_way_able (links d c q) n = let no : ⊥ = (let one : begins (job B.ledger a).phase ≡ 1 = ap begins q in omega (arith, n, one)) in absurd no
      by_way_able (parts d q) n = let no : ⊥ = (let one : begins (job B.ledger a).phase ≡ 1 = ap begins q in omega (arith, n, one)) in absurd no
      by_way_able (moves m) n = able a in_a m
