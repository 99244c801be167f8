-- A growth turn keeps what holds of the tables, and shows the meaning of a bank.
use Rattle.std.proofs.Common.{◌≡◌, ℕ, ◌+◌, ◌*◌, ◌<◌, ◌≤◌, length, get_or, set, None, sym, refl, ap, ◌∙◌, arith}
use Rattle.banks.specs.declared.answer.Coin.{Coin}
use Rattle.banks.specs.declared.answer.Side.{Side}
use Rattle.forest.specs.declared.errand.Errand.{Errand}
use Rattle.forest.specs.declared.errand.Phase.{Phase}
use Rattle.forest.specs.declared.errand.Phase.TheVariants.{Grow, Fork}
use Rattle.forest.specs.Agents.{cell, frames_to, agent, begins, doing_by, doing_of}
use Rattle.forest.specs.Climb as climb
use Rattle.forest.specs.Errands.{no_errand, at_node}
use Rattle.forest.specs.Layouts.{Layout}
use Rattle.forest.specs.Ledgers.{job}
use Rattle.forest.specs.Lone.{first, lone}
use Rattle.banks.specs.Meaning.{Goes, turn_refusal}
use Rattle.forest.specs.Shown.{lone_by, lone_of, meaning}
use Rattle.forest.specs.Sound.{outs_of, Sound}
use Rattle.forest.specs.Tables.{Tables, at, grows, forks, twins, forked}
use Rattle.forest.proofs.Changes.{in_crew}
use Rattle.forest.proofs.ClimbLone.{first_le}
use Rattle.forest.proofs.Counting.{at_set, put_back}
use Rattle.forest.proofs.Growths.{grow_keeps_sound, grow_grown, grow_outs, fork_keeps_sound, fork_grown}
use Rattle.forest.specs.Lays.{Lays, Grown}
use Rattle.forest.proofs.Lists.{le_from, nat_from, again}
use Rattle.forest.proofs.Shows.{keeps, outs_still, doings}

pub grown_from : (B C : Tables) → ∥ Grown B C ∥₁ → Grown B C
grown_from B C g = record {
  size = nat_from _ _ g (λ z. z.size);
  tallies = nat_from _ _ g (λ z. z.tallies);
  used = le_from _ _ g (λ z. z.used);
  tally = (λ y m n. nat_from _ _ g (λ z. z.tally y m n));
}

module _ (L : Layout) (l : Lays L) (B : Tables) (s : ∥ Sound L B ∥₁) (a : ℕ) (in_a : a < 16) (free : turn_refusal (meaning L B) a ≡ None) where
  abbrev e : Errand
  e = job B.ledger a

  pub in_e : a < length B.ledger.errands
  in_e = le_from _ _ s (λ z. in_crew L B z a in_a)

  -- a turn that goes on
  pub goes : (C : Tables) → ∥ Sound L C ∥₁ → Grown B C → C.ledger.opened ≡ B.ledger.opened → ((t z : ℕ) → outs_of C.nodes t z ≡ outs_of B.nodes t z)
      → (meaning L C).doing ≡ (meaning L B).doing → (meaning L C).lone a < (meaning L B).lone a → Goes (meaning L B) a (meaning L C)
  goes C s_c g o outs doing falls = record {
    turns = record { free = free; keeps = keeps L l B C s s_c g (omega (arith, o)); falls = falls; opened = o };
    out = outs_still L l B C s s_c (sym o) outs;
    doing = doing;
  }

  pub doing_same : (f : Errand) → doing_of f ≡ doing_of e → (λ b. doing_of (get_or (set B.ledger.errands a f) b no_errand)) ≡ (meaning L B).doing
  doing_same f q = doings B.ledger.errands a f (doing_of e) in_e q ∙ put_back (meaning L B).doing a

  pub link_keeps : (d : Side) (c : Coin) → (job B.ledger a).phase ≡ Grow d c → ∥ Sound L (grows B a d c) ∥₁
  link_keeps d c q = again s (λ z. grow_keeps_sound L l B z a d c in_a q)

  pub link_shows : (d : Side) (c : Coin) → (job B.ledger a).phase ≡ Grow d c → Goes (meaning L B) a (meaning L (grows B a d c))
  link_shows d c q =
      goes (grows B a d c) (link_keeps d c q) (grown_from B (grows B a d c) (again s (λ z. grow_grown L l B z a d c in_a q))) refl
      (λ t z. nat_from _ _ s (λ k. grow_outs L l B k a d c in_a q t z))
      (doing_same f (sym (ap (λ (p : Phase). doing_by p e.waiting.height e.tally) q)))
      (let now : (meaning L (grows B a d c)).lone a ≡ 4 * L.depth + 3 = ap (lone_of L (grows B a d c)) (at_set B.ledger.errands a f no_errand in_e) in
      let was : (meaning L B).lone a ≡ 4 * L.depth + 4 = ap (λ (p : Phase). lone_by p L.depth (lone (λ y. (at B.nodes y).depth) (λ z. cell (at B.nodes z).word) (agent e))) q in
      omega (arith, now, was))
    where
      f : Errand
      f = at_node (Fork d) e.node e

  pub part_keeps : (d : Side) → (job B.ledger a).phase ≡ Fork d → ∥ Sound L (forks B a d) ∥₁
  part_keeps d q = again s (λ z. fork_keeps_sound L l B z a d in_a q)

  pub part_shows : (d : Side) → (job B.ledger a).phase ≡ Fork d → Goes (meaning L B) a (meaning L (forks B a d))
  part_shows d q =
      goes (forks B a d) (part_keeps d q) (grown_from B (forks B a d) (again s (λ z. fork_grown L l B z a d in_a q))) refl (λ t z. refl)
      (doing_same f (sym (ap (λ (p : Phase). doing_by p e.waiting.height e.tally) q)))
      (let now : (meaning L (forks B a d)).lone a ≡ lone_of L (forks B a d) f = ap (lone_of L (forks B a d)) (at_set B.ledger.errands a f no_errand in_e) in
      let was : (meaning L B).lone a ≡ 4 * L.depth + 3 = ap (λ (p : Phase). lone_by p L.depth (lone deep words (agent e))) q in
      let flat : e.waiting.height ≡ 0 = nat_from _ _ s (λ z. (z.fit a).flat (ap begins q)) in
      let low : deep f.node ≤ L.depth = le_from _ _ s (λ z. z.shallow f.node) in
      let cost : lone_of L (forks B a d) f ≡ first (deep f.node) (words f.node) + 0 = ap (λ (h : ℕ). lone deep words (climb.arr f.node climb.reads (frames_to e.waiting.frames h))) flat in
      let most = first_le (deep f.node) (words f.node) in
      omega (arith, now, was, low, cost, most))
    where
      f : Errand
      f = forked d (twins e.node (at B.nodes e.node).left) e

      deep : ℕ → ℕ
      deep y = (at B.nodes y).depth

      words : ℕ → climb.Word
      words z = cell (at B.nodes z).word
