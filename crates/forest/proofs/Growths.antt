-- The two growth turns keep what holds of the tables.
use Rattle.std.proofs.Common.{◌≡◌, ℕ, ◌+◌, ◌<◌, ◌≤◌, Bool, true, false, List, [], length, Some, None, Option, sym, refl, ap, ◌∙◌, subst, arith}
use Rattle.banks.specs.declared.answer.Coin.{Coin}
use Rattle.banks.specs.declared.answer.Side.{Side}
use Rattle.banks.specs.declared.answer.Side.TheVariants.{Left, Right}
use Rattle.forest.specs.declared.errand.Errand.{Errand}
use Rattle.forest.specs.declared.errand.Phase.{Phase}
use Rattle.forest.specs.declared.errand.Phase.TheVariants.{Grow, Fork}
use Rattle.forest.specs.declared.node.Node.{Node}
use Rattle.forest.specs.Agents.{frames_to, agent, agent_by, begins, doing_by}
use Rattle.forest.specs.Climb.{reads, idle, arr, Inv, aim, arriving}
use Rattle.forest.specs.Errands.{at_node}
use Rattle.forest.specs.Layouts.{Layout}
use Rattle.forest.specs.Ledgers.{job, moves}
use Rattle.forest.specs.Sound.{par_of, state_of, In, outs_of, Sound}
use Rattle.forest.specs.Tables.{Tables, at, may_link, linked, nodes_by, used_by, grows, twins, picked, forked, forks}
use Rattle.forest.proofs.Changes.{in_nodes, in_child, in_crew, state_still, state_put, rejob_same}
use Rattle.forest.proofs.ClimbCalls.{arrive_keeps}
use Rattle.forest.proofs.Counting.{false_true, never}
use Rattle.forest.specs.Lays.{Grown, Lays}
use Rattle.forest.proofs.Links.{outs_linked, linked_sound, may_tells, grown}

-- an errand in a growth turn is of a layout whose trees grow
pub does_grow : (L : Layout) → Lays L → (B : Tables) → Sound L B → (a : ℕ) → begins (job B.ledger a).phase ≡ 1 → L.growth ≡ 1
does_grow L l B s a b = omega (arith, s.grows a, l.either)

-- The first growth turn

module _ (L : Layout) (l : Lays L) (B : Tables) (s : Sound L B) (a : ℕ) (d : Side) (c : Coin) (in_a : a < 16) (q : (job B.ledger a).phase ≡ Grow d c) where
  abbrev e : Errand
  e = job B.ledger a

  abbrev f : Errand
  f = at_node (Fork d) e.node e

  abbrev AfterBy : Bool → Tables
  AfterBy m = record { nodes = nodes_by m B.nodes e.node B.used; ledger = moves B.ledger a f; tallies = B.tallies; used = used_by m B.used }

  begins_is : begins e.phase ≡ 1
  begins_is = ap begins q

  -- the errand alone, in tables that have it as B has
  errand_sound : (ns : List Node) (u : ℕ) → Sound L (record { nodes = ns; ledger = B.ledger; tallies = B.tallies; used = u })
      → Sound L (record { nodes = ns; ledger = moves B.ledger a f; tallies = B.tallies; used = u })
  errand_sound ns u g =
      let D : Tables = record { nodes = ns; ledger = B.ledger; tallies = B.tallies; used = u } in
      let in_e = in_crew L B s a in_a in
      let lo = B.ledger.load in
      let rest : idle ≡ agent e = sym (ap (λ (p : Phase). agent_by p e.node e.word e.waiting.height e.waiting.frames) q) in
      rejob_same D a in_a in_e f lo L l g refl (sym (ap (λ (p : Phase). doing_by p e.waiting.height e.tally) q))
      (subst (Inv (par_of D) (length ns) 16) (sym (state_still D a in_a in_e f lo rest)) g.inv)
      (record {
        size = (s.fit a).size;
        short = (s.fit a).short;
        word = refl;
        halves = (s.fit a).halves;
        settles = (λ h. let z : ◌≡◌ {A = ℕ} 0 1 = cc in never z);
        rests = (λ i. absurd (false_true i));
        flat = (λ h. (s.fit a).flat begins_is);
      })
      (omega (arith, does_grow L l B s a begins_is))
      (λ h. g.begun a begins_is)
      (λ y h. let z : ◌≡◌ {A = ℕ} 0 1 = cc in never z)
      (λ h. let z : ◌≡◌ {A = ℕ} 0 1 = cc in never z)
      (λ y h. let z : ◌≡◌ {A = ℕ} 0 1 = cc in never z)

  module _ (m : may_link B.nodes e.node B.used c ≡ true) where
    deeper : (at B.nodes e.node).depth < L.depth
    deeper = omega (arith, (may_tells B.nodes e.node B.used c m).0, l.deep (does_grow L l B s a begins_is))

    room : (B.used + 2 ≤ length B.nodes) × (B.used + 2 ≤ 8192)
    room = let (_, i, j) = may_tells B.nodes e.node B.used c m in (i, j)

  sound_by : (m : Bool) → may_link B.nodes e.node B.used c ≡ m → Sound L (AfterBy m)
  sound_by true m = errand_sound (linked B.nodes e.node B.used) (B.used + 2)
      (linked_sound L l B s (does_grow L l B s a begins_is) e.tally e.node (s.begun a begins_is) (deeper m) (room m).0 (room m).1)
  sound_by false m = errand_sound B.nodes B.used s

  grown_by : (m : Bool) → may_link B.nodes e.node B.used c ≡ m → Grown B (AfterBy m)
  grown_by true m =
      let g = grown L l B s (does_grow L l B s a begins_is) e.tally e.node (s.begun a begins_is) (deeper m) (room m).0 (room m).1 in
      record { size = g.size; tallies = refl; used = omega arith; tally = g.tally }
  grown_by false m = record { size = refl; tallies = refl; used = omega arith; tally = (λ z h i. refl) }

  outs_by : (m : Bool) → may_link B.nodes e.node B.used c ≡ m → (t z : ℕ) → outs_of (nodes_by m B.nodes e.node B.used) t z ≡ outs_of B.nodes t z
  outs_by true m t z = outs_linked L l B s (does_grow L l B s a begins_is) e.tally e.node (s.begun a begins_is) (deeper m) (room m).0 (room m).1 t z
  outs_by false m t z = refl

  pub grow_keeps_sound : Sound L (grows B a d c)
  grow_keeps_sound = sound_by (may_link B.nodes e.node B.used c) refl

  pub grow_grown : Grown B (grows B a d c)
  grow_grown = grown_by (may_link B.nodes e.node B.used c) refl

  pub grow_outs : (t z : ℕ) → outs_of (grows B a d c).nodes t z ≡ outs_of B.nodes t z
  grow_outs = outs_by (may_link B.nodes e.node B.used c) refl

-- The second

-- both twins are in the tree
twin_in : (L : Layout) (B : Tables) → Sound L B → (t x : ℕ) (o : Option ℕ) (d : Side) → (at B.nodes x).left ≡ o → In L B t x → In L B t (picked d (twins x o))
twin_in L B s t x None Left e h = h
twin_in L B s t x None Right e h = h
twin_in L B s t x (Some i) Left e h = in_child L B t x i (s.pairs x i e).0 h
twin_in L B s t x (Some i) Right e h = in_child L B t x (i + 1) (s.pairs x i e).1 h

module _ (L : Layout) (l : Lays L) (B : Tables) (s : Sound L B) (a : ℕ) (d : Side) (in_a : a < 16) (q : (job B.ledger a).phase ≡ Fork d) where
  abbrev was : Errand
  was = job B.ledger a

  abbrev next : Errand
  next = forked d (twins was.node (at B.nodes was.node).left) was

  was_begun : begins was.phase ≡ 1
  was_begun = ap begins q

  in_e : a < length B.ledger.errands
  in_e = in_crew L B s a in_a

  either_in : (j : Side) → In L B was.tally (picked j (twins was.node (at B.nodes was.node).left))
  either_in j = twin_in L B s was.tally was.node (at B.nodes was.node).left j refl (s.begun a was_begun)

  takes_it : (j : Side) → L.takes B was.tally (picked j next.later) ≡ true
  takes_it j = l.takes_in B s (does_grow L l B s a was_begun) was.tally (picked j next.later) (either_in j)

  -- it begins to climb, with no node that waits
  begins_climb : agent next ≡ arr next.node reads []
  begins_climb = ap (λ h. arr next.node reads (frames_to was.waiting.frames h)) ((s.fit a).flat was_begun)

  inv_forked : Inv (par_of B) (length B.nodes) 16 (state_of (forks B a d))
  inv_forked =
      let rest : agent was ≡ idle = ap (λ (p : Phase). agent_by p was.node was.word was.waiting.height was.waiting.frames) q in
      subst (Inv (par_of B) (length B.nodes) 16) (sym (state_put B a in_a in_e next B.ledger.load (arr next.node reads []) begins_climb))
      (arrive_keeps (par_of B) (length B.nodes) 16 (state_of B) a next.node in_a (in_nodes L l B s was.tally next.node (either_in d)) rest s.inv)

  pub fork_keeps_sound : Sound L (forks B a d)
  fork_keeps_sound =
      rejob_same B a in_a in_e next B.ledger.load L l s refl (sym (ap (λ (p : Phase). doing_by p was.waiting.height was.tally) q)) inv_forked
      (record {
        size = (s.fit a).size;
        short = (s.fit a).short;
        word = refl;
        halves = (s.fit a).halves;
        settles = (λ h. let z : ◌≡◌ {A = ℕ} 0 1 = cc in never z);
        rests = (λ i. absurd (false_true i));
        flat = (λ h. never h);
      })
      (omega arith)
      (λ h. never h)
      (λ y h.
      let g : aim (arr next.node reads []) ≡ arriving y = sym (ap aim begins_climb) ∙ h in
      let i : next.node ≡ y = cc in
      subst (In L B was.tally) i (either_in d))
      (λ h. let z : ◌≡◌ {A = ℕ} 0 1 = cc in never z)
      (λ y h. (takes_it Left, takes_it Right))

  pub fork_grown : Grown B (forks B a d)
  fork_grown = record { size = refl; tallies = refl; used = omega arith; tally = (λ z h i. refl) }
