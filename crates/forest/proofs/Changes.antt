-- The nodes of trees, and what is kept where only the errand of one agent changes.
--     with_job B a f lo              the tables B with the errand f for the agent a, and the loads lo
use Rattle.std.proofs.Common.{◌≡◌, ℕ, ◌+◌, ◌*◌, ◌<◌, ◌≤◌, Bool, true, false, cond, eqb, List, length, get_or, set, Some, Option, sym, refl, ap, ◌∙◌, subst, inl, inr, mul-le-mul_left, arith, length-set}
use mathlib.Core.Path.{fun_ext}
use native.Mathlib.Nat.{eq_of_mul-eq-mul_left}
use Rattle.std.proofs.lemmas.Bool.{cond-true, eq-eqb}
use Rattle.forest.specs.declared.errand.Errand.{Errand}
use Rattle.forest.specs.declared.node.Node.{Node}
use Rattle.forest.specs.Agents.{agent, begins, doing_of, Fit}
use Rattle.forest.specs.Climb.{Agent, Above, top, via, State, Inv, aim, arriving, departing}
use Rattle.banks.specs.Counting.{put, one, sum}
use Rattle.forest.specs.Errands.{no_errand}
use Rattle.forest.specs.Layouts.{Layout, root}
use Rattle.forest.specs.Ledgers.{job, ledger}
use Rattle.banks.specs.Meaning.{arrives}
use Rattle.forest.specs.Sound.{par_of, state_of, In, outs_of, comes, crowd, Sound}
use Rattle.forest.specs.Tables.{Tables, at}
use Rattle.forest.specs.Ancestors.{above_in}
use Rattle.forest.proofs.Counting.{at_set, but_set, sum_but}
use Rattle.forest.specs.Lays.{Grown, Lays}
use Rattle.forest.proofs.Lists.{field_put, field_still, all_set}
use Rattle.forest.specs.Ancestors.{roots_one}

-- ancestors stay where no parent changes
pub above_more : (par more : ℕ → Option ℕ) → ((y q : ℕ) → par y ≡ Some q → more y ≡ Some q) → (r : ℕ) {z : ℕ} → Above par r z → Above more r z
above_more par more up_to_lem r (top z e) = top z e
above_more par more up_to_lem r (via z q e a) = via z q (up_to_lem z q e) (above_more par more up_to_lem r a)

-- receipts of a tally, by node
pub outs_same : (ns ms : List Node) (t z : ℕ) → (at ms z).tally ≡ (at ns z).tally → (at ms z).out ≡ (at ns z).out → outs_of ms t z ≡ outs_of ns t z
outs_same ns ms t z e f = ap (λ k. cond (eqb k t) (at ms z).out 0) e ∙ ap (λ k. cond (eqb (at ns z).tally t) k 0) f

cond_none : (b : Bool) → ◌≡◌ {A = ℕ} (cond b 0 0) 0
cond_none true = refl
cond_none false = refl

pub outs_none : (ns : List Node) (t z : ℕ) → (at ns z).out ≡ 0 → outs_of ns t z ≡ 0
outs_none ns t z e = ap (λ k. cond (eqb (at ns z).tally t) k 0) e ∙ cond_none (eqb (at ns z).tally t)

cond_more : (b : Bool) (m : ℕ) → cond b (m + 1) 0 ≡ cond b m 0 + cond b 1 0
cond_more true m = refl
cond_more false m = refl

pub outs_more : (ns ms : List Node) (t z : ℕ) → (at ms z).tally ≡ (at ns z).tally → (at ms z).out ≡ (at ns z).out + 1 → outs_of ms t z ≡ outs_of ns t z + one (at ns z).tally t
unfolding one
outs_more ns ms t z e f =
    ap (λ k. cond (eqb k t) (at ms z).out 0) e ∙ ap (λ k. cond (eqb (at ns z).tally t) k 0) f ∙ cond_more (eqb (at ns z).tally t) (at ns z).out

pub outs_own : (ns : List Node) (z : ℕ) → outs_of ns (at ns z).tally z ≡ (at ns z).out
outs_own ns z = cond-true (eqb (at ns z).tally (at ns z).tally) (at ns z).out 0 (eq-eqb (at ns z).tally (at ns z).tally refl)

-- Roots, and the nodes of trees, are in use

module _ (L : Layout) (l : Lays L) (B : Tables) (s : Sound L B) where
  pub root_used : (t : ℕ) → t < B.tallies → root L t < B.used
  root_used t h =
      let w : L.width * (t + 1) ≤ L.width * B.tallies = mul-le-mul_left L.width (omega arith) in
      omega (arith, w, l.some, s.laid)

  pub in_used : (t z : ℕ) → In L B t z → z < B.used
  in_used t z h = elim (above_in (par_of B) (root L t) h.1) [
    | inl e ↦ omega (arith, e, root_used t (omega (arith, h.0, s.few)))
    | inr (q, e, a) ↦ (s.down z q e).1
  ]

  pub in_nodes : (t z : ℕ) → In L B t z → z < length B.nodes
  in_nodes t z h = omega (arith, in_used t z h, s.fits)

  -- a node is in one tree
  pub one_tree : (t k z : ℕ) → t < B.tallies → k < B.tallies → Above (par_of B) (root L t) z → Above (par_of B) (root L k) z → t ≡ k
  one_tree t k z h i a b = eq_of_mul-eq-mul_left L.width l.some t k (roots_one (par_of B) (root L t) (root L k) (s.tops t h) (s.tops k i) a b)

-- a child is in the tree of its parent
pub in_child : (L : Layout) (B : Tables) (t y z : ℕ) → par_of B z ≡ Some y → In L B t y → In L B t z
in_child L B t y z e h = (h.0, via z y e h.1)

pub in_crew : (L : Layout) (B : Tables) → Sound L B → (a : ℕ) → a < 16 → a < length B.ledger.errands
in_crew L B s a in_a = omega (arith, s.crew)

-- The errand of one agent is new

abbrev pub with_job : Tables → ℕ → Errand → List ℕ → Tables
with_job B a f lo = record { nodes = B.nodes; ledger = ledger (set B.ledger.errands a f) lo B.ledger.opened; tallies = B.tallies; used = B.used }

-- the invariant, of other parents, nodes and states that are the same
pub inv_is : (par more : ℕ → Option ℕ) (N K : ℕ) (st now : State) → par ≡ more → N ≡ K → st ≡ now → Inv par N 16 st → Inv more K 16 now
inv_is par more N K st now p n s i = subst (λ q. Inv q K 16 now) p (subst (λ k. Inv par k 16 now) n (subst (λ t. Inv par N 16 t) s i))

module _ (B : Tables) (a : ℕ) (in_a : a < 16) (in_e : a < length B.ledger.errands) (f : Errand) (lo : List ℕ) where
  abbrev C : Tables
  C = with_job B a f lo

  pub job_here : job (with_job B a f lo).ledger a ≡ f
  job_here = at_set B.ledger.errands a f no_errand in_e

  pub job_there : (b : ℕ) → (a ≡ b → ⊥) → job (with_job B a f lo).ledger b ≡ job B.ledger b
  job_there b n = but_set B.ledger.errands a f no_errand b n

  pub same_grown : Grown B (with_job B a f lo)
  same_grown = record { size = refl; tallies = refl; used = omega arith; tally = (λ z l k. refl) }

  -- the crowd changes by what the errand comes to
  pub crowd_job : (t : ℕ) → crowd (with_job B a f lo) t + arrives (doing_of (job B.ledger a)) t ≡ crowd B t + arrives (doing_of f) t
  crowd_job t =
      let k : sum (comes C t) 16 + comes B t a ≡ sum (comes B t) 16 + comes C t a =
      sum_but (comes C t) (comes B t) a 16 in_a (λ b n. ap (λ (e : Errand). arrives (doing_of e) t) (job_there b n)) in
      let h : comes C t a ≡ arrives (doing_of f) t = ap (λ (e : Errand). arrives (doing_of e) t) job_here in
      omega arith

  pub crowd_still : doing_of f ≡ doing_of (job B.ledger a) → (t : ℕ) → crowd (with_job B a f lo) t ≡ crowd B t
  crowd_still e t = omega (arith, crowd_job t, ap (λ d. arrives d t) e)

  -- to the forest the agent is the same, or s
  pub state_still : agent f ≡ agent (job B.ledger a) → state_of (with_job B a f lo) ≡ state_of B
  state_still e =
      let t : (state_of C).agents ≡ (state_of B).agents = fun_ext (λ b. field_still agent B.ledger.errands a f no_errand in_e e b) in
      λ i. record { words = (state_of B).words; outs = (state_of B).outs; agents = t i }

  pub state_put : (s : Agent) → agent f ≡ s → state_of (with_job B a f lo) ≡ record { words = (state_of B).words; outs = (state_of B).outs; agents = put (state_of B).agents a s }
  state_put s e =
      let t : (state_of C).agents ≡ put (state_of B).agents a s =
      fun_ext (λ b. field_put agent B.ledger.errands a f no_errand in_e b ∙ ap (λ (k : Agent). put (state_of B).agents a k b) e) in
      λ i. record { words = (state_of B).words; outs = (state_of B).outs; agents = t i }

  module _ (L : Layout) (l : Lays L) (s : Sound L B) where
    pub rejob : Inv (par_of B) (length B.nodes) 16 (state_of (with_job B a f lo))
        → Fit f → begins f.phase ≤ L.growth
        → (begins f.phase ≡ 1 → In L B f.tally f.node)
        → ((y : ℕ) → aim (agent f) ≡ arriving y → In L B f.tally y)
        → (aim (agent f) ≡ departing → In L B f.tally f.node)
        → ((y : ℕ) → aim (agent f) ≡ arriving y → (L.takes B f.tally f.later.0 ≡ true) × (L.takes B f.tally f.later.1 ≡ true))
        → length lo ≡ 256
        → ((t : ℕ) → t < 256 → get_or lo t 0 ≡ crowd (with_job B a f lo) t)
        → ((t : ℕ) → crowd (with_job B a f lo) t ≤ 2048)
        → ((t : ℕ) → B.ledger.opened ≤ t → crowd (with_job B a f lo) t ≡ 0)
        → Sound L (with_job B a f lo)
    rejob inv fit grows begun comer goer later listed loads most none = record {
      crew = length-set es a f ∙ s.crew;
      listed = listed;
      many = s.many;
      few = s.few;
      low = s.low;
      fits = s.fits;
      laid = s.laid;
      down = s.down;
      deep = s.deep;
      shallow = s.shallow;
      tops = s.tops;
      spread = s.spread;
      full = s.full;
      whole = s.whole;
      kin = s.kin;
      ready = s.ready;
      kept = s.kept;
      pairs = s.pairs;
      linked = s.linked;
      unused = s.unused;
      inv = inv;
      fit = all_set (λ b e. Fit e) es a f no_errand in_e fit s.fit;
      grows = all_set (λ b e. begins e.phase ≤ L.growth) es a f no_errand in_e grows s.grows;
      begun = all_set (λ b e. begins e.phase ≡ 1 → In L B e.tally e.node) es a f no_errand in_e begun s.begun;
      comer = all_set (λ b e. (y : ℕ) → aim (agent e) ≡ arriving y → In L B e.tally y) es a f no_errand in_e comer s.comer;
      goer = all_set (λ b e. aim (agent e) ≡ departing → In L B e.tally e.node) es a f no_errand in_e goer s.goer;
      later = all_set (λ b e. (y : ℕ) → aim (agent e) ≡ arriving y → (L.takes C e.tally e.later.0 ≡ true) × (L.takes C e.tally e.later.1 ≡ true)) es a f no_errand in_e
          (λ y h. (stays f.tally f.later.0 (later y h).0, stays f.tally f.later.1 (later y h).1))
          (λ b y h. let e = job B.ledger b in (stays e.tally e.later.0 (s.later b y h).0, stays e.tally e.later.1 (s.later b y h).1));
      loads = loads;
      most = most;
      none = none;
    }
      where
        es : List Errand
        es = B.ledger.errands

        stays : (t p : ℕ) → L.takes B t p ≡ true → L.takes C t p ≡ true
        stays t p e = l.stays B C same_grown t p e

  -- where the agent does what it did, the loads stay right
  module _ (L : Layout) (l : Lays L) (s : Sound L B) (lo_is : lo ≡ B.ledger.load) (same : doing_of f ≡ doing_of (job B.ledger a)) where
    pub rejob_same : Inv (par_of B) (length B.nodes) 16 (state_of (with_job B a f lo))
        → Fit f → begins f.phase ≤ L.growth
        → (begins f.phase ≡ 1 → In L B f.tally f.node)
        → ((y : ℕ) → aim (agent f) ≡ arriving y → In L B f.tally y)
        → (aim (agent f) ≡ departing → In L B f.tally f.node)
        → ((y : ℕ) → aim (agent f) ≡ arriving y → (L.takes B f.tally f.later.0 ≡ true) × (L.takes B f.tally f.later.1 ≡ true))
        → Sound L (with_job B a f lo)
    rejob_same inv fit grows begun comer goer later = rejob L l s inv fit grows begun comer goer later
        (ap length lo_is ∙ s.listed)
        (λ t h. ap (λ (x : List ℕ). get_or x t 0) lo_is ∙ s.loads t h ∙ sym (crowd_still same t))
        (λ t. omega (arith, s.most t, crowd_still same t))
        (λ t h. crowd_still same t ∙ s.none t h)
