-- The call depart keeps what holds of the tables.
use Rattle.std.proofs.Common.{◌≡◌, ℕ, ◌+◌, ◌-◌, ◌<◌, ◌≤◌, true, List, length, Option, sym, refl, ap, ◌∙◌, subst, inl, inr, arith, length-set}
use mathlib.Core.Path.{fun_ext}
use Rattle.std.proofs.lemmas.Bool.{cases_eq}
use Rattle.forest.specs.declared.errand.Errand.{Errand}
use Rattle.forest.specs.declared.errand.Phase.TheVariants.{Look}
use Rattle.forest.specs.declared.node.Node.{Node}
use Rattle.forest.specs.Agents.{cell, agent, begins, doing_of, Fit}
use Rattle.forest.specs.Climb.{looks, leave, dep, Above, aim, arriving, departing, left_by}
use Rattle.banks.specs.Counting.{put, one, sum}
use Rattle.forest.specs.Errands.{no_errand, goer, idles}
use Rattle.forest.specs.Layouts.{Layout, root, leaves}
use Rattle.forest.specs.Ledgers.{job, load_of}
use Rattle.banks.specs.Meaning.{arrives}
use Rattle.forest.specs.Sound.{par_of, state_of, In, outs_of, crowd, Sound}
use Rattle.forest.specs.Tables.{Tables, no_node, at, with_out, taken}
use Rattle.forest.proofs.Changes.{outs_same, outs_more, in_used, in_nodes, in_crew, inv_is, crowd_job}
use Rattle.forest.proofs.ClimbCalls.{depart_keeps}
use Rattle.forest.proofs.Counting.{false_true, never, one_same, one_other, at_set, but_set, sum_but}
use Rattle.forest.specs.Lays.{Grown, Lays}
use Rattle.forest.proofs.Lists.{field_put, field_still, all_set}
use Rattle.forest.proofs.PlansFirst.{begun_fits}
use Rattle.forest.proofs.Calling.{loads_set, idle_agent, idle_doing, tally_low, load_low}

module _ (L : Layout) (l : Lays L) (B : Tables) (s : Sound L B) where
  abbrev ns : List Node
  ns = B.nodes

  abbrev N : ℕ
  N = length B.nodes

  abbrev es : List Errand
  es = B.ledger.errands

  module _ (a t x : ℕ) (in_a : a < 16) (rests : idles (job B.ledger a).phase ≡ true) (in_x : In L B t x) (some : 1 ≤ (at B.nodes x).out) where
    abbrev less : Node
    less = with_out ((at ns x).out - 1) (at ns x)

    abbrev left : List Node
    left = taken x B.nodes

    abbrev gone : Errand
    gone = goer t x

    abbrev D : Tables
    D = leaves B a t x

    in_list : x < N
    in_list = in_nodes L l B s t x in_x

    in_es : a < length es
    in_es = in_crew L B s a in_a

    length_left : length left ≡ N
    length_left = length-set ns x less

    same_field : {A : Type 0} (g : Node → A) → g less ≡ g (at ns x) → (z : ℕ) → g (at left z) ≡ g (at ns z)
    same_field g e = field_still g ns x less no_node in_list e

    same_parent : (z : ℕ) → par_of D z ≡ par_of B z
    same_parent = same_field (λ (n : Node). n.parent) refl

    same_depth : (z : ℕ) → (at left z).depth ≡ (at ns z).depth
    same_depth = same_field (λ (n : Node). n.depth) refl

    pub leave_tally : (z : ℕ) → (at (leaves B a t x).nodes z).tally ≡ (at B.nodes z).tally
    leave_tally = same_field (λ (n : Node). n.tally) refl

    pub leave_out : (z : ℕ) → (at (leaves B a t x).nodes z).out ≡ (at B.nodes z).out - one x z
    leave_out z = elim (cases_eq x z) [
      | inl e ↦ subst (λ j. (at left j).out ≡ (at ns j).out - one x j) e (omega (arith, ap (λ (n : Node). n.out) (at_set ns x less no_node in_list), one_same x x refl))
      | inr n ↦ omega (arith, ap (λ (n : Node). n.out) (but_set ns x less no_node z n), one_other x z n)
    ]

    pub leave_pars : par_of (leaves B a t x) ≡ par_of B
    leave_pars = fun_ext same_parent

    still_in : (k z : ℕ) → In L B k z → In L D k z
    still_in k z h = (h.0, subst (λ (p : ℕ → Option ℕ). Above p (root L k) z) (sym leave_pars) h.1)

    was_above : (k z : ℕ) → Above (par_of D) (root L k) z → Above (par_of B) (root L k) z
    was_above k z h = subst (λ (p : ℕ → Option ℕ). Above p (root L k) z) leave_pars h

    still_home : (z : ℕ) → In L B (at ns z).tally z → In L D (at left z).tally z
    still_home z h = subst (λ k. In L D k z) (sym (leave_tally z)) (still_in (at ns z).tally z h)

    left_state : state_of D ≡ left_by (state_of B) a x
    left_state =
        let w : (state_of D).words ≡ (state_of B).words = fun_ext (same_field (λ (n : Node). cell n.word) refl) in
        let q : (state_of D).outs ≡ (λ z. (state_of B).outs z - one x z) = fun_ext leave_out in
        let g : (state_of D).agents ≡ put (state_of B).agents a (dep x looks leave) = fun_ext (field_put agent es a gone no_errand in_es) in
        λ i. record { words = w i; outs = q i; agents = g i }

    pub leave_grown : Grown B (leaves B a t x)
    leave_grown = record { size = length_left; tallies = refl; used = omega arith; tally = (λ z _ _. leave_tally z) }

    -- receipts: one is out no more at x
    pub leave_outs : (k z : ℕ) → (x ≡ z → ⊥) → outs_of (leaves B a t x).nodes k z ≡ outs_of B.nodes k z
    leave_outs k z n = outs_same ns left k z (leave_tally z) (omega (arith, leave_out z, one_other x z n))

    pub leave_outs_node : (k : ℕ) → outs_of B.nodes k x ≡ outs_of (leaves B a t x).nodes k x + one t k
    leave_outs_node k =
        outs_more left ns k x (sym (leave_tally x)) (omega (arith, leave_out x, one_same x x refl))
        ∙ ap (λ j. outs_of left k x + one j k) (leave_tally x ∙ s.kin t x in_x)

    fewer : (k : ℕ) → crowd D k + one t k ≡ crowd B k
    fewer k =
        let E : Tables = record { nodes = left; ledger = B.ledger; tallies = B.tallies; used = B.used } in
        let was : arrives (doing_of (job B.ledger a)) k ≡ 0 = ap (λ d. arrives d k) (idle_doing (job B.ledger a) rests) in
        let i : sum (outs_of left k) (length left) ≡ sum (outs_of left k) N = ap (sum (outs_of left k)) length_left in
        let j = sum_but (outs_of left k) (outs_of ns k) x N in_list (leave_outs k) in
        omega (arith, i, j, leave_outs_node k, crowd_job E a in_a in_es gone D.ledger.load k)

    pub leave_sound : Sound L (leaves B a t x)
    leave_sound = record {
      crew = length-set es a gone ∙ s.crew;
      listed = length-set B.ledger.load t (load_of B.ledger t - 1) ∙ s.listed;
      many = s.many;
      few = s.few;
      low = s.low;
      fits = omega (arith, s.fits, length_left);
      laid = s.laid;
      down = (λ y q h. s.down y q (sym (same_parent y) ∙ h));
      deep = (λ y q h. omega (arith, s.deep y q (sym (same_parent y) ∙ h), same_depth q, same_depth y));
      shallow = (λ y. omega (arith, s.shallow y, same_depth y));
      tops = (λ k h. same_parent (root L k) ∙ s.tops k h);
      spread = (λ k p h i. subst (λ (g : ℕ → Option ℕ). Above g (root L k) (root L k + p)) (sym leave_pars) (s.spread k p h i));
      full = s.full;
      whole = (λ g. length_left ∙ s.whole g);
      kin = (λ k z h. leave_tally z ∙ s.kin k z (h.0, was_above k z h.1));
      ready = (λ k z h i b first. leave_tally z ∙ s.ready k z h i (was_above k z b) first);
      kept = (λ z h. still_home z (s.kept z (omega (arith, leave_out z))));
      pairs = (λ y k h.
          let p = s.pairs y k (sym (same_field (λ (n : Node). n.left) refl y) ∙ h) in
          (same_parent k ∙ p.0, same_parent (k + 1) ∙ p.1));
      linked = (λ z h i. still_home z (s.linked z h i));
      unused = (λ z h. but_set ns x less no_node z (λ (q : x ≡ z). omega (arith, in_used L l B s t x in_x)) ∙ s.unused z h);
      inv = inv_is (par_of B) (par_of D) N (length left) (left_by (state_of B) a x) (state_of D) (sym leave_pars) (sym length_left) (sym left_state)
          (depart_keeps (par_of B) N 16 (state_of B) a x in_a in_list (idle_agent (job B.ledger a) rests) some s.inv);
      fit = all_set (λ b f. Fit f) es a gone no_errand in_es (begun_fits Look t x (0, 0) refl (λ i. absurd (false_true i))) s.fit;
      grows = all_set (λ b f. begins f.phase ≤ L.growth) es a gone no_errand in_es (omega arith) s.grows;
      begun = all_set (λ b f. begins f.phase ≡ 1 → In L D f.tally f.node) es a gone no_errand in_es
          (λ h. never h) (λ b h. still_in (job B.ledger b).tally (job B.ledger b).node (s.begun b h));
      comer = all_set (λ b f. (y : ℕ) → aim (agent f) ≡ arriving y → In L D f.tally y) es a gone no_errand in_es
          (λ y h. let z : ◌≡◌ {A = ℕ} 0 1 = cc in never z) (λ b y h. still_in (job B.ledger b).tally y (s.comer b y h));
      goer = all_set (λ b f. aim (agent f) ≡ departing → In L D f.tally f.node) es a gone no_errand in_es
          (λ h. still_in t x in_x) (λ b h. still_in (job B.ledger b).tally (job B.ledger b).node (s.goer b h));
      later = all_set (λ b f. (y : ℕ) → aim (agent f) ≡ arriving y → (L.takes D f.tally f.later.0 ≡ true) × (L.takes D f.tally f.later.1 ≡ true)) es a gone no_errand in_es
          (λ y h. let z : ◌≡◌ {A = ℕ} 0 1 = cc in never z)
          (λ b y h.
          let e = job B.ledger b in
          (l.stays B D leave_grown e.tally e.later.0 (s.later b y h).0, l.stays B D leave_grown e.tally e.later.1 (s.later b y h).1));
      loads = loads_set B.ledger.load t (load_of B.ledger t - 1) (omega (arith, s.listed, tally_low L l B s t in_x.0)) (crowd B) (crowd D) s.loads
          (omega (arith, fewer t, one_same t t refl, load_low L l B s t in_x.0)) (λ k n. omega (arith, fewer k, one_other t k n));
      most = (λ k. omega (arith, s.most k, fewer k));
      none = (λ k h. omega (arith, s.none k h, fewer k));
    }
