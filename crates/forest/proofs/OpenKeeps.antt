-- The call open keeps what holds of the tables.
use Rattle.std.proofs.Common.{◌≡◌, ℕ, ◌+◌, ◌<◌, ◌≤◌, cond, eqb, List, length, set, Option, sym, refl, ap, ◌∙◌, subst, inl, inr, arith, length-set}
use mathlib.Core.Path.{fun_ext}
use Rattle.std.proofs.lemmas.Bool.{cases_eq, cases_lt}
use Rattle.forest.specs.declared.errand.Errand.{Errand}
use Rattle.forest.specs.declared.node.Node.{Node}
use Rattle.forest.specs.Agents.{cell, agent}
use Rattle.forest.specs.Climb as climb
use Rattle.forest.specs.Climb.{Word, empty, half, counted, looks, reads, leave, Agent, arr, dep, node, weight, Above, top, Inv, aim, arriving, departing, Empty, Elsewhere, opened, left_by}
use Rattle.banks.specs.Counting.{put, one, sum}
use Rattle.forest.specs.Layouts.{Layout, root, opens}
use Rattle.forest.specs.Ledgers.{job}
use Rattle.forest.specs.Sound.{par_of, state_of, In, outs_of, crowd, Sound}
use Rattle.forest.specs.Tables.{Tables, no_node, root_node, at}
use Rattle.forest.proofs.Changes.{outs_same, outs_none, root_used, one_tree, inv_is}
use Rattle.forest.proofs.ClimbCalls.{open_keeps}
use Rattle.forest.proofs.ClimbReads.{zero_empty}
use Rattle.forest.specs.Ancestors.{some_none}
use Rattle.forest.proofs.Counting.{never, one_same, one_other, at_set, but_set, sum_but}
use Rattle.forest.proofs.Doings.{node_is, moves_if}
use Rattle.forest.specs.Lays.{Grown, Lays}
use Rattle.forest.proofs.Lists.{field_put, field_still}
use Rattle.forest.proofs.Turning.{down_is}
use Rattle.forest.proofs.Calling.{loads_set}

-- an agent whose errand is not in the tree of r is elsewhere
elsewhere : (par : ℕ → Option ℕ) (r : ℕ) (g : Agent) → ((y : ℕ) → aim g ≡ arriving y → Above par r y → ⊥) → (aim g ≡ departing → Above par r (node g) → ⊥) → Elsewhere par r g
elsewhere par r climb.idle c d = tt
elsewhere par r (arr x h fs) c d = c _ refl
elsewhere par r (dep x h leave) c d = d refl
elsewhere par r (dep x h (climb.back o y fs)) c d = c _ refl

empty_weight : (u : Word) → Empty u → weight u ≡ 0
empty_weight (empty v) e = refl
empty_weight (half v) e = absurd e
empty_weight (counted n v) e = absurd e

root_outs : (ns : List Node) (o z t : ℕ) → at ns z ≡ root_node o → outs_of ns t z ≡ one o t
unfolding one
root_outs ns o z t e = ap (λ (n : Node). cond (eqb n.tally t) n.out 0) e

module _ (L : Layout) (l : Lays L) (B : Tables) (s : Sound L B) where
  abbrev ns : List Node
  ns = B.nodes

  abbrev N : ℕ
  N = length B.nodes

  abbrev es : List Errand
  es = B.ledger.errands

  module _ (free : B.ledger.opened < B.tallies) where
    abbrev o : ℕ
    o = B.ledger.opened

    abbrev r : ℕ
    r = root L o

    abbrev ms : List Node
    ms = set ns r (root_node o)

    abbrev C : Tables
    C = opens L B

    in_r : r < N
    in_r = omega (arith, root_used L l B s o free, s.fits)

    -- the tree of the tally is no open one: nothing is out there, and no agent is there
    apart : (k z : ℕ) → In L B k z → Above (par_of B) r z → ⊥
    apart k z h a =
        let e : k ≡ o = one_tree L l B s k o z (omega (arith, h.0)) free h.1 a in
        omega (arith, h.0)

    pub open_none : (z : ℕ) → Above (par_of B) (root L B.ledger.opened) z → (at B.nodes z).out ≡ 0
    open_none z a = elim (cases_lt 0 (at ns z).out) [
      | inl h ↦ absurd (apart (at ns z).tally z (s.kept z h) a)
      | inr h ↦ omega arith
    ]

    away : (a : ℕ) → Elsewhere (par_of B) r (agent (job B.ledger a))
    away a =
        let e = job B.ledger a in
        elsewhere (par_of B) r (agent e) (λ y h. apart e.tally y (s.comer a y h))
        (λ h i. apart e.tally e.node (s.goer a h)
        (subst (Above (par_of B) r) (node_is e (moves_if e (λ q. let z : ◌≡◌ {A = ℕ} 0 1 = cc in never z))) i))

    unweighed : weight (cell (at ns r).word) ≡ 0
    unweighed = empty_weight (cell (at ns r).word)
        (zero_empty (par_of B) N 16 (down_is L l B s) (state_of B) s.inv r (s.tops o free) open_none (λ a _. away a))

    size : length ms ≡ N
    size = length-set ns r (root_node o)

    pub open_root : at (opens L B).nodes (root L B.ledger.opened) ≡ root_node B.ledger.opened
    open_root = at_set ns r (root_node o) no_node in_r

    pub open_still : (z : ℕ) → (root L B.ledger.opened ≡ z → ⊥) → at (opens L B).nodes z ≡ at B.nodes z
    open_still z n = but_set ns r (root_node o) no_node z n

    par_still : (z : ℕ) → par_of C z ≡ par_of B z
    par_still = field_still (λ (n : Node). n.parent) ns r (root_node o) no_node in_r (sym (s.tops o free))

    pub open_pars : par_of (opens L B) ≡ par_of B
    open_pars = fun_ext par_still

    to : (k z : ℕ) → Above (par_of B) (root L k) z → Above (par_of C) (root L k) z
    to k z a = subst (λ (p : ℕ → Option ℕ). Above p (root L k) z) (sym open_pars) a

    fro : (k z : ℕ) → Above (par_of C) (root L k) z → Above (par_of B) (root L k) z
    fro k z a = subst (λ (p : ℕ → Option ℕ). Above p (root L k) z) open_pars a

    stays_in : (k z : ℕ) → In L B k z → In L C k z
    stays_in k z h = (omega (arith, h.0), to k z h.1)

    at_root : (z : ℕ) → r ≡ z → at ms z ≡ root_node o
    at_root z e = subst (λ j. at ms j ≡ root_node o) e open_root

    tally_still : (z : ℕ) → (r ≡ z → ⊥) → (at ms z).tally ≡ (at ns z).tally
    tally_still z n = ap (λ (m : Node). m.tally) (open_still z n)

    shallower : (z : ℕ) → (at ms z).depth ≤ (at ns z).depth
    shallower z = elim (cases_eq r z) [
      | inl e ↦ omega (arith, ap (λ (m : Node). m.depth) (at_root z e))
      | inr n ↦ omega (arith, ap (λ (m : Node). m.depth) (open_still z n))
    ]

    outs : (z : ℕ) → (at ms z).out ≡ (at ns z).out + one r z
    outs z = elim (cases_eq r z) [
      | inl e ↦ omega (arith, ap (λ (m : Node). m.out) (at_root z e), open_none z (top z (sym e)), one_same r z e)
      | inr n ↦ omega (arith, ap (λ (m : Node). m.out) (open_still z n), one_other r z n)
    ]

    state : state_of C ≡ opened (state_of B) r
    state =
        let w : (state_of C).words ≡ put (state_of B).words r (counted 0 0) = fun_ext (λ z. field_put (λ (n : Node). cell n.word) ns r (root_node o) no_node in_r z) in
        let q : (state_of C).outs ≡ (λ z. (state_of B).outs z + one r z) = fun_ext outs in
        λ i. record { words = w i; outs = q i; agents = (state_of B).agents }

    pub open_grown : Grown B (opens L B)
    open_grown = record { size = size; tallies = refl; used = omega arith; tally = tally }
      where
        tally : (z : ℕ) → B.tallies ≤ z → z < B.used → (at ms z).tally ≡ (at ns z).tally
        tally z h i = elim (cases_eq r z) [
          | inl e ↦ ap (λ (m : Node). m.tally) (at_root z e) ∙ sym (s.ready o z (omega arith) free (top z (sym e)) (λ _. h))
          | inr n ↦ tally_still z n
        ]

    -- receipts: one is out at the root
    pub open_outs : (t z : ℕ) → (root L B.ledger.opened ≡ z → ⊥) → outs_of (opens L B).nodes t z ≡ outs_of B.nodes t z
    open_outs t z n = outs_same ns ms t z (tally_still z n) (ap (λ (m : Node). m.out) (open_still z n))

    pub open_outs_root : (t : ℕ) → outs_of (opens L B).nodes t (root L B.ledger.opened) ≡ one B.ledger.opened t
    open_outs_root t = root_outs ms o r t open_root

    more : (t : ℕ) → crowd C t ≡ crowd B t + one o t
    more t =
        let a : sum (outs_of ms t) (length ms) ≡ sum (outs_of ms t) N = ap (sum (outs_of ms t)) size in
        let b = sum_but (outs_of ms t) (outs_of ns t) r N in_r (open_outs t) in
        omega (arith, a, b, open_outs_root t, outs_none ns t r (open_none r (top r refl)))

    kin : (t z : ℕ) → In L C t z → (at ms z).tally ≡ t
    kin t z h = elim (cases_eq r z) [
      | inl e ↦ ap (λ (m : Node). m.tally) (at_root z e) ∙ sym (one_tree L l B s t o z (omega (arith, h.0)) free (fro t z h.1) (top z (sym e)))
      | inr n ↦ tally_still z n ∙ elim (cases_lt t o) [
        | inl k ↦ s.kin t z (k, fro t z h.1)
        | inr k ↦
            let e : o ≡ t = omega (arith, h.0) in
            s.ready t z k (omega arith) (fro t z h.1) (λ q. absurd (n (ap (root L) e ∙ sym q)))
      ]
    ]

    -- a node other than the root has the tally that it had
    home : (z : ℕ) → In L B (at ns z).tally z → In L C (at ms z).tally z
    home z h = subst (λ t. In L C t z) (sym (tally_still z (λ e. apart (at ns z).tally z h (top z (sym e))))) (stays_in (at ns z).tally z h)

    at_home : (z : ℕ) → r ≡ z → In L C (at ms z).tally z
    at_home z e = subst (λ t. In L C t z) (sym (ap (λ (m : Node). m.tally) (at_root z e))) (omega arith, top z (sym e))

    pub open_sound : Sound L (opens L B)
    open_sound = record {
      crew = s.crew;
      listed = length-set B.ledger.load o 1 ∙ s.listed;
      many = s.many;
      few = omega arith;
      low = s.low;
      fits = omega (arith, s.fits, size);
      laid = s.laid;
      down = (λ y q h. s.down y q (sym (par_still y) ∙ h));
      deep = (λ y q h.
          let g = sym (par_still y) ∙ h in
          let n : r ≡ y → ⊥ = λ e. some_none (par_of B y) q g (ap (par_of B) (sym e) ∙ s.tops o free) in
          omega (arith, s.deep y q g, shallower q, ap (λ (m : Node). m.depth) (open_still y n)));
      shallow = (λ y. omega (arith, s.shallow y, shallower y));
      tops = (λ t h. par_still (root L t) ∙ s.tops t h);
      spread = (λ t p h i. to t (root L t + p) (s.spread t p h i));
      full = s.full;
      whole = (λ g. size ∙ s.whole g);
      kin = kin;
      ready = (λ t z h i a first. tally_still z (λ (e : r ≡ z). let q : t ≡ o = one_tree L l B s t o z i free (fro t z a) (top z (sym e)) in omega arith)
          ∙ s.ready t z (omega arith) i (fro t z a) first);
      kept = (λ z h. elim (cases_eq r z) [ inl e ↦ at_home z e | inr n ↦ home z (s.kept z (omega (arith, outs z, one_other r z n))) ]);
      pairs = (λ y k h. elim (cases_eq r y) [
        | inl e ↦ absurd (some_none (at ms y).left k h (ap (λ (m : Node). m.left) (at_root y e)))
        | inr n ↦ (let p = s.pairs y k (sym (ap (λ (m : Node). m.left) (open_still y n)) ∙ h) in (par_still k ∙ p.0, par_still (k + 1) ∙ p.1))
      ]);
      linked = (λ z h i. home z (s.linked z h i));
      unused = (λ z h. open_still z (λ (e : r ≡ z). omega (arith, root_used L l B s o free)) ∙ s.unused z h);
      inv = inv_is (par_of B) (par_of C) N (length ms) (opened (state_of B) r) (state_of C) (sym open_pars) (sym size) (sym state)
          (open_keeps (par_of B) N 16 (state_of B) r (s.tops o free) unweighed s.inv);
      fit = s.fit;
      grows = s.grows;
      begun = (λ a h. stays_in (job B.ledger a).tally (job B.ledger a).node (s.begun a h));
      comer = (λ a y h. stays_in (job B.ledger a).tally y (s.comer a y h));
      goer = (λ a h. stays_in (job B.ledger a).tally (job B.ledger a).node (s.goer a h));
      later = (λ a y h.
          let e = job B.ledger a in
          (l.stays B C open_grown e.tally e.later.0 (s.later a y h).0, l.stays B C open_grown e.tally e.later.1 (s.later a y h).1));
      loads = loads_set B.ledger.load o 1 (omega (arith, s.listed, s.many)) (crowd B) (crowd C) s.loads
          (omega (arith, more o, one_same o o refl, s.none o (omega arith))) (λ k n. omega (arith, more k, one_other o k n));
      most = (λ t. elim (cases_eq o t) [
        | inl e ↦ omega (arith, more t, one_same o t e, s.none t (omega arith))
        | inr n ↦ omega (arith, more t, one_other o t n, s.most t)
      ]);
      none = (λ t h. omega (arith, more t, one_other o t (λ (e : o ≡ t). omega arith), s.none t (omega arith)));
    }
