-- The call arrive keeps what holds of the tables.
use Rattle.std.proofs.Common.{◌≡◌, ℕ, ◌+◌, ◌<◌, ◌≤◌, true, List, [], length, set, sym, refl, ap, ◌∙◌, subst, inl, inr, arith, length-set}
use Rattle.std.proofs.lemmas.Bool.{cases_eq}
use Rattle.forest.specs.declared.errand.Errand.{Errand}
use Rattle.forest.specs.declared.errand.Phase.TheVariants.{Grow, Read}
use Rattle.forest.specs.declared.node.Node.{Node}
use Rattle.forest.specs.Agents.{agent, begins, doing_of, Fit}
use Rattle.forest.specs.Climb.{reads, arr, Inv, aim, arriving, departing}
use Rattle.banks.specs.Counting.{one}
use Rattle.forest.specs.Errands.{comer, grower, goer, idles}
use Rattle.forest.specs.Layouts.{Layout, sends}
use Rattle.forest.specs.Ledgers.{job, load_of}
use Rattle.banks.specs.Meaning.{arrives}
use Rattle.banks.specs.Meaning as meaning
use Rattle.forest.specs.Sound.{par_of, state_of, In, crowd, Sound}
use Rattle.forest.specs.Tables.{Tables}
use Rattle.forest.proofs.Changes.{in_nodes, in_crew, crowd_job, state_still, state_put, rejob}
use Rattle.forest.proofs.ClimbCalls.{arrive_keeps}
use Rattle.forest.proofs.Counting.{false_true, never, one_same, one_other}
use Rattle.forest.specs.Lays.{Started, climbs_from, grows_from, Lays}
use Rattle.forest.proofs.PlansFirst.{begun_fits}
use Rattle.forest.proofs.Calling.{loads_set, idle_agent, idle_doing, tally_low, load_low}

module _ (L : Layout) (l : Lays L) (B : Tables) (s : Sound L B) where
  abbrev ns : List Node
  ns = B.nodes

  abbrev N : ℕ
  N = length B.nodes

  abbrev es : List Errand
  es = B.ledger.errands

  module _ (a t : ℕ) (e : Errand) (in_a : a < 16) (rests : idles (job B.ledger a).phase ≡ true) (stands : t < B.ledger.opened)
      (room : load_of B.ledger t < 2048) where
    abbrev lo : List ℕ
    lo = set B.ledger.load t (load_of B.ledger t + 1)

    in_e : a < length es
    in_e = in_crew L B s a in_a

    send_by : (f : Errand) → doing_of f ≡ meaning.arriving t
        → Inv (par_of B) N 16 (state_of (sends B a t f)) → Fit f → begins f.phase ≤ L.growth
        → (begins f.phase ≡ 1 → In L B f.tally f.node)
        → ((y : ℕ) → aim (agent f) ≡ arriving y → In L B f.tally y)
        → (aim (agent f) ≡ departing → In L B f.tally f.node)
        → ((y : ℕ) → aim (agent f) ≡ arriving y → (L.takes B f.tally f.later.0 ≡ true) × (L.takes B f.tally f.later.1 ≡ true))
        → Sound L (sends B a t f)
    send_by f does inv fit grows begun comer goer later = rejob B a in_a in_e f lo L l s inv fit grows begun comer goer later
        (length-set B.ledger.load t (load_of B.ledger t + 1) ∙ s.listed)
        (loads_set B.ledger.load t (load_of B.ledger t + 1) (omega (arith, s.listed, tally_low L l B s t stands)) (crowd B) (crowd (sends B a t f)) s.loads
        (omega (arith, more t, one_same t t refl, load_low L l B s t stands)) (λ k n. omega (arith, more k, one_other t k n)))
        (λ k. elim (cases_eq t k) [
          | inl q ↦ omega (arith, more k, one_same t k q, load_low L l B s t stands, ap (crowd B) q)
          | inr n ↦ omega (arith, more k, one_other t k n, s.most k)
        ])
        (λ k h. omega (arith, more k, one_other t k (λ (q : t ≡ k). omega arith), s.none k h))
      where
        more : (k : ℕ) → crowd (sends B a t f) k ≡ crowd B k + one t k
        more k =
            let now : arrives (doing_of f) k ≡ one t k = ap (λ d. arrives d k) does in
            let was : arrives (doing_of (job B.ledger a)) k ≡ 0 = ap (λ d. arrives d k) (idle_doing (job B.ledger a) rests) in
            omega (arith, crowd_job B a in_a in_e f lo k)

    pub send_sound : Started L B t e → Sound L (sends B a t e)
    send_sound (climbs_from x p q h i j) =
        let f : Errand = comer t x p in
        subst (λ f. Sound L (sends B a t f)) (sym q) (send_by f refl
        (subst (Inv (par_of B) N 16) (sym (state_put B a in_a in_e f lo (arr x reads []) refl))
        (arrive_keeps (par_of B) N 16 (state_of B) a x in_a (in_nodes L l B s t x h) (idle_agent (job B.ledger a) rests) s.inv))
        (begun_fits Read t x p refl (λ i. absurd (false_true i))) (omega arith) (λ z. never z)
        (λ y g. let m : x ≡ y = cc in subst (In L B t) m h)
        (λ g. let z : ◌≡◌ {A = ℕ} 0 1 = cc in never z)
        (λ y g. (i, j)))
    send_sound (grows_from x d c q g h) =
        let f : Errand = grower t x d c in
        subst (λ f. Sound L (sends B a t f)) (sym q) (send_by f refl
        (subst (Inv (par_of B) N 16) (sym (state_still B a in_a in_e f lo (sym (idle_agent (job B.ledger a) rests)))) s.inv)
        (begun_fits (Grow d c) t x (0, 0) refl (λ i. absurd (false_true i))) (omega arith) (λ z. h)
        (λ y g. let z : ◌≡◌ {A = ℕ} 0 1 = cc in never z)
        (λ g. let z : ◌≡◌ {A = ℕ} 0 1 = cc in never z)
        (λ y g. let z : ◌≡◌ {A = ℕ} 0 1 = cc in never z))
