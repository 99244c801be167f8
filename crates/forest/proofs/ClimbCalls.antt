-- The calls keep the invariant.
use Rattle.std.proofs.Common.{◌≡◌, ℕ, ◌+◌, ◌-◌, ◌<◌, ◌≤◌, ◌⊎◌, List, [], ◌∷◌, Some, None, Option, sym, refl, ap, ◌∙◌, subst, inl, inr, arith}
use Rattle.std.proofs.lemmas.Bool.{cases_eq}
use Rattle.banks.specs.Counting.{put, one}
use Rattle.forest.specs.Climb.{Word, empty, half, counted, Frame, frame, Arrival, reads, raises, opens, settles, looks, leave, back, Agent, idle, arr, dep, going}
use Rattle.forest.specs.Climb.{left, up, weight, halves, kid, hold_arrival, hold, pend, Above, top, via, Chain, OkArrival, Ok, State, kids, held, pending, Inv}
use Rattle.forest.specs.Climb.{fresh, opened, sent, left_by}
use Rattle.forest.proofs.Counting.{one_same, one_other, put_same, put_other, sum_same, sum_none}
use Rattle.forest.specs.Ancestors.{some_none}
use Rattle.forest.proofs.ClimbTurns.{held_after, pending_after}

pub blank_keeps : (par : ℕ → Option ℕ) (N M : ℕ) → Inv par N M fresh
blank_keeps par N M = record {
  counts = (λ z. omega (arith, sum_none (λ y. kid (empty 0) (up (par y) z)) N (λ k l. refl), sum_none (λ a. hold par idle z) M (λ k l. refl)));
  owned = (λ z. omega arith);
  shaped = (λ a. tt);
  roots = (λ z e. refl);
}

pub open_keeps : (par : ℕ → Option ℕ) (N M : ℕ) (st : State) (r : ℕ) → par r ≡ None → weight (st.words r) ≡ 0 → Inv par N M st → Inv par N M (opened st r)
open_keeps par N M st r o e inv = record { counts = counts; owned = owned; shaped = inv.shaped; roots = roots }
  where
    w' : ℕ → Word
    w' = put st.words r (counted 0 0)

    kid_same : (y z : ℕ) → kid (w' y) (up (par y) z) ≡ kid (st.words y) (up (par y) z)
    kid_same y z = elim (cases_eq r y) [
      | inl i ↦ subst (λ j. kid (w' j) (up (par j) z) ≡ kid (st.words j) (up (par j) z)) i
          (subst (λ p. kid (w' r) (up p z) ≡ kid (st.words r) (up p z)) (sym o) (nil (w' r) ∙ sym (nil (st.words r))))
      | inr n ↦ ap (λ t. kid t (up (par y) z)) (put_other st.words r (counted 0 0) y n)
    ]
      where
        nil : (t : Word) → kid t 0 ≡ 0
        nil (empty v) = refl
        nil (half v) = refl
        nil (counted n v) = refl

    counts : (z : ℕ) → weight (w' z) ≡ (st.outs z + one r z) + kids par N w' z + held par M st.agents z
    counts z =
        let k : kids par N w' z ≡ kids par N st.words z = sum_same (λ y. kid (w' y) (up (par y) z)) (λ y. kid (st.words y) (up (par y) z)) N (λ y l. kid_same y z) in
        let i = inv.counts z in
        elim (cases_eq r z) [
          | inl q ↦
              let a : weight (w' z) ≡ 1 = ap weight (put_same st.words r (counted 0 0) z q) in
              let b : weight (st.words r) ≡ weight (st.words z) = ap (λ j. weight (st.words j)) q in
              omega (arith, one_same r z q)
          | inr n ↦
              let a : weight (w' z) ≡ weight (st.words z) = ap weight (put_other st.words r (counted 0 0) z n) in
              omega (arith, one_other r z n)
        ]

    owned : (z : ℕ) → halves (w' z) ≤ pending M st.agents z (w' z)
    owned z = elim (cases_eq r z) [
      | inl q ↦ subst (λ t. halves t ≤ pending M st.agents z t) (sym (put_same st.words r (counted 0 0) z q)) (omega arith)
      | inr n ↦ subst (λ t. halves t ≤ pending M st.agents z t) (sym (put_other st.words r (counted 0 0) z n)) (inv.owned z)
    ]

    roots : (z : ℕ) → par z ≡ None → halves (w' z) ≡ 0
    roots z h = elim (cases_eq r z) [
      | inl q ↦ ap halves (put_same st.words r (counted 0 0) z q)
      | inr n ↦ ap halves (put_other st.words r (counted 0 0) z n) ∙ inv.roots z h
    ]

-- an idle agent is put to something
module _ (par : ℕ → Option ℕ) (N M : ℕ) (st : State) (a : ℕ) (in_m : a < M) (e : st.agents a ≡ idle) (s : Agent) where
  held_put : (z : ℕ) → held par M (put st.agents a s) z ≡ held par M st.agents z + hold par s z
  held_put z =
      let h = held_after par N M st a in_m (left s (empty 0) going) z in
      let i : hold par (st.agents a) z ≡ 0 = ap (λ t. hold par t z) e in
      omega arith

  pending_put : (z : ℕ) (w : Word) → pending M (put st.agents a s) z w ≡ pending M st.agents z w + pend s z w
  pending_put z w =
      let h = pending_after par N M st a in_m (left s (empty 0) going) z w in
      let i : pend (st.agents a) z w ≡ 0 = ap (λ t. pend t z w) e in
      omega arith

  shaped_put : Inv par N M st → Ok par N s → (b : ℕ) → Ok par N (put st.agents a s b)
  shaped_put inv c b = elim (cases_eq a b) [
    | inl q ↦ subst (Ok par N) (sym (put_same st.agents a s b q)) c
    | inr n ↦ subst (Ok par N) (sym (put_other st.agents a s b n)) (inv.shaped b)
  ]

pub arrive_keeps : (par : ℕ → Option ℕ) (N M : ℕ) (st : State) (a x : ℕ) → a < M → x < N → st.agents a ≡ idle → Inv par N M st → Inv par N M (sent st a x)
arrive_keeps par N M st a x in_m in_n e inv = record {
  counts = (λ z. omega (arith, inv.counts z, held_put par N M st a in_m e (arr x reads []) z));
  owned = (λ z. omega (arith, inv.owned z, pending_put par N M st a in_m e (arr x reads []) z (st.words z)));
  shaped = shaped_put par N M st a in_m e (arr x reads []) inv (in_n, tt, tt);
  roots = inv.roots;
}

pub depart_keeps : (par : ℕ → Option ℕ) (N M : ℕ) (st : State) (a x : ℕ) → a < M → x < N → st.agents a ≡ idle → 1 ≤ st.outs x → Inv par N M st
    → Inv par N M (left_by st a x)
depart_keeps par N M st a x in_m in_n e out inv = record {
  counts = counts;
  owned = (λ z. omega (arith, inv.owned z, pending_put par N M st a in_m e (dep x looks leave) z (st.words z)));
  shaped = shaped_put par N M st a in_m e (dep x looks leave) inv (in_n, tt);
  roots = inv.roots;
}
  where
    counts : (z : ℕ) → weight (st.words z) ≡ (st.outs z - one x z) + kids par N st.words z + held par M (put st.agents a (dep x looks leave)) z
    counts z = elim (cases_eq x z) [
      | inl q ↦
          let b : st.outs x ≡ st.outs z = ap st.outs q in
          omega (arith, inv.counts z, held_put par N M st a in_m e (dep x looks leave) z, one_same x z q)
      | inr n ↦ omega (arith, inv.counts z, held_put par N M st a in_m e (dep x looks leave) z, one_other x z n)
    ]

-- nodes may be linked that have an empty word and no parent yet
pub grow_keeps : (par more : ℕ → Option ℕ) (N M : ℕ) (st : State) → ((y q : ℕ) → par y ≡ Some q → more y ≡ Some q)
    → ((y : ℕ) → par y ≡ None → (more y ≡ None) ⊎ (weight (st.words y) ≡ 0)) → Inv par N M st → Inv more N M st
grow_keeps par more N M st up_to_lem new inv = record { counts = counts; owned = inv.owned; shaped = (λ a. shaped (st.agents a) (inv.shaped a)); roots = roots }
  where
    above : (r : ℕ) {x : ℕ} → Above par r x → Above more r x
    above r (top x e) = top x e
    above r (via x q e a) = via x q (up_to_lem x q e) (above r a)

    chain : (x : ℕ) (fs : List Frame) → Chain par N x fs → Chain more N x fs
    chain x [] c = tt
    chain x (frame y r v ∷ fs) c = (up_to_lem y x c.0, c.1, chain y fs c.2)

    ok_arrival : (x : ℕ) (h : Arrival) → OkArrival (par x) h → OkArrival (more x) h
    ok_arrival x reads c = tt
    ok_arrival x (raises n v) c = tt
    ok_arrival x (opens v) c = tt
    ok_arrival x (settles r v) c = (c.0, up_to_lem x c.0 c.1)

    shaped : (s : Agent) → Ok par N s → Ok more N s
    shaped idle c = tt
    shaped (arr x h fs) c = (c.0, ok_arrival x h c.1, chain x fs c.2)
    shaped (dep x h leave) c = (c.0, tt)
    shaped (dep x h (back r y fs)) c = (c.0, (c.1.0, (let (q, e, a) = c.1.1 in (q, up_to_lem y q e, above x a)), chain y fs c.1.2))

    hold_arrival_same : (x : ℕ) (h : Arrival) (z : ℕ) → OkArrival (par x) h → hold_arrival (more x) x h z ≡ hold_arrival (par x) x h z
    hold_arrival_same x reads z c = refl
    hold_arrival_same x (raises n v) z c = refl
    hold_arrival_same x (opens v) z c = refl
    hold_arrival_same x (settles r v) z c =
        let p : up (par x) z ≡ one c.0 z = ap (λ o. up o z) c.1 in
        let q : up (more x) z ≡ one c.0 z = ap (λ o. up o z) (up_to_lem x c.0 c.1) in
        omega arith

    hold_same : (s : Agent) (z : ℕ) → Ok par N s → hold more s z ≡ hold par s z
    hold_same idle z c = refl
    hold_same (arr x h fs) z c = omega (arith, hold_arrival_same x h z c.1)
    hold_same (dep x h b) z c = refl

    kid_zero : (t : Word) (m n : ℕ) → weight t ≡ 0 → kid t m ≡ kid t n
    kid_zero (empty v) m n e = refl
    kid_zero (half v) m n e = omega arith
    kid_zero (counted k v) m n e = omega arith

    kid_same : (y z : ℕ) (p : Option ℕ) → par y ≡ p → kid (st.words y) (up (more y) z) ≡ kid (st.words y) (up p z)
    kid_same y z None e = elim (new y e) [
      | inl i ↦ ap (λ o. kid (st.words y) (up o z)) i
      | inr i ↦ kid_zero (st.words y) (up (more y) z) 0 i
    ]
    kid_same y z (Some q) e = ap (λ o. kid (st.words y) (up o z)) (up_to_lem y q e)

    counts : (z : ℕ) → weight (st.words z) ≡ st.outs z + kids more N st.words z + held more M st.agents z
    counts z =
        let k : kids more N st.words z ≡ kids par N st.words z = sum_same (λ y. kid (st.words y) (up (more y) z)) (λ y. kid (st.words y) (up (par y) z)) N (λ y l. kid_same y z (par y) refl) in
        let h : held more M st.agents z ≡ held par M st.agents z = sum_same (λ a. hold more (st.agents a) z) (λ a. hold par (st.agents a) z) M (λ a l. hold_same (st.agents a) z (inv.shaped a)) in
        omega (arith, inv.counts z)

    roots : (z : ℕ) → more z ≡ None → halves (st.words z) ≡ 0
    roots z e = go (par z) refl
      where
        go : (p : Option ℕ) → par z ≡ p → halves (st.words z) ≡ 0
        go None q = inv.roots z q
        go (Some q) i = absurd (some_none (more z) q (up_to_lem z q i) e)
