-- A turn of any agent keeps the invariant.
use Rattle.std.proofs.Common.{◌≡◌, ℕ, ◌+◌, ◌<◌, ◌≤◌, ◌⊎◌, None, Option, sym, refl, ap, ◌∙◌, subst, inl, inr, arith}
use Rattle.std.proofs.lemmas.Bool.{cases_eq}
use Rattle.banks.specs.Counting.{put, sum}
use Rattle.forest.specs.Climb.{Word, Agent, idle, arr, dep, Left, agent_of, word_of, answer_of, step, node, up, weight, halves, kid, hold, receipt, pend, Ok, Down}
use Rattle.forest.specs.Climb.{State, kids, held, pending, Inv, after, turn}
use Rattle.forest.proofs.Counting.{one_times, one_gone, put_same, put_other, sum_same, sum_but, part_le}
use Rattle.forest.proofs.ClimbFlow.{Flow, flow}
use Rattle.forest.proofs.ClimbKeeps.{keep, ok_step, root_step}

-- an agent's node is one of the N, or the turn writes nothing
inside : (par : ℕ → Option ℕ) (N : ℕ) (p : Option ℕ) (s : Agent) (u : Word) → Ok par N s → (node s < N) ⊎ (word_of (step p s u) ≡ u)
inside par N p idle u c = inr refl
inside par N p (arr x h fs) u c = inl c.0
inside par N p (dep x h b) u c = inl c.0

module _ (par : ℕ → Option ℕ) (N M : ℕ) (st : State) (a : ℕ) (in_m : a < M) (l : Left) where
  pub held_after : (z : ℕ) → held par M (after st a l).agents z + hold par (st.agents a) z ≡ held par M st.agents z + hold par (agent_of l) z
  held_after z =
      let f : ℕ → ℕ = λ k. hold par (put st.agents a (agent_of l) k) z in
      let g : ℕ → ℕ = λ k. hold par (st.agents k) z in
      let e : f a ≡ hold par (agent_of l) z = ap (λ s. hold par s z) (put_same st.agents a (agent_of l) a refl) in
      let t : sum f M + g a ≡ sum g M + f a = sum_but f g a M in_m (λ k n. ap (λ s. hold par s z) (put_other st.agents a (agent_of l) k n)) in
      omega arith

  pub pending_after : (z : ℕ) (w : Word) → pending M (after st a l).agents z w + pend (st.agents a) z w ≡ pending M st.agents z w + pend (agent_of l) z w
  pending_after z w =
      let f : ℕ → ℕ = λ k. pend (put st.agents a (agent_of l) k) z w in
      let g : ℕ → ℕ = λ k. pend (st.agents k) z w in
      let e : f a ≡ pend (agent_of l) z w = ap (λ s. pend s z w) (put_same st.agents a (agent_of l) a refl) in
      let t : sum f M + g a ≡ sum g M + f a = sum_but f g a M in_m (λ k n. ap (λ s. pend s z w) (put_other st.agents a (agent_of l) k n)) in
      omega arith

  pending_has : (z : ℕ) (w : Word) → pend (agent_of l) z w ≤ pending M (after st a l).agents z w
  pending_has z w =
      let f : ℕ → ℕ = λ k. pend (put st.agents a (agent_of l) k) z w in
      let e : f a ≡ pend (agent_of l) z w = ap (λ s. pend s z w) (put_same st.agents a (agent_of l) a refl) in
      let t : f a ≤ sum f M = part_le f a M in_m in
      omega arith

  kids_after : (z : ℕ) → (node (st.agents a) < N) ⊎ (word_of l ≡ st.words (node (st.agents a)))
      → kids par N (after st a l).words z + kid (st.words (node (st.agents a))) (up (par (node (st.agents a))) z)
      ≡ kids par N st.words z + kid (word_of l) (up (par (node (st.agents a))) z)
  kids_after z o =
      let x : ℕ = node (st.agents a) in
      let f : ℕ → ℕ = λ y. kid (put st.words x (word_of l) y) (up (par y) z) in
      let g : ℕ → ℕ = λ y. kid (st.words y) (up (par y) z) in
      let e : f x ≡ kid (word_of l) (up (par x) z) = ap (λ w. kid w (up (par x) z)) (put_same st.words x (word_of l) x refl) in
      let d : (k : ℕ) → (x ≡ k → ⊥) → f k ≡ g k = λ k n. ap (λ w. kid w (up (par k) z)) (put_other st.words x (word_of l) k n) in
      let go : (node (st.agents a) < N) ⊎ (word_of l ≡ st.words x) → sum f N + g x ≡ sum g N + kid (word_of l) (up (par x) z) =
      elim [
        | inl lt ↦ let t : sum f N + g x ≡ sum g N + f x = sum_but f g x N lt d in omega arith
        | inr q ↦
            let i : kid (word_of l) (up (par x) z) ≡ g x = ap (λ w. kid w (up (par x) z)) q in
            let t : sum f N ≡ sum g N = sum_same f g N (λ k m. elim (cases_eq x k) [ inl r ↦ subst (λ j. f j ≡ g j) r (e ∙ i) | inr n ↦ d k n ]) in
            omega arith
      ]
      in
      go o

pub turn_keeps : (par : ℕ → Option ℕ) (N M : ℕ) → Down par N → (st : State) (a : ℕ) → a < M → Inv par N M st → Inv par N M (turn par st a)
turn_keeps par N M down st a in_m inv = record { counts = counts; owned = owned; shaped = shaped; roots = roots }
  where
    s : Agent
    s = st.agents a

    x : ℕ
    x = node s

    u : Word
    u = st.words x

    l : Left
    l = step (par x) s u

    w' : ℕ → Word
    w' = put st.words x (word_of l)

    counts : (z : ℕ) → weight (w' z) ≡ (st.outs z + receipt (answer_of l) z) + kids par N w' z + held par M (put st.agents a (agent_of l)) z
    counts z =
        let fl : Flow par x s u z l = flow par N (par x) s u refl (inv.shaped a) z in
        let h = held_after par N M st a in_m l z in
        let k = kids_after par N M st a in_m l z (inside par N (par x) s u (inv.shaped a)) in
        let i = inv.counts z in
        elim (cases_eq x z) [
          | inl e ↦
              let p : weight (w' z) ≡ weight (word_of l) = ap weight (put_same st.words x (word_of l) z e) in
              let q : weight (st.words z) ≡ weight u = ap (λ j. weight (st.words j)) (sym e) in
              let m = one_times x z (weight (word_of l)) e in
              let n = one_times x z (weight u) e in
              omega arith
          | inr e ↦
              let p : weight (w' z) ≡ weight (st.words z) = ap weight (put_other st.words x (word_of l) z e) in
              let m = one_gone x z (weight (word_of l)) e in
              let n = one_gone x z (weight u) e in
              omega arith
        ]

    here : halves (word_of l) ≤ pending M (put st.agents a (agent_of l)) x (word_of l)
    here = elim (keep (par x) s u).1 [
      | inl q ↦
          let i : halves u ≤ pending M st.agents x u = inv.owned x in
          let p = pending_after par N M st a in_m l x u in
          subst (λ t. halves t ≤ pending M (put st.agents a (agent_of l)) x t) (sym q.0) (omega arith)
      | inr h ↦ let p = pending_has par N M st a in_m l x (word_of l) in omega arith
    ]

    owned : (z : ℕ) → halves (w' z) ≤ pending M (put st.agents a (agent_of l)) z (w' z)
    owned z = elim (cases_eq x z) [
      | inl e ↦
          subst (λ j. halves (w' j) ≤ pending M (put st.agents a (agent_of l)) j (w' j)) e
          (subst (λ t. halves t ≤ pending M (put st.agents a (agent_of l)) x t) (sym (put_same st.words x (word_of l) x refl)) here)
      | inr n ↦
          let t : Word = st.words z in
          let i : halves t ≤ pending M st.agents z t = inv.owned z in
          let p = pending_after par N M st a in_m l z t in
          let k : pend s z t ≤ pend (agent_of l) z t = (keep (par x) s u).0 z t n in
          subst (λ t. halves t ≤ pending M (put st.agents a (agent_of l)) z t) (sym (put_other st.words x (word_of l) z n)) (omega arith)
    ]

    shaped : (b : ℕ) → Ok par N (put st.agents a (agent_of l) b)
    shaped b = elim (cases_eq a b) [
      | inl e ↦ subst (Ok par N) (sym (put_same st.agents a (agent_of l) b e)) (ok_step par N down (par x) s u refl (inv.shaped a))
      | inr e ↦ subst (Ok par N) (sym (put_other st.agents a (agent_of l) b e)) (inv.shaped b)
    ]

    roots : (z : ℕ) → par z ≡ None → halves (w' z) ≡ 0
    roots z r = elim (cases_eq x z) [
      | inl e ↦
          let o : par x ≡ None = ap par e ∙ r in
          ap halves (put_same st.words x (word_of l) z e)
          ∙ subst (λ p. halves (word_of (step p s u)) ≡ 0) (sym o) (root_step s u (inv.roots x o))
      | inr n ↦ ap halves (put_other st.words x (word_of l) z n) ∙ inv.roots z r
    ]
