-- What the invariant says of a word: when it is counted, and when it is empty.
use Rattle.std.proofs.Common.{◌≡◌, ℕ, zero, suc, ◌+◌, ◌<◌, ◌≤◌, Bool, true, false, ◌⊎◌, List, [], ◌∷◌, Some, None, Option, sym, refl, ap, subst, inl, inr, arith}
use Rattle.std.proofs.lemmas.Bool.{cases_eq}
use Rattle.banks.specs.Counting.{one, sum}
use Rattle.forest.specs.Climb.{Word, empty, half, counted, Role, owner, helper, Frame, frame, Arrival, reads, raises, opens, settles, Departure, Back, leave, back}
use Rattle.forest.specs.Climb.{Agent, idle, arr, dep, departed, word_of, answer_of, step, node, up, weight, halves, kid, owns, hold_frames, hold_arrival, hold_back}
use Rattle.forest.specs.Climb.{hold, meets, pends, pend_frames, pend_arrival, pend_back, pend, Above, top, via, Down, State, kids, held, pending, Inv, turn_at, turn}
use Rattle.forest.specs.Climb.{departing, aim, Counted, Empty, Elsewhere}
use Rattle.forest.proofs.Counting.{false_true, one_same, one_other, one_times, one_gone, one_le, put_same, part_le, sum_none, sum_le, sum_lt}
use Rattle.forest.specs.Ancestors.{above_in, some_none}
use Rattle.forest.proofs.ClimbTrees.{elsewhere_none}
use Rattle.forest.proofs.ClimbAnswers.{leaving, Drains, drains_step}
use Rattle.forest.proofs.ClimbTurns.{turn_keeps}

-- What is pending is held

pends_le : (r : Role) (x v z : ℕ) (t : Word) → pends r x v z t ≤ owns r x z
pends_le owner x v z t = elim (cases_eq x z) [
  | inl e ↦ omega (arith, one_times x z (meets v t) e, one_same x z e, meets_le v t)
  | inr n ↦ omega (arith, one_gone x z (meets v t) n)
]
  where
    meets_le : (v : ℕ) (t : Word) → meets v t ≤ 1
    meets_le v (empty a) = omega arith
    meets_le v (half a) = one_le v a
    meets_le v (counted n a) = omega arith
pends_le helper x v z t = omega arith

pend_frames_le : (fs : List Frame) (z : ℕ) (t : Word) → pend_frames fs z t ≤ hold_frames fs z
pend_frames_le [] z t = omega arith
pend_frames_le (frame y r v ∷ fs) z t =
    let i : pend_frames fs z t ≤ hold_frames fs z = pend_frames_le fs z t in
    omega (arith, pends_le r y v z t)

pend_back_le : (b : Back) (z : ℕ) (t : Word) → pend_back b z t ≤ hold_back b z
pend_back_le leave z t = omega arith
pend_back_le (back r y fs) z t = omega (arith, pend_frames_le fs z t)

pend_arrival_le : (p : Option ℕ) (x : ℕ) (h : Arrival) (z : ℕ) (t : Word) → pend_arrival x h z t ≤ hold_arrival p x h z
pend_arrival_le p x reads z t = omega arith
pend_arrival_le p x (raises n v) z t = omega arith
pend_arrival_le p x (opens v) z t = omega arith
pend_arrival_le p x (settles r v) z t = omega (arith, pends_le r x v z t)

pend_le : (par : ℕ → Option ℕ) (s : Agent) (z : ℕ) (t : Word) → pend s z t ≤ hold par s z
pend_le par idle z t = omega arith
pend_le par (arr x h fs) z t = omega (arith, pend_arrival_le (par x) x h z t, pend_frames_le fs z t)
pend_le par (dep x h b) z t = omega (arith, pend_back_le b z t)

-- Words

halves_weight : (u : Word) → (halves u ≡ 0) ⊎ ((halves u ≡ 1) × (weight u ≡ 1))
halves_weight (empty v) = inl refl
halves_weight (half v) = inr (refl, refl)
halves_weight (counted n v) = inl refl

counted_from : (u : Word) → 1 ≤ weight u → halves u ≡ 0 → Counted u
counted_from (empty v) h e = omega arith
counted_from (half v) h e = omega arith
counted_from (counted n v) h e = tt

empty_from : (u : Word) → weight u ≡ 0 → Empty u
empty_from (empty v) e = tt
empty_from (half v) e = omega arith
empty_from (counted n v) e = omega arith

empty_not : (u : Word) → Counted u → Empty u → ⊥
empty_not (empty v) c e = c
empty_not (half v) c e = c
empty_not (counted n v) c e = e

kid_counted : (u : Word) (n : ℕ) → Counted u → kid u n ≡ n
kid_counted (empty v) n c = absurd c
kid_counted (half v) n c = absurd c
kid_counted (counted m v) n c = refl

kid_empty : (u : Word) (n : ℕ) → weight u ≡ 0 → kid u n ≡ 0
kid_empty (empty v) n c = refl
kid_empty (half v) n c = omega arith
kid_empty (counted m v) n c = omega arith

kid_none : (u : Word) (n : ℕ) → n ≡ 0 → kid u n ≡ 0
kid_none (empty v) n c = refl
kid_none (half v) n c = refl
kid_none (counted m v) n c = c

module _ (par : ℕ → Option ℕ) (N M : ℕ) (st : State) (inv : Inv par N M st) where
  pending_held : (z : ℕ) (t : Word) → pending M st.agents z t ≤ held par M st.agents z
  pending_held z t = sum_le (λ a. pend (st.agents a) z t) (λ a. hold par (st.agents a) z) M (λ a. pend_le par (st.agents a) z t)

  -- more there than a pending owner: the word is counted
  standing : (z : ℕ) → pending M st.agents z (st.words z) + 1 ≤ st.outs z + kids par N st.words z + held par M st.agents z
      → Counted (st.words z)
  standing z h =
      let i = inv.counts z in
      let o = inv.owned z in
      counted_from (st.words z) (omega arith) (elim (halves_weight (st.words z)) [ inl e ↦ e | inr e ↦ omega (arith, e.0, e.1) ])

  standing_out : (z : ℕ) → 1 ≤ st.outs z → Counted (st.words z)
  standing_out z h = standing z (omega (arith, pending_held z (st.words z)))

  -- a departing agent never meets a word that it cannot lower
  pub departs_from_counted : (a : ℕ) → a < M → (x : ℕ) (h : Departure) (b : Back) → st.agents a ≡ dep x h b → Counted (st.words x)
  departs_from_counted a l x h b e =
      let t : Word = st.words x in
      let f : ℕ → ℕ = λ k. pend (st.agents k) x t in
      let g : ℕ → ℕ = λ k. hold par (st.agents k) x in
      let more : f a < g a = subst (λ s. pend s x t < hold par s x) (sym e) (omega (arith, pend_back_le b x t, one_same x x refl)) in
      let k : sum f M < sum g M = sum_lt f g a M l (λ k. pend_le par (st.agents k) x t) more in
      standing x (omega arith)

  module _ (down : Down par N) where
    -- a counted node makes its ancestors counted
    rise : (r : ℕ) {x : ℕ} → Above par r x → Counted (st.words x) → Counted (st.words r)
    rise r (top x e) c = subst (λ j. Counted (st.words j)) e c
    rise r (via x q e a) c =
        let f : ℕ → ℕ = λ y. kid (st.words y) (up (par y) q) in
        let i : f x ≡ up (par x) q = kid_counted (st.words x) (up (par x) q) c in
        let j : up (par x) q ≡ one q q = ap (λ o. up o q) e in
        let k : f x ≤ sum f N = part_le f x N (down x q e).1 in
        rise r a (standing q (omega (arith, one_same q q refl, pending_held q (st.words q))))

-- with a receipt out in the tree of r, or an agent departing in it, the word of r is counted
pub held_counted : (par : ℕ → Option ℕ) (N M : ℕ) → Down par N → (st : State) → Inv par N M st → (r : ℕ) → par r ≡ None → (x : ℕ) → Above par r x
    → (1 ≤ st.outs x) ⊎ ((a : ℕ) × (a < M) × (aim (st.agents a) ≡ departing) × (node (st.agents a) ≡ x)) → Counted (st.words r)
held_counted par N M down st inv r o x a (inl h) = rise par N M st inv down r a (standing_out par N M st inv x h)
held_counted par N M down st inv r o x a (inr (k, l, e, i)) =
    let (h, q) = leaving (st.agents k) e in
    rise par N M st inv down r a (subst (λ j. Counted (st.words j)) i (departs_from_counted par N M st inv k l (node (st.agents k)) h leave q))

-- with none out and no errand in the tree of r, it is empty
pub zero_empty : (par : ℕ → Option ℕ) (N M : ℕ) → Down par N → (st : State) → Inv par N M st → (r : ℕ) → par r ≡ None
    → ((x : ℕ) → Above par r x → st.outs x ≡ 0) → ((a : ℕ) → a < M → Elsewhere par r (st.agents a)) → Empty (st.words r)
zero_empty par N M down st inv r o outs apart = empty_from (st.words r) (go N r (omega arith) (top r refl))
  where
    held_none : (x : ℕ) → Above par r x → held par M st.agents x ≡ 0
    held_none x a = sum_none (λ k. hold par (st.agents k) x) M (λ k l. elsewhere_none par N x r (st.agents k) (inv.shaped k) a (apart k l))

    kids_none : (x y : ℕ) (p : Option ℕ) → par y ≡ p → (par y ≡ Some x → weight (st.words y) ≡ 0) → kid (st.words y) (up p x) ≡ 0
    kids_none x y None e h = kid_none (st.words y) 0 refl
    kids_none x y (Some q) e h = elim (cases_eq q x) [
      | inl i ↦ kid_empty (st.words y) (one q x) (h (subst (λ j. par y ≡ Some j) i e))
      | inr n ↦ kid_none (st.words y) (one q x) (one_other q x n)
    ]

    go : (k x : ℕ) → N ≤ x + k → Above par r x → weight (st.words x) ≡ 0
    go zero x l a =
        let f : ℕ → ℕ = λ y. kid (st.words y) (up (par y) x) in
        let n : sum f N ≡ 0 = sum_none f N (λ y b. kids_none x y (par y) refl (λ e. omega (arith, (down y x e).0))) in
        omega (arith, inv.counts x, held_none x a, outs x a)
    go (suc k) x l a =
        let f : ℕ → ℕ = λ y. kid (st.words y) (up (par y) x) in
        let n : sum f N ≡ 0 = sum_none f N (λ y b. kids_none x y (par y) refl (λ e. go k y (omega (arith, (down y x e).0)) (via y x e a))) in
        omega (arith, inv.counts x, held_none x a, outs x a)

-- an ended departure says drained exactly if the word of the root is empty afterwards
pub drained_exactly : (par : ℕ → Option ℕ) (N M : ℕ) → Down par N → (st : State) (a : ℕ) → a < M → Inv par N M st
    → aim (st.agents a) ≡ departing → (r : ℕ) → par r ≡ None → Above par r (node (st.agents a))
    → (d : Bool) → answer_of (turn_at par st a) ≡ departed d
    → (d ≡ true → Empty ((turn par st a).words r)) × (Empty ((turn par st a).words r) → d ≡ true)
drained_exactly par N M down st a l inv e r o over d q = go d q
  where
    s : Agent
    s = st.agents a

    x : ℕ
    x = node s

    u : Word
    u = st.words x

    w : Word
    w = word_of (step (par x) s u)

    here : (turn par st a).words x ≡ w
    here = put_same st.words x w x refl

    inv' : Inv par N M (turn par st a)
    inv' = turn_keeps par N M down st a l inv

    drains : (d : Bool) → answer_of (turn_at par st a) ≡ departed d → Drains (par x) w (departed d)
    drains d q = subst (Drains (par x) w) q (drains_step (par x) s u)

    go : (d : Bool) → answer_of (turn_at par st a) ≡ departed d
        → (d ≡ true → Empty ((turn par st a).words r)) × (Empty ((turn par st a).words r) → d ≡ true)
    go true q = (
      λ _. subst (λ j. Empty ((turn par st a).words j)) root (subst Empty (sym here) (empty_from w (drains true q).1)),
      λ _. refl,
    )
      where
        root : x ≡ r
        root = elim (above_in par r over) [ inl i ↦ i | inr (m, i, c) ↦ absurd (some_none (par x) m i (drains true q).0) ]
    go false q =
        let c : Counted ((turn par st a).words r) = rise par N M (turn par st a) inv' down r over (subst Counted (sym here) (drains false q)) in
        (λ i. absurd (false_true i), λ i. absurd (empty_not ((turn par st a).words r) c i))
