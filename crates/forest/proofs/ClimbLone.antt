-- The lone number falls with each turn of its agent.
use Rattle.std.proofs.Common.{◌≡◌, ℕ, zero, suc, ◌+◌, ◌*◌, ◌<◌, ◌≤◌, Bool, true, false, cond, eqb, List, [], ◌∷◌, Some, None, Option, sym, refl, ap, ◌∙◌, subst, arith}
use Rattle.std.proofs.lemmas.Bool.{eq-eqb, cond-true, cond-false}
use Rattle.banks.specs.Counting.{put}
use Rattle.forest.specs.Climb.{Word, empty, half, counted, Role, owner, helper, Frame, frame, reads, raises, opens, settles, Departure, looks, lowers, Back, leave}
use Rattle.forest.specs.Climb.{back, Agent, idle, arr, dep, going, Left, left, agent_of, word_of, same, bump, done, finish, climb, won_open, won_settle, lost_settle}
use Rattle.forest.specs.Climb.{won_lower, step, node, halves, Above, top, via, Chain, OkArrival, OkBack, Ok, Down, State, Inv, turn, Counted}
use Rattle.forest.specs.Lone.{won_cost, lost_cost, cost_settle, first, cost_frames, cost_back, lone_at, lone, Deep}
use Rattle.forest.proofs.Counting.{put_same, put_other}
use Rattle.forest.specs.Ancestors.{some_none}
use Rattle.forest.proofs.ClimbTrees.{back_above}
use Rattle.forest.proofs.ClimbFlow.{cas}
use Rattle.forest.proofs.ClimbReads.{departs_from_counted}

same_refl : (u : Word) → same u u ≡ true
same_refl (empty a) = eq-eqb a a refl
same_refl (half a) = eq-eqb a a refl
same_refl (counted n a) = cond-true (eqb n n) (eqb a a) false (eq-eqb n n refl) ∙ eq-eqb a a refl

by_same : (u : Word) (m n : ℕ) → cond (same u u) m n ≡ m
by_same u m n = cond-true (same u u) m n (same_refl u)

pub first_le : (k : ℕ) (u : Word) → first k u ≤ 4 * k + 2
first_le k (empty v) = omega arith
first_le k (half v) = omega arith
first_le k (counted n v) = omega arith

module _ (par : ℕ → Option ℕ) (N : ℕ) (down : Down par N) (deep : ℕ → ℕ) (deeper : Deep par deep) (w : ℕ → Word) where
  above_le : (x : ℕ) {y : ℕ} → Above par x y → x ≤ y
  above_le x (top y e) = omega arith
  above_le x (via y q e a) = let i : x ≤ q = above_le x a in omega (arith, (down y q e).0)

  frames_put : (x y : ℕ) (u : Word) (fs : List Frame) → x ≤ y → Chain par N y fs → cost_frames deep (put w x u) fs ≡ cost_frames deep w fs
  frames_put x y u [] l c = refl
  frames_put x y u (frame t r v ∷ fs) l c =
      let b : y < t = (down t y c.0).0 in
      let i : put w x u t ≡ w t = put_other w x u t (λ (q : x ≡ t). omega arith) in
      let j : cost_settle (deep t) r v (put w x u t) ≡ cost_settle (deep t) r v (w t) = ap (cost_settle (deep t) r v) i in
      let k : cost_frames deep (put w x u) fs ≡ cost_frames deep w fs = frames_put x t u fs (omega arith) c.2 in
      omega arith

  by_put : (x : ℕ) (u : Word) (m n : ℕ) → cond (same (put w x u x) u) m n ≡ m
  by_put x u m n = ap (λ t. cond (same t u) m n) (put_same w x u x refl) ∙ by_same u m n

  -- x is the node of the turn, s the agent, t the word there
  abbrev Lower : ℕ → Agent → Word → Left → Type 0
  Lower x s t l = lone deep (put w x (word_of l)) (agent_of l) + 1 ≤ lone_at deep w s t

  lower_done : (x y : ℕ) (s : Agent) (t u : Word) (fs : List Frame) → x ≤ y → Chain par N y fs → cost_frames deep w fs + 1 ≤ lone_at deep w s t → Lower x s t (done y fs u)
  lower_done x y s t u [] l c h = omega arith
  lower_done x y s t u (frame z r v ∷ fs) l c h = omega (arith, frames_put x y u (frame z r v ∷ fs) l c)

  lower_finish : (x : ℕ) (s : Agent) (t u : Word) (b : Back) (d : Bool) → OkBack par N x b → cost_back deep w b + 1 ≤ lone_at deep w s t → Lower x s t (finish b d u)
  lower_finish x s t u leave d c h = omega arith
  lower_finish x s t u (back owner y fs) d c h = lower_done x y s t u fs (above_le x (back_above par N x owner y fs c)) c.2 h
  lower_finish x s t u (back helper y fs) d c h =
      omega (arith, frames_put x y u fs (above_le x (back_above par N x helper y fs c)) c.2, first_le (deep y) (put w x u y))

  -- it reads again at the same node, or at the parent with one more frame
  lower_again : (x : ℕ) (s : Agent) (t u : Word) (fs : List Frame) → Chain par N x fs → (4 * deep x + 2) + cost_frames deep w fs + 1 ≤ lone_at deep w s t
      → Lower x s t (left (arr x reads fs) u going)
  lower_again x s t u fs c h = omega (arith, frames_put x x u fs (omega arith) c, first_le (deep x) (put w x u x))

  lower_up : (x q : ℕ) (r : Role) (v : ℕ) (s : Agent) (t : Word) (fs : List Frame) → par x ≡ Some q → Chain par N x fs
      → (4 * deep x + won_cost r) + cost_frames deep w fs ≤ lone_at deep w s t + 1
      → Lower x s t (left (arr q reads (frame x r v ∷ fs)) (half v) going)
  lower_up x q r v s t fs e c h =
      let w' : ℕ → Word = put w x (half v) in
      let i : cost_settle (deep x) r v (w' x) ≡ won_cost r = ap (cost_settle (deep x) r v) (put_same w x (half v) x refl) ∙ by_same (half v) (won_cost r) (lost_cost (deep x) r) in
      omega (arith, frames_put x x (half v) fs (omega arith) c, first_le (deep q) (w' q), deeper x q e)

  lower_climb : (p : Option ℕ) (x v : ℕ) (fs : List Frame) → par x ≡ p → (p ≡ None → ⊥) → Chain par N x fs
      → Lower x (arr x reads fs) (half v) (climb p x helper v fs (half v))
  lower_climb None x v fs e n c = absurd (n refl)
  lower_climb (Some q) x v fs e n c = lower_up x q helper v (arr x reads fs) (half v) fs e c (omega arith)

  lower_won_open : (p : Option ℕ) (x v : ℕ) (fs : List Frame) → par x ≡ p → Chain par N x fs → Lower x (arr x (opens v) fs) (empty v) (won_open p x v fs)
  lower_won_open p x v fs e c = go p e
    where
      cost : cond (same (empty v) (empty v)) (4 * deep x + 1) (4 * deep x + 3) ≡ 4 * deep x + 1
      cost = by_same (empty v) (4 * deep x + 1) (4 * deep x + 3)

      go : (p : Option ℕ) → par x ≡ p → Lower x (arr x (opens v) fs) (empty v) (won_open p x v fs)
      go None e = lower_done x x (arr x (opens v) fs) (empty v) (counted 0 (bump v)) fs (omega arith) c (omega (arith, cost))
      go (Some q) e = lower_up x q owner (bump v) (arr x (opens v) fs) (empty v) fs e c (omega (arith, cost))

  lower_won_settle : (r : Role) (x v : ℕ) (fs : List Frame) → Chain par N x fs → Lower x (arr x (settles r v) fs) (half v) (won_settle r x v fs)
  lower_won_settle owner x v fs c =
      lower_done x x (arr x (settles owner v) fs) (half v) (counted 0 v) fs (omega arith) c
      (omega (arith, by_same (half v) 1 (2 * deep x + 1)))
  lower_won_settle helper x v fs c =
      let i : first (deep x) (put w x (counted 0 v) x) ≡ 2 = ap (first (deep x)) (put_same w x (counted 0 v) x refl) in
      omega (arith, frames_put x x (counted 0 v) fs (omega arith) c, by_same (half v) 3 (6 * deep x + 3))

  lower_lost_settle : (p : Option ℕ) (r : Role) (x v : ℕ) (fs : List Frame) (u : Word) → par x ≡ p → OkArrival (par x) (settles r v) → Chain par N x fs
      → same u (half v) ≡ false → Lower x (arr x (settles r v) fs) u (lost_settle p r x v fs u)
  lower_lost_settle None r x v fs u e a c f = absurd (some_none (par x) a.0 a.1 e)
  lower_lost_settle (Some q) owner x v fs u e a c f =
      omega (arith, frames_put x x u fs (omega arith) c, deeper x q e, cond-false (same u (half v)) 1 (2 * deep x + 1) f)
  lower_lost_settle (Some q) helper x v fs u e a c f =
      omega (arith, frames_put x x u fs (omega arith) c, deeper x q e, cond-false (same u (half v)) 3 (6 * deep x + 3) f)

  back_put : (x : ℕ) (u : Word) (b : Back) → OkBack par N x b → cost_back deep (put w x u) b ≡ cost_back deep w b
  back_put x u leave c = refl
  back_put x u (back owner y fs) c = frames_put x y u fs (above_le x (back_above par N x owner y fs c)) c.2
  back_put x u (back helper y fs) c = omega (arith, frames_put x y u fs (above_le x (back_above par N x helper y fs c)) c.2)

  lower_won_lower : (p : Option ℕ) (n v x : ℕ) (b : Back) → par x ≡ p → OkBack par N x b → Lower x (dep x (lowers n v) b) (counted n v) (won_lower p n v x b)
  lower_won_lower None zero v x b e c =
      lower_finish x (dep x (lowers zero v) b) (counted zero v) (empty v) b true c
      (omega (arith, by_same (counted zero v) (2 * deep x + 1) (2 * deep x + 3)))
  lower_won_lower (Some q) zero v x b e c =
      omega (arith, back_put x (empty v) b c, deeper x q e, by_same (counted zero v) (2 * deep x + 1) (2 * deep x + 3))
  lower_won_lower None (suc n) v x b e c =
      lower_finish x (dep x (lowers (suc n) v) b) (counted (suc n) v) (counted n v) b false c
      (omega (arith, by_same (counted (suc n) v) (2 * deep x + 1) (2 * deep x + 3)))
  lower_won_lower (Some q) (suc n) v x b e c =
      lower_finish x (dep x (lowers (suc n) v) b) (counted (suc n) v) (counted n v) b false c
      (omega (arith, by_same (counted (suc n) v) (2 * deep x + 1) (2 * deep x + 3)))

  -- the two facts that the invariant adds: a root is not half, and a departing agent finds a counted word
  lower_step : (p : Option ℕ) (s : Agent) (u : Word) → par (node s) ≡ p → Ok par N s → (p ≡ None → halves u ≡ 0)
      → ((x : ℕ) (h : Departure) (b : Back) → s ≡ dep x h b → Counted u) → (s ≡ idle → ⊥) → Lower (node s) s u (step p s u)
  lower_step p idle u e c ro de n = absurd (n refl)
  lower_step p (arr x reads fs) (empty v) e c ro de n =
      omega (arith, by_put x (empty v) (4 * deep x + 1) (4 * deep x + 3), frames_put x x (empty v) fs (omega arith) c.2)
  lower_step p (arr x reads fs) (half v) e c ro de n =
      lower_climb p x v fs e (λ q. let z : ◌≡◌ {A = ℕ} 1 0 = ro q in omega arith) c.2
  lower_step p (arr x reads fs) (counted m v) e c ro de n =
      omega (arith, by_put x (counted m v) 1 (4 * deep x + 3), frames_put x x (counted m v) fs (omega arith) c.2)
  lower_step p (arr x (raises m v) fs) u e c ro de n =
      cas (Lower x (arr x (raises m v) fs)) u (counted m v) _ _
      (lower_done x x (arr x (raises m v) fs) (counted m v) (counted (suc m) v) fs (omega arith) c.2
      (omega (arith, by_same (counted m v) 1 (4 * deep x + 3))))
      (λ f. lower_again x (arr x (raises m v) fs) u u fs c.2 (omega (arith, cond-false (same u (counted m v)) 1 (4 * deep x + 3) f)))
  lower_step p (arr x (opens v) fs) u e c ro de n =
      cas (Lower x (arr x (opens v) fs)) u (empty v) _ _ (lower_won_open p x v fs e c.2)
      (λ f. lower_again x (arr x (opens v) fs) u u fs c.2 (omega (arith, cond-false (same u (empty v)) (4 * deep x + 1) (4 * deep x + 3) f)))
  lower_step p (arr x (settles r v) fs) u e c ro de n =
      cas (Lower x (arr x (settles r v) fs)) u (half v) _ _ (lower_won_settle r x v fs c.2) (λ f. lower_lost_settle p r x v fs u e c.1 c.2 f)
  lower_step p (dep x looks b) (empty v) e c ro de n = absurd (de x looks b refl)
  lower_step p (dep x looks b) (half v) e c ro de n = absurd (de x looks b refl)
  lower_step p (dep x looks b) (counted m v) e c ro de n =
      omega (arith, by_put x (counted m v) (2 * deep x + 1) (2 * deep x + 3), back_put x (counted m v) b c.1)
  lower_step p (dep x (lowers m v) b) u e c ro de n =
      cas (Lower x (dep x (lowers m v) b)) u (counted m v) _ _ (lower_won_lower p m v x b e c.1)
      (λ f. omega (arith, back_put x u b c.1, cond-false (same u (counted m v)) (2 * deep x + 1) (2 * deep x + 3) f))

pub lone_falls : (par : ℕ → Option ℕ) (N M : ℕ) → Down par N → (deep : ℕ → ℕ) → Deep par deep → (st : State) (a : ℕ) → a < M → Inv par N M st
    → (st.agents a ≡ idle → ⊥)
    → lone deep (turn par st a).words ((turn par st a).agents a) + 1 ≤ lone deep st.words (st.agents a)
lone_falls par N M down deep deeper st a l inv n =
    let s : Agent = st.agents a in
    let x : ℕ = node s in
    let u : Word = st.words x in
    let found : (y : ℕ) (h : Departure) (b : Back) → s ≡ dep y h b → Counted u = λ y h b e. subst (λ j. Counted (st.words j)) (sym (ap node e)) (departs_from_counted par N M st inv a l y h b e) in
    let low = lower_step par N down deep deeper st.words (par x) s u refl (inv.shaped a) (inv.roots x) found n in
    subst (λ t. lone deep (put st.words x (word_of (step (par x) s u))) t + 1 ≤ lone deep st.words s)
    (sym (put_same st.agents a (agent_of (step (par x) s u)) a refl)) low
