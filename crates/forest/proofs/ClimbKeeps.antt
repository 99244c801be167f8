-- What one turn does to pending owners, to the shape of the agent and to roots.
use Rattle.std.proofs.Common.{◌≡◌, ℕ, zero, suc, ◌<◌, ◌≤◌, Bool, true, false, ◌⊎◌, List, [], ◌∷◌, Some, None, Option, sym, refl, ap, inl, inr, arith}
use Rattle.std.proofs.lemmas.Bool.{eqb-false}
use Rattle.banks.specs.Counting.{one}
use Rattle.forest.specs.Climb.{Word, empty, half, counted, Role, owner, helper, Frame, frame, reads, raises, opens, settles, looks, lowers, Back, leave, back, Agent}
use Rattle.forest.specs.Climb.{idle, arr, dep, going, Left, left, agent_of, word_of, same, bump, done, finish, climb, won_open, won_settle, lost_settle, won_lower}
use Rattle.forest.specs.Climb.{step, node, halves, meets, pend_frames, pend_back, pend, top, Chain, OkArrival, OkBack, Ok, Down}
use Rattle.forest.proofs.Counting.{one_same, one_other, one_times, one_gone}
use Rattle.forest.proofs.ClimbTrees.{above_up}
use Rattle.forest.proofs.ClimbFlow.{cas}

-- Pending owners: x is the node of the turn, s the agent before, u the word found there

abbrev pub Keep : ℕ → Agent → Word → Left → Type 0
Keep x s u l =
    ((z : ℕ) (t : Word) → (x ≡ z → ⊥) → pend s z t ≤ pend (agent_of l) z t)
    × (((word_of l ≡ u) × (pend s x u ≤ pend (agent_of l) x u)) ⊎ (halves (word_of l) ≤ pend (agent_of l) x (word_of l)))

keep_done : (x y : ℕ) (s : Agent) (u : Word) (fs : List Frame) (w : Word) → halves w ≡ 0
    → ((z : ℕ) (t : Word) → (x ≡ z → ⊥) → pend s z t ≤ pend_frames fs z t) → Keep x s u (done y fs w)
keep_done x y s u [] w h k = (λ z t n. k z t n, inr (omega arith))
keep_done x y s u (frame q r v ∷ fs) w h k = (λ z t n. k z t n, inr (omega arith))

keep_finish : (x : ℕ) (s : Agent) (u : Word) (b : Back) (d : Bool) (w : Word) → halves w ≡ 0
    → ((z : ℕ) (t : Word) → (x ≡ z → ⊥) → pend s z t ≤ pend_back b z t) → Keep x s u (finish b d w)
keep_finish x s u leave d w h k = (λ z t n. k z t n, inr (omega arith))
keep_finish x s u (back owner y fs) d w h k = keep_done x y s u fs w h k
keep_finish x s u (back helper y fs) d w h k = (λ z t n. let i : pend s z t ≤ pend_frames fs z t = k z t n in omega arith, inr (omega arith))

meets_not : (v : ℕ) (u : Word) → same u (half v) ≡ false → meets v u ≡ 0
meets_not v (empty a) e = refl
meets_not v (half a) e = one_other v a (λ q. eqb-false a v e (sym q))
meets_not v (counted n a) e = refl

keep_climb : (p : Option ℕ) (x v : ℕ) (fs : List Frame) → Keep x (arr x reads fs) (half v) (climb p x helper v fs (half v))
keep_climb None x v fs = (λ z t n. omega arith, inl (refl, omega arith))
keep_climb (Some q) x v fs = (λ z t n. omega arith, inl (refl, omega arith))

keep_won_open : (p : Option ℕ) (x v : ℕ) (fs : List Frame) → Keep x (arr x (opens v) fs) (empty v) (won_open p x v fs)
keep_won_open None x v fs = keep_done x x (arr x (opens v) fs) (empty v) fs (counted 0 (bump v)) refl (λ z t n. omega arith)
keep_won_open (Some q) x v fs = (
  λ z t n. omega arith,
  inr (omega (arith, one_times x x (one (bump v) (bump v)) refl, one_same (bump v) (bump v) refl)),
)

keep_won_settle : (r : Role) (x v : ℕ) (fs : List Frame) → Keep x (arr x (settles r v) fs) (half v) (won_settle r x v fs)
keep_won_settle owner x v fs =
    keep_done x x (arr x (settles owner v) fs) (half v) fs (counted 0 v) refl (λ z t n. omega (arith, one_gone x z (meets v t) n))
keep_won_settle helper x v fs = (λ z t n. omega arith, inr (omega arith))

keep_lost_settle : (p : Option ℕ) (r : Role) (x v : ℕ) (fs : List Frame) (u : Word) → same u (half v) ≡ false
    → Keep x (arr x (settles r v) fs) u (lost_settle p r x v fs u)
keep_lost_settle None r x v fs u e = (λ z t n. omega arith, inl (refl, omega arith))
keep_lost_settle (Some q) owner x v fs u e = (
  λ z t n. omega (arith, one_gone x z (meets v t) n),
  inl (refl, omega (arith, one_times x x (meets v u) refl, meets_not v u e)),
)
keep_lost_settle (Some q) helper x v fs u e = (λ z t n. omega arith, inl (refl, omega arith))

keep_won_lower : (p : Option ℕ) (n v x : ℕ) (b : Back) → Keep x (dep x (lowers n v) b) (counted n v) (won_lower p n v x b)
keep_won_lower None zero v x b = keep_finish x (dep x (lowers zero v) b) (counted zero v) b true (empty v) refl (λ z t m. omega arith)
keep_won_lower (Some q) zero v x b = (λ z t m. omega arith, inr (omega arith))
keep_won_lower None (suc n) v x b = keep_finish x (dep x (lowers (suc n) v) b) (counted (suc n) v) b false (counted n v) refl (λ z t m. omega arith)
keep_won_lower (Some q) (suc n) v x b = keep_finish x (dep x (lowers (suc n) v) b) (counted (suc n) v) b false (counted n v) refl (λ z t m. omega arith)

pub keep : (p : Option ℕ) (s : Agent) (u : Word) → Keep (node s) s u (step p s u)
keep p idle u = (λ z t n. omega arith, inl (refl, omega arith))
keep p (arr x reads fs) (empty v) = (λ z t n. omega arith, inl (refl, omega arith))
keep p (arr x reads fs) (half v) = keep_climb p x v fs
keep p (arr x reads fs) (counted n v) = (λ z t n. omega arith, inl (refl, omega arith))
keep p (arr x (raises n v) fs) u =
    cas (λ w l. Keep x (arr x (raises n v) fs) w l) u (counted n v) _ _
    (keep_done x x (arr x (raises n v) fs) (counted n v) fs (counted (suc n) v) refl (λ z t m. omega arith))
    (λ _. (λ z t m. omega arith, inl (refl, omega arith)))
keep p (arr x (opens v) fs) u =
    cas (λ w l. Keep x (arr x (opens v) fs) w l) u (empty v) _ _ (keep_won_open p x v fs) (λ _. (λ z t m. omega arith, inl (refl, omega arith)))
keep p (arr x (settles r v) fs) u =
    cas (λ w l. Keep x (arr x (settles r v) fs) w l) u (half v) _ _ (keep_won_settle r x v fs) (λ e. keep_lost_settle p r x v fs u e)
keep p (dep x looks b) (empty v) = (λ z t n. omega arith, inl (refl, omega arith))
keep p (dep x looks b) (half v) = (λ z t n. omega arith, inl (refl, omega arith))
keep p (dep x looks b) (counted n v) = (λ z t n. omega arith, inl (refl, omega arith))
keep p (dep x (lowers n v) b) u =
    cas (λ w l. Keep x (dep x (lowers n v) b) w l) u (counted n v) _ _ (keep_won_lower p n v x b) (λ _. (λ z t m. omega arith, inl (refl, omega arith)))

-- The shape of an agent

ok_back_up : (par : ℕ → Option ℕ) (N x q : ℕ) (b : Back) → par x ≡ Some q → OkBack par N x b → OkBack par N q b
ok_back_up par N x q leave e c = tt
ok_back_up par N x q (back r y fs) e c = (c.0, (let (m, i, a) = c.1 in (m, i, above_up par x q e a)), c.2)

ok_done : (par : ℕ → Option ℕ) (N x : ℕ) (fs : List Frame) (u : Word) → Chain par N x fs → Ok par N (agent_of (done x fs u))
ok_done par N x [] u c = tt
ok_done par N x (frame y r v ∷ fs) u c = (c.1, (x, c.0), c.2)

ok_finish : (par : ℕ → Option ℕ) (N x : ℕ) (b : Back) (d : Bool) (u : Word) → OkBack par N x b → Ok par N (agent_of (finish b d u))
ok_finish par N x leave d u c = tt
ok_finish par N x (back owner y fs) d u c = ok_done par N y fs u c.2
ok_finish par N x (back helper y fs) d u c = (c.0, tt, c.2)

module _ (par : ℕ → Option ℕ) (N : ℕ) (down : Down par N) where
  ok_climb : (p : Option ℕ) (x : ℕ) (r : Role) (v : ℕ) (fs : List Frame) (u : Word) → par x ≡ p → x < N → Chain par N x fs
      → Ok par N (agent_of (climb p x r v fs u))
  ok_climb None x r v fs u e l c = (l, tt, c)
  ok_climb (Some q) x r v fs u e l c = (omega (arith, down x q e), tt, (e, l, c))

  ok_won_open : (p : Option ℕ) (x v : ℕ) (fs : List Frame) → par x ≡ p → x < N → Chain par N x fs → Ok par N (agent_of (won_open p x v fs))
  ok_won_open None x v fs e l c = ok_done par N x fs (counted 0 (bump v)) c
  ok_won_open (Some q) x v fs e l c = (omega (arith, down x q e), tt, (e, l, c))

  ok_won_settle : (r : Role) (x v : ℕ) (fs : List Frame) → x < N → Chain par N x fs → Ok par N (agent_of (won_settle r x v fs))
  ok_won_settle owner x v fs l c = ok_done par N x fs (counted 0 v) c
  ok_won_settle helper x v fs l c = (l, tt, c)

  ok_lost_settle : (p : Option ℕ) (r : Role) (x v : ℕ) (fs : List Frame) (u : Word) → par x ≡ p → x < N → OkArrival (par x) (settles r v) → Chain par N x fs
      → Ok par N (agent_of (lost_settle p r x v fs u))
  ok_lost_settle None r x v fs u e l a c = (l, a, c)
  ok_lost_settle (Some q) r x v fs u e l a c = (omega (arith, down x q e), (l, (q, e, top q refl), c))

  ok_won_lower : (p : Option ℕ) (n v x : ℕ) (b : Back) → par x ≡ p → x < N → OkBack par N x b → Ok par N (agent_of (won_lower p n v x b))
  ok_won_lower None zero v x b e l c = ok_finish par N x b true (empty v) c
  ok_won_lower (Some q) zero v x b e l c = (omega (arith, down x q e), ok_back_up par N x q b e c)
  ok_won_lower None (suc n) v x b e l c = ok_finish par N x b false (counted n v) c
  ok_won_lower (Some q) (suc n) v x b e l c = ok_finish par N x b false (counted n v) c

  pub ok_step : (p : Option ℕ) (s : Agent) (u : Word) → par (node s) ≡ p → Ok par N s → Ok par N (agent_of (step p s u))
  ok_step p idle u e c = tt
  ok_step p (arr x reads fs) (empty v) e c = (c.0, tt, c.2)
  ok_step p (arr x reads fs) (half v) e c = ok_climb p x helper v fs (half v) e c.0 c.2
  ok_step p (arr x reads fs) (counted n v) e c = (c.0, tt, c.2)
  ok_step p (arr x (raises n v) fs) u e c =
      cas (λ w l. Ok par N (agent_of l)) u (counted n v) _ _ (ok_done par N x fs (counted (suc n) v) c.2) (λ _. (c.0, tt, c.2))
  ok_step p (arr x (opens v) fs) u e c =
      cas (λ w l. Ok par N (agent_of l)) u (empty v) _ _ (ok_won_open p x v fs e c.0 c.2) (λ _. (c.0, tt, c.2))
  ok_step p (arr x (settles r v) fs) u e c =
      cas (λ w l. Ok par N (agent_of l)) u (half v) _ _ (ok_won_settle r x v fs c.0 c.2) (λ _. ok_lost_settle p r x v fs u e c.0 c.1 c.2)
  ok_step p (dep x looks b) (empty v) e c = c
  ok_step p (dep x looks b) (half v) e c = c
  ok_step p (dep x looks b) (counted n v) e c = c
  ok_step p (dep x (lowers n v) b) u e c =
      cas (λ w l. Ok par N (agent_of l)) u (counted n v) _ _ (ok_won_lower p n v x b e c.0 c.1) (λ _. c)

-- A root is never half

done_word : (x : ℕ) (fs : List Frame) (u : Word) → word_of (done x fs u) ≡ u
done_word x [] u = refl
done_word x (frame y r v ∷ fs) u = refl

finish_word : (b : Back) (d : Bool) (u : Word) → word_of (finish b d u) ≡ u
finish_word leave d u = refl
finish_word (back owner y fs) d u = done_word y fs u
finish_word (back helper y fs) d u = refl

root_won_settle : (r : Role) (x v : ℕ) (fs : List Frame) → halves (word_of (won_settle r x v fs)) ≡ 0
root_won_settle owner x v fs = ap halves (done_word x fs (counted 0 v))
root_won_settle helper x v fs = refl

root_won_lower : (n v x : ℕ) (b : Back) → halves (word_of (won_lower None n v x b)) ≡ 0
root_won_lower zero v x b = ap halves (finish_word b true (empty v))
root_won_lower (suc n) v x b = ap halves (finish_word b false (counted n v))

abbrev Unhalved : Word → Left → Type 0
Unhalved u l = halves u ≡ 0 → halves (word_of l) ≡ 0

pub root_step : (s : Agent) (u : Word) → halves u ≡ 0 → halves (word_of (step None s u)) ≡ 0
root_step idle u h = h
root_step (arr x reads fs) (empty v) h = h
root_step (arr x reads fs) (half v) h = h
root_step (arr x reads fs) (counted n v) h = h
root_step (arr x (raises n v) fs) u h =
    cas Unhalved u (counted n v) (done x fs (counted (suc n) v)) (left (arr x reads fs) u going) (λ _. ap halves (done_word x fs (counted (suc n) v))) (λ _ k. k) h
root_step (arr x (opens v) fs) u h =
    cas Unhalved u (empty v) (won_open None x v fs) (left (arr x reads fs) u going) (λ _. ap halves (done_word x fs (counted 0 (bump v)))) (λ _ k. k) h
root_step (arr x (settles r v) fs) u h =
    cas Unhalved u (half v) (won_settle r x v fs) (lost_settle None r x v fs u) (λ _. root_won_settle r x v fs) (λ _ k. k) h
root_step (dep x looks b) (empty v) h = h
root_step (dep x looks b) (half v) h = h
root_step (dep x looks b) (counted n v) h = h
root_step (dep x (lowers n v) b) u h =
    cas Unhalved u (counted n v) (won_lower None n v x b) (left (dep x looks b) u going) (λ _. root_won_lower n v x b) (λ _ k. k) h
