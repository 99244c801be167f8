-- What one turn does to the holdings: nothing is made or lost.
use Rattle.std.proofs.Common.{◌≡◌, ℕ, zero, suc, ◌+◌, ◌*◌, Bool, true, false, cond, eqb, List, [], ◌∷◌, Some, None, Option, sym, refl, ap, subst, arith}
use Rattle.std.proofs.lemmas.Bool.{eqb-true, cond_both}
use Rattle.banks.specs.Counting.{one}
use Rattle.forest.specs.Climb.{Word, empty, half, counted, Role, owner, helper, Frame, frame, reads, raises, opens, settles, looks, lowers, Back, leave, back, Agent}
use Rattle.forest.specs.Climb.{idle, arr, dep, Left, agent_of, word_of, answer_of, same, bump, done, finish, climb, won_open, won_settle, lost_settle, won_lower}
use Rattle.forest.specs.Climb.{step, node, up, weight, kid, hold_frames, hold_back, hold, receipt, Chain, OkBack, Ok}

pub same_true : (u t : Word) → same u t ≡ true → u ≡ t
same_true (empty a) (empty b) e = ap empty (eqb-true a b e)
same_true (empty a) (half b) e = cc
same_true (empty a) (counted m b) e = cc
same_true (half a) (empty b) e = cc
same_true (half a) (half b) e = ap half (eqb-true a b e)
same_true (half a) (counted m b) e = cc
same_true (counted n a) (empty b) e = cc
same_true (counted n a) (half b) e = cc
same_true (counted n a) (counted m b) e = go (eqb n m) refl e
  where
    go : (c : Bool) → eqb n m ≡ c → cond c (eqb a b) false ≡ true → counted n a ≡ counted m b
    go true p q = let i : n ≡ m = eqb-true n m p in let j : a ≡ b = eqb-true a b q in cc
    go false p q = cc

-- x is the node of the turn, u the word found there, s the agent before
abbrev pub Flow : (ℕ → Option ℕ) → ℕ → Agent → Word → ℕ → Left → Type 0
Flow par x s u z l =
    one x z * weight (word_of l) + hold par s z + kid u (up (par x) z)
    ≡ one x z * weight u + hold par (agent_of l) z + kid (word_of l) (up (par x) z) + receipt (answer_of l) z

flow_done : (par : ℕ → Option ℕ) (N x y : ℕ) (fs : List Frame) (w u : Word) (s : Agent) (z : ℕ) → Chain par N y fs
    → one x z * weight w + hold par s z + kid u (up (par x) z) ≡ one x z * weight u + (one y z + hold_frames fs z) + kid w (up (par x) z)
    → Flow par x s u z (done y fs w)
flow_done par N x y [] w u s z c h = omega arith
flow_done par N x y (frame t r v ∷ fs) w u s z c h =
    let e : up (par t) z ≡ one y z = ap (λ o. up o z) c.0 in omega arith

flow_finish : (par : ℕ → Option ℕ) (N x y : ℕ) (b : Back) (d : Bool) (w u : Word) (s : Agent) (z : ℕ) → OkBack par N y b
    → one x z * weight w + hold par s z + kid u (up (par x) z) ≡ one x z * weight u + hold_back b z + kid w (up (par x) z)
    → Flow par x s u z (finish b d w)
flow_finish par N x y leave d w u s z c h = omega arith
flow_finish par N x y (back owner t fs) d w u s z c h = flow_done par N x t fs w u s z c.2 h
flow_finish par N x y (back helper t fs) d w u s z c h = omega arith

flow_climb : (par : ℕ → Option ℕ) (p : Option ℕ) (x v : ℕ) (fs : List Frame) (z : ℕ)
    → Flow par x (arr x reads fs) (half v) z (climb p x helper v fs (half v))
flow_climb par None x v fs z = omega arith
flow_climb par (Some q) x v fs z = omega arith

flow_won_open : (par : ℕ → Option ℕ) (N : ℕ) (p : Option ℕ) (x v : ℕ) (fs : List Frame) (z : ℕ) → par x ≡ p → Chain par N x fs
    → Flow par x (arr x (opens v) fs) (empty v) z (won_open p x v fs)
flow_won_open par N None x v fs z e c =
    let k : up (par x) z ≡ 0 = ap (λ o. up o z) e in
    flow_done par N x x fs (counted 0 (bump v)) (empty v) (arr x (opens v) fs) z c (omega arith)
flow_won_open par N (Some q) x v fs z e c = omega arith

flow_won_settle : (par : ℕ → Option ℕ) (N : ℕ) (r : Role) (x v : ℕ) (fs : List Frame) (z : ℕ) → Chain par N x fs
    → Flow par x (arr x (settles r v) fs) (half v) z (won_settle r x v fs)
flow_won_settle par N owner x v fs z c =
    flow_done par N x x fs (counted 0 v) (half v) (arr x (settles owner v) fs) z c (omega arith)
flow_won_settle par N helper x v fs z c = omega arith

flow_lost_settle : (par : ℕ → Option ℕ) (N : ℕ) (p : Option ℕ) (r : Role) (x v : ℕ) (fs : List Frame) (u : Word) (z : ℕ) → par x ≡ p
    → Flow par x (arr x (settles r v) fs) u z (lost_settle p r x v fs u)
flow_lost_settle par N None r x v fs u z e = omega arith
flow_lost_settle par N (Some q) r x v fs u z e =
    let k : up (par x) z ≡ one q z = ap (λ o. up o z) e in omega arith

flow_won_lower : (par : ℕ → Option ℕ) (N : ℕ) (p : Option ℕ) (n v x : ℕ) (b : Back) (z : ℕ) → par x ≡ p → OkBack par N x b
    → Flow par x (dep x (lowers n v) b) (counted n v) z (won_lower p n v x b)
flow_won_lower par N None zero v x b z e c =
    let k : up (par x) z ≡ 0 = ap (λ o. up o z) e in
    flow_finish par N x x b true (empty v) (counted zero v) (dep x (lowers zero v) b) z c (omega arith)
flow_won_lower par N (Some q) zero v x b z e c =
    let k : up (par x) z ≡ one q z = ap (λ o. up o z) e in omega arith
flow_won_lower par N None (suc n) v x b z e c =
    flow_finish par N x x b false (counted n v) (counted (suc n) v) (dep x (lowers (suc n) v) b) z c (omega arith)
flow_won_lower par N (Some q) (suc n) v x b z e c =
    flow_finish par N x x b false (counted n v) (counted (suc n) v) (dep x (lowers (suc n) v) b) z c (omega arith)

-- a compare-and-set: what holds of the win at the remembered word, and of the loss at any other
pub cas : (P : Word → Left → Type 0) (u t : Word) (won lost : Left) → P t won → (same u t ≡ false → P u lost) → P u (cond (same u t) won lost)
cas P u t won lost h k =
    cond_both (same u t) won lost (λ l. P u l) (λ e. subst (λ w. P w won) (sym (same_true u t e)) h) k

pub flow : (par : ℕ → Option ℕ) (N : ℕ) (p : Option ℕ) (s : Agent) (u : Word) → par (node s) ≡ p → Ok par N s → (z : ℕ)
    → Flow par (node s) s u z (step p s u)
flow par N p idle u e c z = omega arith
flow par N p (arr x reads fs) (empty v) e c z = omega arith
flow par N p (arr x reads fs) (half v) e c z = flow_climb par p x v fs z
flow par N p (arr x reads fs) (counted n v) e c z = omega arith
flow par N p (arr x (raises n v) fs) u e c z =
    cas (λ w l. Flow par x (arr x (raises n v) fs) w z l) u (counted n v) _ _
    (flow_done par N x x fs (counted (suc n) v) (counted n v) (arr x (raises n v) fs) z c.2 (omega arith))
    (λ _. omega arith)
flow par N p (arr x (opens v) fs) u e c z =
    cas (λ w l. Flow par x (arr x (opens v) fs) w z l) u (empty v) _ _ (flow_won_open par N p x v fs z e c.2) (λ _. omega arith)
flow par N p (arr x (settles r v) fs) u e c z =
    cas (λ w l. Flow par x (arr x (settles r v) fs) w z l) u (half v) _ _ (flow_won_settle par N r x v fs z c.2)
    (λ _. flow_lost_settle par N p r x v fs u z e)
flow par N p (dep x looks b) (empty v) e c z = omega arith
flow par N p (dep x looks b) (half v) e c z = omega arith
flow par N p (dep x looks b) (counted n v) e c z = omega arith
flow par N p (dep x (lowers n v) b) u e c z =
    cas (λ w l. Flow par x (dep x (lowers n v) b) w z l) u (counted n v) _ _ (flow_won_lower par N p n v x b z e c.1) (λ _. omega arith)
