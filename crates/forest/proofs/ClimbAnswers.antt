-- What a turn answers, and what the answer says of the agent and its node.
use Rattle.std.proofs.Common.{◌≡◌, ℕ, zero, suc, ◌<◌, Bool, true, false, ◌⊎◌, List, [], ◌∷◌, Some, None, Option, sym, refl, ◌∙◌, subst, inl, inr, arith}
use Rattle.forest.specs.Climb.{Word, empty, half, counted, Role, owner, helper, Frame, frame, reads, raises, opens, settles, Departure, looks, lowers, Back, leave}
use Rattle.forest.specs.Climb.{back, Agent, idle, arr, dep, Answer, going, arrived, departed, Left, agent_of, word_of, answer_of, bump, done, finish, climb, won_open}
use Rattle.forest.specs.Climb.{won_settle, lost_settle, won_lower, step, node, weight, Ok, Aim, none, arriving, departing, bottom, aim_back, aim, Tells, Counted}
use Rattle.forest.proofs.Counting.{never}
use Rattle.forest.proofs.ClimbTrees.{aims_in}
use Rattle.forest.proofs.ClimbFlow.{cas}

-- What becomes of the errand

abbrev pub Told : Agent → Left → Type 0
Told s l = Tells s (agent_of l) (answer_of l)

tells_done : (s : Agent) (y : ℕ) (fs : List Frame) (u : Word) → aim s ≡ arriving (bottom y fs) → Told s (done y fs u)
tells_done s y [] u e = (e, refl)
tells_done s y (frame x r v ∷ fs) u e = sym e

tells_finish : (s : Agent) (b : Back) (d : Bool) (u : Word) → aim s ≡ aim_back b → Told s (finish b d u)
tells_finish s leave d u e = (e, refl)
tells_finish s (back owner y fs) d u e = tells_done s y fs u e
tells_finish s (back helper y fs) d u e = sym e

tells_climb : (p : Option ℕ) (x : ℕ) (r : Role) (v : ℕ) (fs : List Frame) (u : Word) → Told (arr x reads fs) (climb p x r v fs u)
tells_climb None x r v fs u = refl
tells_climb (Some q) x r v fs u = refl

tells_won_open : (p : Option ℕ) (x v : ℕ) (fs : List Frame) → Told (arr x (opens v) fs) (won_open p x v fs)
tells_won_open None x v fs = tells_done (arr x (opens v) fs) x fs (counted 0 (bump v)) refl
tells_won_open (Some q) x v fs = refl

tells_won_settle : (r : Role) (x v : ℕ) (fs : List Frame) → Told (arr x (settles r v) fs) (won_settle r x v fs)
tells_won_settle owner x v fs = tells_done (arr x (settles owner v) fs) x fs (counted 0 v) refl
tells_won_settle helper x v fs = refl

tells_lost_settle : (p : Option ℕ) (r : Role) (x v : ℕ) (fs : List Frame) (u : Word) → Told (arr x (settles r v) fs) (lost_settle p r x v fs u)
tells_lost_settle None r x v fs u = refl
tells_lost_settle (Some q) r x v fs u = refl

tells_won_lower : (p : Option ℕ) (n v x : ℕ) (b : Back) → Told (dep x (lowers n v) b) (won_lower p n v x b)
tells_won_lower None zero v x b = tells_finish (dep x (lowers zero v) b) b true (empty v) refl
tells_won_lower (Some q) zero v x b = refl
tells_won_lower None (suc n) v x b = tells_finish (dep x (lowers (suc n) v) b) b false (counted n v) refl
tells_won_lower (Some q) (suc n) v x b = tells_finish (dep x (lowers (suc n) v) b) b false (counted n v) refl

pub tells_step : (p : Option ℕ) (s : Agent) (u : Word) → Told s (step p s u)
tells_step p idle u = refl
tells_step p (arr x reads fs) (empty v) = refl
tells_step p (arr x reads fs) (half v) = tells_climb p x helper v fs (half v)
tells_step p (arr x reads fs) (counted n v) = refl
tells_step p (arr x (raises n v) fs) u =
    cas (λ w l. Told (arr x (raises n v) fs) l) u (counted n v) _ _ (tells_done (arr x (raises n v) fs) x fs (counted (suc n) v) refl) (λ _. refl)
tells_step p (arr x (opens v) fs) u = cas (λ w l. Told (arr x (opens v) fs) l) u (empty v) _ _ (tells_won_open p x v fs) (λ _. refl)
tells_step p (arr x (settles r v) fs) u =
    cas (λ w l. Told (arr x (settles r v) fs) l) u (half v) _ _ (tells_won_settle r x v fs) (λ _. tells_lost_settle p r x v fs u)
tells_step p (dep x looks b) (empty v) = refl
tells_step p (dep x looks b) (half v) = refl
tells_step p (dep x looks b) (counted n v) = refl
tells_step p (dep x (lowers n v) b) u = cas (λ w l. Told (dep x (lowers n v) b) l) u (counted n v) _ _ (tells_won_lower p n v x b) (λ _. refl)

-- The aim of an agent

-- an agent that has an aim after its turn had it before
still : (s t : Agent) (a : Answer) (m : Aim) → Tells s t a → (none ≡ m → ⊥) → aim t ≡ m → aim s ≡ m
still s t going m h n e = sym h ∙ e
still s t (arrived x) m h n e = absurd (n (sym h.1 ∙ e))
still s t (departed d) m h n e = absurd (n (sym h.1 ∙ e))

pub still_arriving : (s t : Agent) (a : Answer) (y : ℕ) → Tells s t a → aim t ≡ arriving y → aim s ≡ arriving y
still_arriving s t a y h = still s t a (arriving y) h (λ q. let z : ◌≡◌ {A = ℕ} 0 1 = cc in omega arith)

pub still_departing : (s t : Agent) (a : Answer) → Tells s t a → aim t ≡ departing → aim s ≡ departing
still_departing s t a h = still s t a departing h (λ q. let z : ◌≡◌ {A = ℕ} 0 1 = cc in omega arith)

-- the place of an ended arrival is one of the N
abbrev pub Room : ℕ → Answer → Type 0
Room N going = Unit {0}
Room N (arrived y) = y < N
Room N (departed d) = Unit {0}

pub room : (par : ℕ → Option ℕ) (N : ℕ) (s t : Agent) (a : Answer) → Ok par N s → Tells s t a → Room N a
room par N s t going c h = tt
room par N s t (arrived y) c h = aims_in par N s y c h.0
room par N s t (departed d) c h = tt

-- A departure of one's own

pub leaving : (s : Agent) → aim s ≡ departing → (h : Departure) × (s ≡ dep (node s) h leave)
leaving idle e = let z : ◌≡◌ {A = ℕ} 0 1 = cc in never z
leaving (arr x h fs) e = let z : ◌≡◌ {A = ℕ} 0 1 = cc in never z
leaving (dep x h leave) e = (h, refl)
leaving (dep x h (back r y fs)) e = let z : ◌≡◌ {A = ℕ} 0 1 = cc in never z

abbrev Goes_on : Option ℕ → ℕ → Agent → Type 0
Goes_on p x t = aim t ≡ departing → (node t ≡ x) ⊎ (p ≡ Some (node t))

goes_on : (p : Option ℕ) (x : ℕ) (h : Departure) (u : Word) → Goes_on p x (agent_of (step p (dep x h leave) u))
goes_on p x looks (empty v) = λ _. inl refl
goes_on p x looks (half v) = λ _. inl refl
goes_on p x looks (counted n v) = λ _. inl refl
goes_on p x (lowers n v) u = cas (λ w l. Goes_on p x (agent_of l)) u (counted n v) _ _ (won p n) (λ _ _. inl refl)
  where
    won : (p : Option ℕ) (n : ℕ) → Goes_on p x (agent_of (won_lower p n v x leave))
    won None zero = λ e. let z : ◌≡◌ {A = ℕ} 0 1 = cc in never z
    won (Some q) zero = λ e. inr refl
    won None (suc n) = λ e. let z : ◌≡◌ {A = ℕ} 0 1 = cc in never z
    won (Some q) (suc n) = λ e. let z : ◌≡◌ {A = ℕ} 0 1 = cc in never z

-- an agent that goes on with a departure of its own stays at its node or goes on to the parent
pub departs_on : (p : Option ℕ) (s : Agent) (u : Word) → aim (agent_of (step p s u)) ≡ departing
    → (aim s ≡ departing) × ((node (agent_of (step p s u)) ≡ node s) ⊎ (p ≡ Some (node (agent_of (step p s u)))))
departs_on p s u e =
    let i : aim s ≡ departing = still_departing s (agent_of (step p s u)) (answer_of (step p s u)) (tells_step p s u) e in
    let (h, q) = leaving s i in
    (i, subst (λ k. Goes_on p (node s) (agent_of (step p k u))) (sym q) (goes_on p (node s) h u) e)

-- What an ended departure says, with p the parent of the node and w the word left there

abbrev pub Drains : Option ℕ → Word → Answer → Type 0
Drains p w going = Unit {0}
Drains p w (arrived y) = Unit {0}
Drains p w (departed true) = (p ≡ None) × (weight w ≡ 0)
Drains p w (departed false) = Counted w

abbrev pub Drain : Option ℕ → Left → Type 0
Drain p l = Drains p (word_of l) (answer_of l)

drains_done : (p : Option ℕ) (y : ℕ) (fs : List Frame) (w : Word) → Drain p (done y fs w)
drains_done p y [] w = tt
drains_done p y (frame x r v ∷ fs) w = tt

drains_finish : (p : Option ℕ) (b : Back) (d : Bool) (w : Word) → Drains p w (departed d) → Drain p (finish b d w)
drains_finish p leave d w h = h
drains_finish p (back owner y fs) d w h = drains_done p y fs w
drains_finish p (back helper y fs) d w h = tt

drains_climb : (p q : Option ℕ) (x : ℕ) (r : Role) (v : ℕ) (fs : List Frame) (u : Word) → Drain p (climb q x r v fs u)
drains_climb p None x r v fs u = tt
drains_climb p (Some q) x r v fs u = tt

drains_won_open : (p q : Option ℕ) (x v : ℕ) (fs : List Frame) → Drain p (won_open q x v fs)
drains_won_open p None x v fs = drains_done p x fs (counted 0 (bump v))
drains_won_open p (Some q) x v fs = tt

drains_won_settle : (p : Option ℕ) (r : Role) (x v : ℕ) (fs : List Frame) → Drain p (won_settle r x v fs)
drains_won_settle p owner x v fs = drains_done p x fs (counted 0 v)
drains_won_settle p helper x v fs = tt

drains_lost_settle : (p q : Option ℕ) (r : Role) (x v : ℕ) (fs : List Frame) (u : Word) → Drain p (lost_settle q r x v fs u)
drains_lost_settle p None r x v fs u = tt
drains_lost_settle p (Some q) r x v fs u = tt

drains_won_lower : (p : Option ℕ) (n v x : ℕ) (b : Back) → Drain p (won_lower p n v x b)
drains_won_lower None zero v x b = drains_finish None b true (empty v) (refl, refl)
drains_won_lower (Some q) zero v x b = tt
drains_won_lower None (suc n) v x b = drains_finish None b false (counted n v) tt
drains_won_lower (Some q) (suc n) v x b = drains_finish (Some q) b false (counted n v) tt

pub drains_step : (p : Option ℕ) (s : Agent) (u : Word) → Drain p (step p s u)
drains_step p idle u = tt
drains_step p (arr x reads fs) (empty v) = tt
drains_step p (arr x reads fs) (half v) = drains_climb p p x helper v fs (half v)
drains_step p (arr x reads fs) (counted n v) = tt
drains_step p (arr x (raises n v) fs) u = cas (λ w l. Drain p l) u (counted n v) _ _ (drains_done p x fs (counted (suc n) v)) (λ _. tt)
drains_step p (arr x (opens v) fs) u = cas (λ w l. Drain p l) u (empty v) _ _ (drains_won_open p p x v fs) (λ _. tt)
drains_step p (arr x (settles r v) fs) u = cas (λ w l. Drain p l) u (half v) _ _ (drains_won_settle p r x v fs) (λ _. drains_lost_settle p p r x v fs u)
drains_step p (dep x looks b) (empty v) = tt
drains_step p (dep x looks b) (half v) = tt
drains_step p (dep x looks b) (counted n v) = tt
drains_step p (dep x (lowers n v) b) u = cas (λ w l. Drain p l) u (counted n v) _ _ (drains_won_lower p n v x b) (λ _. tt)
