-- A counting forest: nodes with a word each, and agents that climb to the root and come back by turns.
-- In all of it, par gives the parent of each node.
--     Word, Role, Frame, Arrival, Departure, Back, Agent     a node's word, and an agent with what it remembers
--     Answer, Left, agent_of, word_of, answer_of             what a turn leaves: the agent, the word at its node, the answer
--     same, bump                     whether two words are one; the next version
--     step p s u                     one turn of the agent s, with p the parent of its node and u the word there
--     done, finish, climb, won_..    the cases of a turn: an arrival or a departure has ended, and what is won or lost
--     node s                         where an agent is
--     up p z                         1 where the parent p is z
--     weight, halves, count          of a word: all that it stands for; 1 if it is half; its count
--     kid u n                        n if the word u is counted
--     hold par s z, receipt a z      what an agent has at z that is not in a receipt; the receipt of an answer
--     pend s z t                     how often s owns the half word t at z
--     owns, meets, pends             of a role: 1 for the owner at its node; with the version of the word; both
--     Above par r x                  r is x or an ancestor of it
--     Chain par N x fs               the frames lead down from x, and their nodes are below N
--     Ok par N s                     an agent's shape: its frames are such a path, and its node is below N
--     Down par N                     parents stand before their children, which are below N
--     State                          the words, the receipts out and the agents
--     turn_at par st a, turn par st a     what a turn of a leaves, and the state after it
--     kids, held, pending            sums over all nodes and agents
--     Inv par N M st                 the invariant, of N nodes and M agents
--     aim s, Tells s t a             an agent's errand; what an answer says of it, from s to t
--     bottom x fs                    where the arrival with the frames fs above x began
--     Counted, Empty                 of a word
--     Elsewhere par r s              the agent has no errand in the tree of r
--     fresh, opened, sent, left_by   the first state, and the states after a call
use Rattle.std.specs.Prelude.{◌≡◌, ℕ, zero, suc, ◌+◌, ◌-◌, ◌*◌, ◌%◌, ◌<◌, ◌≤◌, Bool, true, false, cond, List, [], ◌∷◌, Some, None, Option, ◌==◌}
use Rattle.banks.specs.Counting.{put, one, sum}

-- the count of `counted n v` is one more than n, so that a count of 0 cannot be written; v is the version
pub data Word : Type 0 where
  empty : ℕ → Word
  half : ℕ → Word
  counted : ℕ → ℕ → Word

-- who made the word half, or who found it so
pub data Role : Type 0 where
  owner : Role
  helper : Role

-- a node to settle on the way down, the role there, and the version of its half word
pub data Frame : Type 0 where
  frame : ℕ → Role → ℕ → Frame

-- what an arrival does next: it reads the word, raises its count, opens it from empty, or settles it from half
pub data Arrival : Type 0 where
  reads : Arrival
  raises : ℕ → ℕ → Arrival
  opens : ℕ → Arrival
  settles : Role → ℕ → Arrival

-- what a departure does next: it looks at the word, or lowers its count
pub data Departure : Type 0 where
  looks : Departure
  lowers : ℕ → ℕ → Departure

-- what a departure goes back to: nothing, or an arrival that could not settle and now gives its parent back
pub data Back : Type 0 where
  leave : Back
  back : Role → ℕ → List Frame → Back

pub data Agent : Type 0 where
  idle : Agent
  arr : ℕ → Arrival → List Frame → Agent
  dep : ℕ → Departure → Back → Agent

-- an ended departure says whether the root was left empty
pub data Answer : Type 0 where
  going : Answer
  arrived : ℕ → Answer
  departed : Bool → Answer

pub data Left : Type 0 where
  left : Agent → Word → Answer → Left

abbrev pub agent_of : Left → Agent
agent_of (left s u a) = s

abbrev pub word_of : Left → Word
word_of (left s u a) = u

abbrev pub answer_of : Left → Answer
answer_of (left s u a) = a

abbrev pub same : Word → Word → Bool
same (empty a) (empty b) = a == b
same (empty a) (half b) = false
same (empty a) (counted m b) = false
same (half a) (empty b) = false
same (half a) (half b) = a == b
same (half a) (counted m b) = false
same (counted n a) (empty b) = false
same (counted n a) (half b) = false
same (counted n a) (counted m b) = cond (n == m) (a == b) false

abbrev pub bump : ℕ → ℕ
bump v = (v + 1) % 65536

-- an arrival has ended at x, with the frames fs below it
abbrev pub done : ℕ → List Frame → Word → Left
done x [] u = left idle u (arrived x)
done x (frame y r v ∷ fs) u = left (arr y (settles r v) fs) u going

-- a departure has ended, and left the root empty or not
abbrev pub finish : Back → Bool → Word → Left
finish leave e u = left idle u (departed e)
finish (back owner y fs) e u = done y fs u
finish (back helper y fs) e u = left (arr y reads fs) u going

-- on to the parent of x, with one more frame; a root is never half, so that it just reads again
abbrev pub climb : Option ℕ → ℕ → Role → ℕ → List Frame → Word → Left
climb None x r v fs u = left (arr x reads fs) u going
climb (Some q) x r v fs u = left (arr q reads (frame x r v ∷ fs)) u going

abbrev pub won_open : Option ℕ → ℕ → ℕ → List Frame → Left
won_open None x v fs = done x fs (counted 0 (bump v))
won_open (Some q) x v fs = left (arr q reads (frame x owner (bump v) ∷ fs)) (half (bump v)) going

abbrev pub won_settle : Role → ℕ → ℕ → List Frame → Left
won_settle owner x v fs = done x fs (counted 0 v)
won_settle helper x v fs = left (arr x reads fs) (counted 0 v) going

abbrev pub lost_settle : Option ℕ → Role → ℕ → ℕ → List Frame → Word → Left
lost_settle None r x v fs u = left (arr x (settles r v) fs) u going
lost_settle (Some q) r x v fs u = left (dep q looks (back r x fs)) u going

abbrev pub won_lower : Option ℕ → ℕ → ℕ → ℕ → Back → Left
won_lower None zero v x b = finish b true (empty v)
won_lower (Some q) zero v x b = left (dep q looks b) (empty v) going
won_lower None (suc n) v x b = finish b false (counted n v)
won_lower (Some q) (suc n) v x b = finish b false (counted n v)

-- a turn that finds another word than the one remembered writes nothing
abbrev pub step : Option ℕ → Agent → Word → Left
step p idle u = left idle u going
step p (arr x reads fs) (empty v) = left (arr x (opens v) fs) (empty v) going
step p (arr x reads fs) (half v) = climb p x helper v fs (half v)
step p (arr x reads fs) (counted n v) = left (arr x (raises n v) fs) (counted n v) going
step p (arr x (raises n v) fs) u = cond (same u (counted n v)) (done x fs (counted (suc n) v)) (left (arr x reads fs) u going)
step p (arr x (opens v) fs) u = cond (same u (empty v)) (won_open p x v fs) (left (arr x reads fs) u going)
step p (arr x (settles r v) fs) u = cond (same u (half v)) (won_settle r x v fs) (lost_settle p r x v fs u)
step p (dep x looks b) (empty v) = left (dep x looks b) (empty v) going
step p (dep x looks b) (half v) = left (dep x looks b) (half v) going
step p (dep x looks b) (counted n v) = left (dep x (lowers n v) b) (counted n v) going
step p (dep x (lowers n v) b) u = cond (same u (counted n v)) (won_lower p n v x b) (left (dep x looks b) u going)

abbrev pub node : Agent → ℕ
node idle = 0
node (arr x h fs) = x
node (dep x h b) = x

-- Counting

abbrev pub up : Option ℕ → ℕ → ℕ
up None z = 0
up (Some q) z = one q z

-- a half word stands for its owner
abbrev pub weight : Word → ℕ
weight (empty v) = 0
weight (half v) = 1
weight (counted n v) = suc n

abbrev pub count : Word → ℕ
count (empty v) = 0
count (half v) = 0
count (counted n v) = suc n

abbrev pub halves : Word → ℕ
halves (empty v) = 0
halves (half v) = 1
halves (counted n v) = 0

abbrev pub kid : Word → ℕ → ℕ
kid (empty v) n = 0
kid (half v) n = 0
kid (counted m v) n = n

abbrev pub owns : Role → ℕ → ℕ → ℕ
owns owner x z = one x z
owns helper x z = 0

abbrev pub hold_frames : List Frame → ℕ → ℕ
hold_frames [] z = 0
hold_frames (frame y r v ∷ fs) z = owns r y z + hold_frames fs z

-- an arrival that settles has its parent counted for it
abbrev pub hold_arrival : Option ℕ → ℕ → Arrival → ℕ → ℕ
hold_arrival p x reads z = 0
hold_arrival p x (raises n v) z = 0
hold_arrival p x (opens v) z = 0
hold_arrival p x (settles r v) z = owns r x z + up p z

abbrev pub hold_back : Back → ℕ → ℕ
hold_back leave z = 0
hold_back (back r y fs) z = owns r y z + hold_frames fs z

-- a departure has its node to lower
abbrev pub hold : (ℕ → Option ℕ) → Agent → ℕ → ℕ
hold par idle z = 0
hold par (arr x h fs) z = hold_arrival (par x) x h z + hold_frames fs z
hold par (dep x h b) z = one x z + hold_back b z

abbrev pub receipt : Answer → ℕ → ℕ
receipt going z = 0
receipt (arrived y) z = one y z
receipt (departed e) z = 0

-- 1 if the half word has the version v
abbrev pub meets : ℕ → Word → ℕ
meets v (empty a) = 0
meets v (half a) = one v a
meets v (counted n a) = 0

abbrev pub pends : Role → ℕ → ℕ → ℕ → Word → ℕ
pends owner x v z t = one x z * meets v t
pends helper x v z t = 0

abbrev pub pend_frames : List Frame → ℕ → Word → ℕ
pend_frames [] z t = 0
pend_frames (frame y r v ∷ fs) z t = pends r y v z t + pend_frames fs z t

abbrev pub pend_arrival : ℕ → Arrival → ℕ → Word → ℕ
pend_arrival x reads z t = 0
pend_arrival x (raises n v) z t = 0
pend_arrival x (opens v) z t = 0
pend_arrival x (settles r v) z t = pends r x v z t

-- an arrival that gives its parent back could not settle, so that it owns no half word at its node
abbrev pub pend_back : Back → ℕ → Word → ℕ
pend_back leave z t = 0
pend_back (back r y fs) z t = pend_frames fs z t

abbrev pub pend : Agent → ℕ → Word → ℕ
pend idle z t = 0
pend (arr x h fs) z t = pend_arrival x h z t + pend_frames fs z t
pend (dep x h b) z t = pend_back b z t

-- Shapes

pub data Above (par : ℕ → Option ℕ) (r : ℕ) : ℕ → Type 0 where
  top : (x : ℕ) → x ≡ r → Above par r x
  via : (x q : ℕ) → par x ≡ Some q → Above par r q → Above par r x

abbrev pub Chain : (ℕ → Option ℕ) → ℕ → ℕ → List Frame → Type 0
Chain par N x [] = Unit {0}
Chain par N x (frame y r v ∷ fs) = (par y ≡ Some x) × (y < N) × Chain par N y fs

abbrev pub OkArrival : Option ℕ → Arrival → Type 0
OkArrival p reads = Unit {0}
OkArrival p (raises n v) = Unit {0}
OkArrival p (opens v) = Unit {0}
OkArrival p (settles r v) = (q : ℕ) × (p ≡ Some q)

-- what x is given back for stands below x
abbrev pub OkBack : (ℕ → Option ℕ) → ℕ → ℕ → Back → Type 0
OkBack par N x leave = Unit {0}
OkBack par N x (back r y fs) = (y < N) × ((q : ℕ) × (par y ≡ Some q) × Above par x q) × Chain par N y fs

abbrev pub Ok : (ℕ → Option ℕ) → ℕ → Agent → Type 0
Ok par N idle = Unit {0}
Ok par N (arr x h fs) = (x < N) × OkArrival (par x) h × Chain par N x fs
Ok par N (dep x h b) = (x < N) × OkBack par N x b

abbrev pub Down : (ℕ → Option ℕ) → ℕ → Type 0
Down par N = (y q : ℕ) → par y ≡ Some q → (q < y) × (y < N)

-- States

pub record State : Type 0 where
  pub words : ℕ → Word
  pub outs : ℕ → ℕ
  pub agents : ℕ → Agent

abbrev pub kids : (ℕ → Option ℕ) → ℕ → (ℕ → Word) → ℕ → ℕ
kids par N w z = sum (λ y. kid (w y) (up (par y) z)) N

abbrev pub held : (ℕ → Option ℕ) → ℕ → (ℕ → Agent) → ℕ → ℕ
held par M s z = sum (λ a. hold par (s a) z) M

abbrev pub pending : ℕ → (ℕ → Agent) → ℕ → Word → ℕ
pending M s z t = sum (λ a. pend (s a) z t) M

pub record Inv (par : ℕ → Option ℕ) (N M : ℕ) (st : State) : Type 0 where
  -- the weight of a word is the receipts out, the counted children, and what agents hold
  pub counts : (z : ℕ) → weight (st.words z) ≡ st.outs z + kids par N st.words z + held par M st.agents z
  -- a half word has an owner
  pub owned : (z : ℕ) → halves (st.words z) ≤ pending M st.agents z (st.words z)
  pub shaped : (a : ℕ) → Ok par N (st.agents a)
  -- a root is never half
  pub roots : (z : ℕ) → par z ≡ None → halves (st.words z) ≡ 0

abbrev pub turn_at : (ℕ → Option ℕ) → State → ℕ → Left
turn_at par st a = step (par (node (st.agents a))) (st.agents a) (st.words (node (st.agents a)))

-- what the turn of a leaves is put into the state
abbrev pub after : State → ℕ → Left → State
after st a l = record { words = put st.words (node (st.agents a)) (word_of l); outs = (λ z. st.outs z + receipt (answer_of l) z); agents = put st.agents a (agent_of l) }

abbrev pub turn : (ℕ → Option ℕ) → State → ℕ → State
turn par st a = after st a (turn_at par st a)

-- Errands

pub data Aim : Type 0 where
  none : Aim
  arriving : ℕ → Aim
  departing : Aim

abbrev pub bottom : ℕ → List Frame → ℕ
bottom x [] = x
bottom x (frame y r v ∷ fs) = bottom y fs

abbrev pub aim_back : Back → Aim
aim_back leave = departing
aim_back (back r y fs) = arriving (bottom y fs)

abbrev pub aim : Agent → Aim
aim idle = none
aim (arr x h fs) = arriving (bottom x fs)
aim (dep x h b) = aim_back b

abbrev pub Tells : Agent → Agent → Answer → Type 0
Tells s t going = aim t ≡ aim s
Tells s t (arrived y) = (aim s ≡ arriving y) × (aim t ≡ none)
Tells s t (departed d) = (aim s ≡ departing) × (aim t ≡ none)

abbrev pub Counted : Word → Type 0
Counted (empty v) = ⊥
Counted (half v) = ⊥
Counted (counted n v) = Unit {0}

abbrev pub Empty : Word → Type 0
Empty (empty v) = Unit {0}
Empty (half v) = ⊥
Empty (counted n v) = ⊥

-- an arrival is where it began, a departure where it stands
abbrev pub Elsewhere : (ℕ → Option ℕ) → ℕ → Agent → Type 0
Elsewhere par r idle = Unit {0}
Elsewhere par r (arr x h fs) = Above par r (bottom x fs) → ⊥
Elsewhere par r (dep x h leave) = Above par r x → ⊥
Elsewhere par r (dep x h (back o y fs)) = Above par r (bottom y fs) → ⊥

-- Calls

abbrev pub fresh : State
fresh = record { words = (λ z. empty 0); outs = (λ z. 0); agents = (λ a. idle) }

-- the root r is opened, with a receipt out
abbrev pub opened : State → ℕ → State
opened st r = record { words = put st.words r (counted 0 0); outs = (λ z. st.outs z + one r z); agents = st.agents }

-- the agent a is sent to arrive at x
abbrev pub sent : State → ℕ → ℕ → State
sent st a x = record { words = st.words; outs = st.outs; agents = put st.agents a (arr x reads []) }

-- a receipt has left x, and the agent a departs with it
abbrev pub left_by : State → ℕ → ℕ → State
left_by st a x = record { words = st.words; outs = (λ z. st.outs z - one x z); agents = put st.agents a (dep x looks leave) }
