-- What an errand's phase says of its agent.
use Rattle.std.proofs.Common.{◌≡◌, ℕ, zero, suc, pred, ◌<◌, ◌≤◌, true, List, length, Some, Option, refl, arith}
use Rattle.words.specs.declared.kind.Kind.{Kind}
use Rattle.words.specs.declared.kind.Kind.TheVariants.{Empty, Half, Counted}
use Rattle.words.specs.declared.word.Word.{Word}
use Rattle.words.specs.Kinds.{least, most}
use Rattle.forest.specs.declared.errand.Errand.{Errand}
use Rattle.forest.specs.declared.errand.Frame.{Frame}
use Rattle.forest.specs.declared.errand.Phase.{Phase}
use Rattle.forest.specs.declared.errand.Phase.TheVariants.{Idle, Grow, Fork, Read, Raise, Open, Settle, Look, Lower}
use Rattle.forest.specs.Agents.{cell_by, frames_to, back_to, agent_by, agent, begins, doing_by, doing_of}
use Rattle.forest.specs.Climb as climb
use Rattle.forest.specs.Errands.{mounts}
use Rattle.forest.specs.Lone.{Deep}
use Rattle.banks.specs.Meaning.{Doing, idle, arriving, departing}
use Rattle.forest.proofs.ClimbBounds.{chain_low}
use Rattle.forest.proofs.Counting.{false_true}
use Rattle.forest.proofs.Moving.{moving, sinking}

-- what an agent is doing, by its aim; in the growth turns it is arriving
abbrev pub doing_as : ℕ → climb.Aim → ℕ → Doing
doing_as zero climb.none t = idle
doing_as zero (climb.arriving y) t = arriving t
doing_as zero climb.departing t = departing t
doing_as (suc n) m t = arriving t

by_aim : (p : Phase) (x : ℕ) (w : Word) (h : ℕ) (l : List Frame) (t : ℕ) → doing_by p h t ≡ doing_as (begins p) (climb.aim (agent_by p x w h l)) t
by_aim Idle x w h l t = refl
by_aim (Grow s c) x w h l t = refl
by_aim (Fork s) x w h l t = refl
by_aim Read x w h l t = refl
by_aim Raise x w h l t = refl
by_aim Open x w h l t = refl
by_aim Settle x w zero l t = refl
by_aim Settle x w (suc n) l t = refl
by_aim Look x w zero l t = refl
by_aim Look x w (suc n) l t = refl
by_aim Lower x w zero l t = refl
by_aim Lower x w (suc n) l t = refl

pub doing_is : (e : Errand) → doing_of e ≡ doing_as (begins e.phase) (climb.aim (agent e)) e.tally
doing_is e = by_aim e.phase e.node e.word e.waiting.height e.waiting.frames e.tally

-- an agent that moves is at its errand's node
at_node : (p : Phase) (x : ℕ) (w : Word) (h : ℕ) (l : List Frame) → moving p ≡ true → climb.node (agent_by p x w h l) ≡ x
at_node Idle x w h l m = absurd (false_true m)
at_node (Grow s c) x w h l m = absurd (false_true m)
at_node (Fork s) x w h l m = absurd (false_true m)
at_node Read x w h l m = refl
at_node Raise x w h l m = refl
at_node Open x w h l m = refl
at_node Settle x w zero l m = refl
at_node Settle x w (suc n) l m = refl
at_node Look x w h l m = refl
at_node Lower x w h l m = refl

pub node_is : (e : Errand) → moving e.phase ≡ true → climb.node (agent e) ≡ e.node
node_is e m = at_node e.phase e.node e.word e.waiting.height e.waiting.frames m

arr_awake : (x : ℕ) (h : climb.Arrival) (fs : List climb.Frame) → climb.arr x h fs ≡ climb.idle → ⊥
arr_awake x h fs e = let z : ◌≡◌ {A = ℕ} 0 1 = cc in omega arith

dep_awake : (x : ℕ) (h : climb.Departure) (b : climb.Back) → climb.dep x h b ≡ climb.idle → ⊥
dep_awake x h b e = let z : ◌≡◌ {A = ℕ} 0 1 = cc in omega arith

awake_by : (p : Phase) (x : ℕ) (w : Word) (h : ℕ) (l : List Frame) → moving p ≡ true → agent_by p x w h l ≡ climb.idle → ⊥
awake_by Idle x w h l m e = false_true m
awake_by (Grow s c) x w h l m e = false_true m
awake_by (Fork s) x w h l m e = false_true m
awake_by Read x w h l m e = arr_awake x _ _ e
awake_by Raise x w h l m e = arr_awake x _ _ e
awake_by Open x w h l m e = arr_awake x _ _ e
awake_by Settle x w zero l m e = arr_awake x _ _ e
awake_by Settle x w (suc n) l m e = arr_awake x _ _ e
awake_by Look x w h l m e = dep_awake x _ _ e
awake_by Lower x w h l m e = dep_awake x _ _ e

pub awake : (e : Errand) → moving e.phase ≡ true → agent e ≡ climb.idle → ⊥
awake e m = awake_by e.phase e.node e.word e.waiting.height e.waiting.frames m

-- an agent with an errand in the forest moves
moves_by : (p : Phase) (x : ℕ) (w : Word) (h : ℕ) (l : List Frame) → (climb.aim (agent_by p x w h l) ≡ climb.none → ⊥) → moving p ≡ true
moves_by Idle x w h l n = absurd (n refl)
moves_by (Grow s c) x w h l n = absurd (n refl)
moves_by (Fork s) x w h l n = absurd (n refl)
moves_by Read x w h l n = refl
moves_by Raise x w h l n = refl
moves_by Open x w h l n = refl
moves_by Settle x w h l n = refl
moves_by Look x w h l n = refl
moves_by Lower x w h l n = refl

pub moves_if : (e : Errand) → (climb.aim (agent e) ≡ climb.none → ⊥) → moving e.phase ≡ true
moves_if e = moves_by e.phase e.node e.word e.waiting.height e.waiting.frames

pub calm_moving : (p : Phase) → moving p ≡ true → begins p ≡ 0
calm_moving Idle m = refl
calm_moving (Grow s c) m = absurd (false_true m)
calm_moving (Fork s) m = absurd (false_true m)
calm_moving Read m = refl
calm_moving Raise m = refl
calm_moving Open m = refl
calm_moving Settle m = refl
calm_moving Look m = refl
calm_moving Lower m = refl

-- an agent that looks or lowers departs in the forest
sinks_by : (p : Phase) (x : ℕ) (w : Word) (h : ℕ) (l : List Frame) → sinking p ≡ true → (d : climb.Departure) × (agent_by p x w h l ≡ climb.dep x d (back_to l h))
sinks_by Idle x w h l m = absurd (false_true m)
sinks_by (Grow s c) x w h l m = absurd (false_true m)
sinks_by (Fork s) x w h l m = absurd (false_true m)
sinks_by Read x w h l m = absurd (false_true m)
sinks_by Raise x w h l m = absurd (false_true m)
sinks_by Open x w h l m = absurd (false_true m)
sinks_by Settle x w h l m = absurd (false_true m)
sinks_by Look x w h l m = (climb.looks, refl)
sinks_by Lower x w h l m = (climb.lowers (pred w.count) w.version, refl)

pub sinks : (e : Errand) → sinking e.phase ≡ true → (d : climb.Departure) × (agent e ≡ climb.dep e.node d (back_to e.waiting.frames e.waiting.height))
sinks e m = sinks_by e.phase e.node e.word e.waiting.height e.waiting.frames m

-- there is room for one frame more where the parent is climbed to
frames_long : (l : List Frame) (n : ℕ) → length (frames_to l n) ≡ n
frames_long l zero = refl
frames_long l (suc n) = let i : length (frames_to l n) ≡ n = frames_long l n in omega arith

module _ (par : ℕ → Option ℕ) (N : ℕ) (deep : ℕ → ℕ) (D : ℕ) (deeper : Deep par deep) (low : (y : ℕ) → deep y ≤ D) (few : D ≤ 16) where
  roomy : (x q : ℕ) (l : List Frame) (h : ℕ) → par x ≡ Some q → climb.Chain par N x (frames_to l h) → h < 16
  roomy x q l h e c = omega (arith, chain_low par N deep D deeper low x (frames_to l h) c, frames_long l h, deeper x q e)

  room_by : (p : Phase) (x : ℕ) (w : Word) (h : ℕ) (l : List Frame) → climb.Ok par N (agent_by p x w h l) → (q : ℕ) → par x ≡ Some q → mounts p ≡ true → h < 16
  room_by Idle x w h l ok q e m = absurd (false_true m)
  room_by (Grow s c) x w h l ok q e m = absurd (false_true m)
  room_by (Fork s) x w h l ok q e m = absurd (false_true m)
  room_by Read x w h l ok q e m = roomy x q l h e ok.2
  room_by Raise x w h l ok q e m = absurd (false_true m)
  room_by Open x w h l ok q e m = roomy x q l h e ok.2
  room_by Settle x w h l ok q e m = absurd (false_true m)
  room_by Look x w h l ok q e m = absurd (false_true m)
  room_by Lower x w h l ok q e m = absurd (false_true m)

  pub room_up : (e : Errand) → climb.Ok par N (agent e) → (q : ℕ) → par e.node ≡ Some q → mounts e.phase ≡ true → e.waiting.height < 16
  room_up e ok = room_by e.phase e.node e.word e.waiting.height e.waiting.frames ok

-- words
pub counted_kind : (k : Kind) (n v : ℕ) → climb.Counted (cell_by k n v) → k ≡ Counted
counted_kind Empty n v c = absurd c
counted_kind Half n v c = absurd c
counted_kind Counted n v c = refl

pub count_is : (k : Kind) (n v : ℕ) → least k ≤ n → n ≤ most k → n ≤ climb.count (cell_by k n v)
count_is Empty n v lo hi = omega arith
count_is Half n v lo hi = omega arith
count_is Counted n v lo hi = omega arith
