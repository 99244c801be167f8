-- What errands and words are in the counting forest.
--     cell w                         the word w
--     agent e                        the agent whose errand is e; in its growth turns it holds nothing there, so it is idle
--     after_of w r                   what a turn that found w and came to r leaves
--     doing_of e                     what the agent is doing at the bank
--     begins p                       1 in the growth turns, else 0
--     Fit e                          what e remembers suits its phase
use Rattle.std.specs.Prelude.{◌≡◌, ℕ, zero, suc, pred, ◌<◌, ◌≤◌, Bool, true, false, List, [], ◌∷◌, length, get_or, Some, None, Option, slice_index_or}
use Rattle.words.specs.declared.kind.Kind.{Kind}
use Rattle.words.specs.declared.kind.Kind.TheVariants.{Empty, Half, Counted}
use Rattle.words.specs.declared.word.Word.{Word}
use Rattle.forest.specs.declared.errand.After.{After}
use Rattle.forest.specs.declared.errand.Errand.{Errand}
use Rattle.forest.specs.declared.errand.Frame.{Frame}
use Rattle.forest.specs.declared.errand.Phase.{Phase}
use Rattle.forest.specs.declared.errand.Phase.TheVariants.{Idle, Grow, Fork, Read, Raise, Open, Settle, Look, Lower}
use Rattle.forest.specs.declared.errand.Role.{Role}
use Rattle.forest.specs.declared.errand.Role.TheVariants.{Owner, Helper}
use Rattle.forest.specs.declared.errand.Said.{Said}
use Rattle.forest.specs.declared.errand.Said.TheVariants as said
use Rattle.forest.specs.Climb as climb
use Rattle.forest.specs.Errands.{no_errand, idles, top}
use Rattle.forest.specs.Waits.{no_frame}
use Rattle.banks.specs.Meaning.{Doing, idle, arriving, departing}

abbrev pub cell_by : Kind → ℕ → ℕ → climb.Word
cell_by Empty n v = climb.empty v
cell_by Half n v = climb.half v
cell_by Counted n v = climb.counted (pred n) v

abbrev pub cell : Word → climb.Word
cell w = cell_by w.kind w.count w.version

abbrev pub role_of : Role → climb.Role
role_of Owner = climb.owner
role_of Helper = climb.helper

abbrev pub frame_of : Frame → climb.Frame
frame_of f = climb.frame f.node (role_of f.role) f.word.version

-- the first n frames, the newest first
abbrev pub frames_to : List Frame → ℕ → List climb.Frame
frames_to l zero = []
frames_to l (suc n) = frame_of (slice_index_or l n no_frame) ∷ frames_to l n

-- at the newest frame, whose half word of version v is settled next
abbrev pub settler : ℕ → ℕ → List Frame → ℕ → climb.Agent
settler x v l zero = climb.arr x (climb.settles climb.owner v) []
settler x v l (suc n) = climb.arr x (climb.settles (role_of (get_or l n no_frame).role) v) (frames_to l n)

-- what a departure goes back to: nothing, or the newest frame, whose settling was lost
abbrev pub back_to : List Frame → ℕ → climb.Back
back_to l zero = climb.leave
back_to l (suc n) = climb.back (role_of (get_or l n no_frame).role) (get_or l n no_frame).node (frames_to l n)

abbrev pub agent_by : Phase → ℕ → Word → ℕ → List Frame → climb.Agent
agent_by Idle x w h l = climb.idle
agent_by (Grow s c) x w h l = climb.idle
agent_by (Fork s) x w h l = climb.idle
agent_by Read x w h l = climb.arr x climb.reads (frames_to l h)
agent_by Raise x w h l = climb.arr x (climb.raises (pred w.count) w.version) (frames_to l h)
agent_by Open x w h l = climb.arr x (climb.opens w.version) (frames_to l h)
agent_by Settle x w h l = settler x w.version l h
agent_by Look x w h l = climb.dep x climb.looks (back_to l h)
agent_by Lower x w h l = climb.dep x (climb.lowers (pred w.count) w.version) (back_to l h)

abbrev pub agent : Errand → climb.Agent
agent e = agent_by e.phase e.node e.word e.waiting.height e.waiting.frames

abbrev pub said_of : Said → climb.Answer
said_of said.Going = climb.going
said_of (said.Arrived x) = climb.arrived x
said_of (said.Departed d) = climb.departed d

abbrev pub written : Word → Option Word → Word
written w None = w
written w (Some v) = v

abbrev pub after_of : Word → After → climb.Left
after_of w r = climb.left (agent r.errand) (cell (written w r.write)) (said_of r.said)

abbrev pub begins : Phase → ℕ
begins Idle = 0
begins (Grow s c) = 1
begins (Fork s) = 1
begins Read = 0
begins Raise = 0
begins Open = 0
begins Settle = 0
begins Look = 0
begins Lower = 0

-- an agent that looks or lowers departs for itself where no node waits for it
abbrev pub leaving : ℕ → ℕ → Doing
leaving zero t = departing t
leaving (suc n) t = arriving t

abbrev pub doing_by : Phase → ℕ → ℕ → Doing
doing_by Idle h t = idle
doing_by (Grow s c) h t = arriving t
doing_by (Fork s) h t = arriving t
doing_by Read h t = arriving t
doing_by Raise h t = arriving t
doing_by Open h t = arriving t
doing_by Settle h t = arriving t
doing_by Look h t = leaving h t
doing_by Lower h t = leaving h t

abbrev pub doing_of : Errand → Doing
doing_of e = doing_by e.phase e.waiting.height e.tally

abbrev pub half? : Kind → Bool
half? Empty = false
half? Half = true
half? Counted = false

-- the kinds of word that an errand remembers in a phase
abbrev pub suits : Phase → Kind → Bool
suits Idle k = true
suits (Grow s c) k = true
suits (Fork s) k = true
suits Read k = true
suits Raise Empty = false
suits Raise Half = false
suits Raise Counted = true
suits Open Empty = true
suits Open Half = false
suits Open Counted = false
suits Settle k = half? k
suits Look k = true
suits Lower Empty = false
suits Lower Half = false
suits Lower Counted = true

pub record Fit (e : Errand) : Type 0 where
  pub size : length e.waiting.frames ≡ 16
  pub short : e.waiting.height ≤ 16
  pub word : suits e.phase e.word.kind ≡ true
  -- the words of the nodes that wait are half
  pub halves : (i : ℕ) → i < e.waiting.height → half? (get_or e.waiting.frames i no_frame).word.kind ≡ true
  pub settles : e.phase ≡ Settle → (0 < e.waiting.height) × (e.node ≡ (top e).node)
  -- an idle agent remembers nothing
  pub rests : idles e.phase ≡ true → e ≡ no_errand
  -- no node waits in the growth turns
  pub flat : begins e.phase ≡ 1 → e.waiting.height ≡ 0
