-- How many turns an agent still needs if no other moves: a number that falls with each of its own turns.
-- The depth of a node is k, or deep y; the words are w, or u at the node.
--     cost_settle k r v u                what a settling costs, by its role and the version that it remembers
--     first k u                          an arrival that reads
--     cost_arrival k h u, cost_departure k h u     what is left at the agent's own node and above it
--     cost_frames deep w fs, cost_back deep w b    what is left below
--     lone deep w s                      the lone number of the agent s
--     Deep par deep                      a node is deeper than its parent
use Rattle.std.specs.Prelude.{◌≡◌, ℕ, ◌+◌, ◌*◌, ◌≤◌, cond, List, [], ◌∷◌, Some, Option}
use Rattle.forest.specs.Climb.{Word, empty, half, counted, Role, owner, helper, Frame, frame, Arrival, reads, raises, opens, settles, Departure, looks, lowers, Back}
use Rattle.forest.specs.Climb.{leave, back, Agent, idle, arr, dep, same, node}

abbrev pub won_cost : Role → ℕ
won_cost owner = 1
won_cost helper = 3

abbrev pub lost_cost : ℕ → Role → ℕ
lost_cost k owner = 2 * k + 1
lost_cost k helper = 6 * k + 3

abbrev pub cost_settle : ℕ → Role → ℕ → Word → ℕ
cost_settle k r v u = cond (same u (half v)) (won_cost r) (lost_cost k r)

abbrev pub first : ℕ → Word → ℕ
first k (empty v) = 4 * k + 2
first k (half v) = 4 * k + 2
first k (counted n v) = 2

abbrev pub cost_arrival : ℕ → Arrival → Word → ℕ
cost_arrival k reads u = first k u
cost_arrival k (raises n v) u = cond (same u (counted n v)) 1 (4 * k + 3)
cost_arrival k (opens v) u = cond (same u (empty v)) (4 * k + 1) (4 * k + 3)
cost_arrival k (settles r v) u = cost_settle k r v u

abbrev pub cost_departure : ℕ → Departure → Word → ℕ
cost_departure k looks u = 2 * k + 2
cost_departure k (lowers n v) u = cond (same u (counted n v)) (2 * k + 1) (2 * k + 3)

abbrev pub cost_frames : (ℕ → ℕ) → (ℕ → Word) → List Frame → ℕ
cost_frames deep w [] = 0
cost_frames deep w (frame y r v ∷ fs) = cost_settle (deep y) r v (w y) + cost_frames deep w fs

abbrev pub cost_back : (ℕ → ℕ) → (ℕ → Word) → Back → ℕ
cost_back deep w leave = 0
cost_back deep w (back owner y fs) = cost_frames deep w fs
cost_back deep w (back helper y fs) = (4 * deep y + 2) + cost_frames deep w fs

abbrev pub lone_at : (ℕ → ℕ) → (ℕ → Word) → Agent → Word → ℕ
lone_at deep w idle u = 0
lone_at deep w (arr x h fs) u = cost_arrival (deep x) h u + cost_frames deep w fs
lone_at deep w (dep x h b) u = cost_departure (deep x) h u + cost_back deep w b

abbrev pub lone : (ℕ → ℕ) → (ℕ → Word) → Agent → ℕ
lone deep w s = lone_at deep w s (w (node s))

abbrev pub Deep : (ℕ → Option ℕ) → (ℕ → ℕ) → Type 0
Deep par deep = (y q : ℕ) → par y ≡ Some q → deep q + 1 ≤ deep y
