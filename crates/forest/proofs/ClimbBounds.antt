-- Bounds: of lone numbers, of frames, of holdings, of counts.
use Rattle.std.proofs.Common.{◌≡◌, ℕ, ◌+◌, ◌*◌, ◌<◌, ◌≤◌, List, [], ◌∷◌, length, Some, None, Option, refl, ap, inl, inr, mul-le-mul_left, mul-suc, mul-add, arith}
use Rattle.std.proofs.lemmas.Bool.{cond_both, cases_eq}
use Rattle.banks.specs.Counting.{one, sum}
use Rattle.forest.specs.Climb.{Word, empty, half, counted, Role, owner, helper, Frame, frame, Arrival, reads, raises, opens, settles, Departure, looks, lowers, leave}
use Rattle.forest.specs.Climb.{back, Agent, idle, arr, dep, same, up, weight, count, kid, owns, hold_frames, hold, Chain, Ok, Down, State}
use Rattle.forest.specs.Climb.{kids, Inv}
use Rattle.forest.specs.Lone.{cost_settle, first, cost_arrival, cost_departure, cost_frames, cost_back, lone, Deep}
use Rattle.forest.proofs.Counting.{one_other, one_le, sum_two}

-- Costs: n is between 1 and m
abbrev Within : ℕ → ℕ → Type 0
Within m n = (1 ≤ n) × (n ≤ m)

first_in : (k : ℕ) (u : Word) → Within (4 * k + 2) (first k u)
first_in k (empty v) = omega arith
first_in k (half v) = omega arith
first_in k (counted n v) = omega arith

cost_settle_in : (k : ℕ) (r : Role) (v : ℕ) (u : Word) → Within (6 * k + 3) (cost_settle k r v u)
cost_settle_in k owner v u = cond_both (same u (half v)) 1 (2 * k + 1) (Within (6 * k + 3)) (λ _. omega arith) (λ _. omega arith)
cost_settle_in k helper v u = cond_both (same u (half v)) 3 (6 * k + 3) (Within (6 * k + 3)) (λ _. omega arith) (λ _. omega arith)

cost_arrival_in : (k : ℕ) (h : Arrival) (u : Word) → Within (6 * k + 3) (cost_arrival k h u)
cost_arrival_in k reads u = let i = first_in k u in omega arith
cost_arrival_in k (raises n v) u = cond_both (same u (counted n v)) 1 (4 * k + 3) (Within (6 * k + 3)) (λ _. omega arith) (λ _. omega arith)
cost_arrival_in k (opens v) u = cond_both (same u (empty v)) (4 * k + 1) (4 * k + 3) (Within (6 * k + 3)) (λ _. omega arith) (λ _. omega arith)
cost_arrival_in k (settles r v) u = cost_settle_in k r v u

cost_departure_in : (k : ℕ) (h : Departure) (u : Word) → Within (2 * k + 3) (cost_departure k h u)
cost_departure_in k looks u = omega arith
cost_departure_in k (lowers n v) u = cond_both (same u (counted n v)) (2 * k + 1) (2 * k + 3) (Within (2 * k + 3)) (λ _. omega arith) (λ _. omega arith)

-- the lone number is 0 exactly of an idle agent
pub lone_zero : (deep : ℕ → ℕ) (w : ℕ → Word) (s : Agent) → (s ≡ idle → lone deep w s ≡ 0) × (lone deep w s ≡ 0 → s ≡ idle)
lone_zero deep w idle = (λ _. refl, λ _. refl)
lone_zero deep w (arr x h fs) = (λ e. ap (lone deep w) e, λ e. absurd (works e))
  where
    works : cost_arrival (deep x) h (w x) + cost_frames deep w fs ≡ 0 → ⊥
    works e = let i = cost_arrival_in (deep x) h (w x) in omega arith
lone_zero deep w (dep x h b) = (λ e. ap (lone deep w) e, λ e. absurd (works e))
  where
    works : cost_departure (deep x) h (w x) + cost_back deep w b ≡ 0 → ⊥
    works e = let i = cost_departure_in (deep x) h (w x) in omega arith

-- Depths

-- D is the greatest depth
module _ (par : ℕ → Option ℕ) (N : ℕ) (deep : ℕ → ℕ) (D : ℕ) (deeper : Deep par deep) (low : (y : ℕ) → deep y ≤ D) where
  pub chain_low : (x : ℕ) (fs : List Frame) → Chain par N x fs → deep x + length fs ≤ D
  chain_low x [] c = omega (arith, low x)
  chain_low x (frame y r v ∷ fs) c =
      let i : deep y + length fs ≤ D = chain_low y fs c.2 in
      omega (arith, deeper y x c.0)

  -- an agent at a node with a parent has room for a frame
  pub back_depth : (x : ℕ) (h : Departure) (r : Role) (y : ℕ) (fs : List Frame) → Ok par N (dep x h (back r y fs)) → length fs + 1 ≤ D
  back_depth x h r y fs c = let (q, e, a) = c.1.1 in omega (arith, deeper y q e, chain_low y fs c.1.2)

  -- c is the most that one node costs
  module _ (w : ℕ → Word) (c : ℕ) (most : c ≡ 6 * D + 3) where
    frames_in : (fs : List Frame) → cost_frames deep w fs ≤ c * length fs
    frames_in [] = omega arith
    frames_in (frame y r v ∷ fs) =
        let i : cost_frames deep w fs ≤ c * length fs = frames_in fs in
        omega (arith, cost_settle_in (deep y) r v (w y), low y, mul-suc c (length fs))

    back_in : (r : Role) (y : ℕ) (fs : List Frame) → cost_back deep w (back r y fs) ≤ 4 * deep y + 2 + cost_frames deep w fs
    back_in owner y fs = omega arith
    back_in helper y fs = omega arith

    lone_in : (s : Agent) → Ok par N s → lone deep w s ≤ c * (D + 1)
    lone_in idle k = omega arith
    lone_in (arr x h fs) k =
        let few : length fs ≤ D = omega (arith, chain_low x fs k.2) in
        omega (arith, cost_arrival_in (deep x) h (w x), low x, frames_in fs, mul-le-mul_left c few, mul-add c D 1)
    lone_in (dep x h leave) k = omega (arith, cost_departure_in (deep x) h (w x), low x, mul-add c D 1)
    lone_in (dep x h (back r y fs)) k =
        let few : length fs + 1 ≤ D = back_depth x h r y fs k in
        let costs : c * (length fs + 1) ≤ c * D = mul-le-mul_left c few in
        omega (arith, cost_departure_in (deep x) h (w x), low x, low y, back_in r y fs, frames_in fs, mul-add c (length fs) 1, mul-add c D 1)

pub lone_bounded : (par : ℕ → Option ℕ) (N M : ℕ) (deep : ℕ → ℕ) → Deep par deep → (D : ℕ) → ((y : ℕ) → deep y ≤ D) → (st : State) → Inv par N M st
    → (a : ℕ) → lone deep st.words (st.agents a) ≤ (6 * D + 3) * (D + 1)
lone_bounded par N M deep deeper D low st inv a =
    lone_in par N deep D deeper low st.words (6 * D + 3) refl (st.agents a) (inv.shaped a)

-- Holdings: an agent has at most two at any node

own_le : (r : Role) (x z : ℕ) → owns r x z ≤ one x z
own_le owner x z = omega arith
own_le helper x z = omega arith

frames_none : (par : ℕ → Option ℕ) (N : ℕ) → Down par N → (x : ℕ) (fs : List Frame) (z : ℕ) → z ≤ x → Chain par N x fs → hold_frames fs z ≡ 0
frames_none par N down x [] z l c = refl
frames_none par N down x (frame y r v ∷ fs) z l c =
    let b : x < y = (down y x c.0).0 in
    let i : hold_frames fs z ≡ 0 = frames_none par N down y fs z (omega arith) c.2 in
    omega (arith, own_le r y z, one_other y z (λ (q : y ≡ z). omega arith))

frames_one : (par : ℕ → Option ℕ) (N : ℕ) → Down par N → (x : ℕ) (fs : List Frame) (z : ℕ) → Chain par N x fs → hold_frames fs z ≤ 1
frames_one par N down x [] z c = omega arith
frames_one par N down x (frame y r v ∷ fs) z c = elim (cases_eq y z) [
  | inl e ↦ omega (arith, own_le r y z, one_le y z, frames_none par N down y fs z (omega arith) c.2)
  | inr n ↦ let i : hold_frames fs z ≤ 1 = frames_one par N down y fs z c.2 in omega (arith, own_le r y z, one_other y z n)
]

pub hold_two : (par : ℕ → Option ℕ) (N : ℕ) → Down par N → (s : Agent) (z : ℕ) → Ok par N s → hold par s z ≤ 2
hold_two par N down idle z c = omega arith
hold_two par N down (arr x reads fs) z c = omega (arith, frames_one par N down x fs z c.2)
hold_two par N down (arr x (raises n v) fs) z c = omega (arith, frames_one par N down x fs z c.2)
hold_two par N down (arr x (opens v) fs) z c = omega (arith, frames_one par N down x fs z c.2)
hold_two par N down (arr x (settles r v) fs) z c =
    let (q, e) = c.1 in
    let k : up (par x) z ≡ one q z = ap (λ o. up o z) e in
    elim (cases_eq x z) [
      | inl i ↦ omega (arith, own_le r x z, one_le x z, one_le q z, frames_none par N down x fs z (omega arith) c.2)
      | inr i ↦ omega (arith, own_le r x z, one_other x z i, one_le q z, frames_one par N down x fs z c.2)
    ]
hold_two par N down (dep x h leave) z c = omega (arith, one_le x z)
hold_two par N down (dep x h (back r y fs)) z c = elim (cases_eq y z) [
  | inl i ↦ omega (arith, one_le x z, own_le r y z, one_le y z, frames_none par N down y fs z (omega arith) c.1.2)
  | inr i ↦ omega (arith, one_le x z, own_le r y z, one_other y z i, frames_one par N down y fs z c.1.2)
]

-- Counts

pub kid_le : (u : Word) (n : ℕ) → kid u n ≤ n
kid_le (empty v) n = omega arith
kid_le (half v) n = omega arith
kid_le (counted m v) n = omega arith

pub up_le : (p : Option ℕ) (z : ℕ) → up p z ≤ 1
up_le None z = omega arith
up_le (Some q) z = one_le q z

count_weight : (u : Word) → count u ≤ weight u
count_weight (empty v) = omega arith
count_weight (half v) = omega arith
count_weight (counted n v) = omega arith

-- a count is at most what is out, the children, and two for each agent
pub count_bounded : (par : ℕ → Option ℕ) (N M : ℕ) → Down par N → (st : State) → Inv par N M st → (z : ℕ)
    → count (st.words z) ≤ st.outs z + kids par N st.words z + 2 * M
count_bounded par N M down st inv z =
    let f : ℕ → ℕ = λ a. hold par (st.agents a) z in
    let h : sum f M ≤ 2 * M = sum_two f M (λ a. hold_two par N down (st.agents a) z (inv.shaped a)) in
    omega (arith, inv.counts z, count_weight (st.words z))
