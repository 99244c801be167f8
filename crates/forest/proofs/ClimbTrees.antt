-- Ancestors, and where an agent and its holdings are.
use Rattle.std.proofs.Common.{◌≡◌, ℕ, ◌+◌, ◌<◌, ◌⊎◌, List, [], ◌∷◌, Some, Option, sym, refl, ap, ◌∙◌, subst, inl, inr, arith}
use Rattle.banks.specs.Counting.{one}
use Rattle.forest.specs.Climb.{Role, owner, helper, Frame, frame, Arrival, reads, raises, opens, settles, leave, back, Agent, idle, arr, dep, node, up, owns}
use Rattle.forest.specs.Climb.{hold_frames, hold_arrival, hold, Above, top, via, Chain, OkArrival, OkBack, Ok, arriving, bottom, aim, Elsewhere}
use Rattle.forest.proofs.Counting.{never, one_cases}

pub above_up : (par : ℕ → Option ℕ) (x q : ℕ) → par x ≡ Some q → {y : ℕ} → Above par x y → Above par q y
above_up par x q e (top y h) = via y q (ap par h ∙ e) (top q refl)
above_up par x q e (via y m h a) = via y m h (above_up par x q e a)

pub above_trans : (par : ℕ → Option ℕ) (r z : ℕ) → Above par r z → {y : ℕ} → Above par z y → Above par r y
above_trans par r z b (top y e) = subst (Above par r) (sym e) b
above_trans par r z b (via y q e a) = via y q e (above_trans par r z b a)

-- an arrival began below where it is
pub chain_above : (par : ℕ → Option ℕ) (N x : ℕ) (fs : List Frame) → Chain par N x fs → Above par x (bottom x fs)
chain_above par N x [] c = top x refl
chain_above par N x (frame y r v ∷ fs) c = above_up par y x c.0 (chain_above par N y fs c.2)

-- an agent that gives its node back is above the node that it does so for
pub back_above : (par : ℕ → Option ℕ) (N x : ℕ) (r : Role) (y : ℕ) (fs : List Frame) → OkBack par N x (back r y fs) → Above par x y
back_above par N x r y fs c = let (q, e, a) = c.1 in via y q e a

-- Where an agent is: its nodes are among the N, and above where it began

pub bottom_in : (par : ℕ → Option ℕ) (N x : ℕ) (fs : List Frame) → x < N → Chain par N x fs → bottom x fs < N
bottom_in par N x [] l c = l
bottom_in par N x (frame y r v ∷ fs) l c = bottom_in par N y fs c.1 c.2

pub aims_in : (par : ℕ → Option ℕ) (N : ℕ) (s : Agent) (y : ℕ) → Ok par N s → aim s ≡ arriving y → y < N
aims_in par N idle y c e = let z : ◌≡◌ {A = ℕ} 0 1 = cc in omega arith
aims_in par N (arr x h fs) y c e = let i : bottom x fs ≡ y = cc in subst (λ j. j < N) i (bottom_in par N x fs c.0 c.2)
aims_in par N (dep x h leave) y c e = let z : ◌≡◌ {A = ℕ} 0 1 = cc in omega arith
aims_in par N (dep x h (back r t fs)) y c e = let i : bottom t fs ≡ y = cc in subst (λ j. j < N) i (bottom_in par N t fs c.1.0 c.1.2)

pub node_in : (par : ℕ → Option ℕ) (N : ℕ) (s : Agent) → Ok par N s → (s ≡ idle → ⊥) → node s < N
node_in par N idle c n = absurd (n refl)
node_in par N (arr x h fs) c n = c.0
node_in par N (dep x h b) c n = c.0

pub below_node : (par : ℕ → Option ℕ) (N : ℕ) (s : Agent) → Ok par N s → (y : ℕ) → aim s ≡ arriving y → Above par (node s) y
below_node par N idle c y e = let z : ◌≡◌ {A = ℕ} 0 1 = cc in never z
below_node par N (arr x h fs) c y e = let i : bottom x fs ≡ y = cc in subst (Above par x) i (chain_above par N x fs c.2)
below_node par N (dep x h leave) c y e = let z : ◌≡◌ {A = ℕ} 0 1 = cc in never z
below_node par N (dep x h (back r t fs)) c y e =
    let i : bottom t fs ≡ y = cc in
    subst (Above par x) i (above_trans par x t (back_above par N x r t fs c.1) (chain_above par N t fs c.1.2))

-- Where its holdings are

module _ (par : ℕ → Option ℕ) (N z : ℕ) where
  -- n is 0, or z is above the place b
  abbrev Near : ℕ → ℕ → Type 0
  Near n b = (n ≡ 0) ⊎ Above par z b

  near_add : (m n b : ℕ) → Near m b → Near n b → Near (m + n) b
  near_add m n b (inl e) (inl f) = inl (omega arith)
  near_add m n b (inl e) (inr f) = inr f
  near_add m n b (inr e) k = inr e

  near_one : (x b : ℕ) → Above par x b → Near (one x z) b
  near_one x b a = elim (one_cases x z) [ inl e ↦ inl e | inr e ↦ inr (subst (λ j. Above par j b) e.1 a) ]

  near_own : (r : Role) (x b : ℕ) → Above par x b → Near (owns r x z) b
  near_own owner x b a = near_one x b a
  near_own helper x b a = inl refl

  near_frames : (x : ℕ) (fs : List Frame) → Chain par N x fs → Near (hold_frames fs z) (bottom x fs)
  near_frames x [] c = inl refl
  near_frames x (frame y r v ∷ fs) c =
      near_add (owns r y z) (hold_frames fs z) (bottom y fs) (near_own r y (bottom y fs) (chain_above par N y fs c.2)) (near_frames y fs c.2)

  near_arrival : (x : ℕ) (h : Arrival) (b : ℕ) → OkArrival (par x) h → Above par x b → Near (hold_arrival (par x) x h z) b
  near_arrival x reads b c a = inl refl
  near_arrival x (raises n v) b c a = inl refl
  near_arrival x (opens v) b c a = inl refl
  near_arrival x (settles r v) b (q, e) a =
      let parent : Near (up (par x) z) b = subst (λ o. Near (up o z) b) (sym e) (near_one q b (above_up par x q e a)) in
      near_add (owns r x z) (up (par x) z) b (near_own r x b a) parent

  near_none : (r n b : ℕ) → Above par r z → (Above par r b → ⊥) → Near n b → n ≡ 0
  near_none r n b a e (inl q) = q
  near_none r n b a e (inr c) = absurd (e (above_trans par r z a c))

  -- an agent that is elsewhere holds nothing in the tree of r
  pub elsewhere_none : (r : ℕ) (s : Agent) → Ok par N s → Above par r z → Elsewhere par r s → hold par s z ≡ 0
  elsewhere_none r idle c a e = refl
  elsewhere_none r (arr x h fs) c a e =
      let b : ℕ = bottom x fs in
      let own : Near (hold_arrival (par x) x h z) b = near_arrival x h b c.1 (chain_above par N x fs c.2) in
      near_none r (hold par (arr x h fs) z) b a e (near_add (hold_arrival (par x) x h z) (hold_frames fs z) b own (near_frames x fs c.2))
  elsewhere_none r (dep x h leave) c a e = omega (arith, near_none r (one x z) x a e (near_one x x (top x refl)))
  elsewhere_none r (dep x h (back o y fs)) c a e =
      let b : ℕ = bottom y fs in
      let below : Above par y b = chain_above par N y fs c.1.2 in
      let own : Near (one x z) b = near_one x b (above_trans par x y (back_above par N x o y fs c.1) below) in
      let rest : Near (owns o y z + hold_frames fs z) b = near_add (owns o y z) (hold_frames fs z) b (near_own o y b below) (near_frames y fs c.1.2) in
      near_none r (hold par (dep x h (back o y fs)) z) b a e (near_add (one x z) (owns o y z + hold_frames fs z) b own rest)
