-- Errands that climb or come down, their frames, and the compares of two words.
use Rattle.std.proofs.Common.{◌≡◌, ℕ, zero, suc, pred, ◌+◌, ◌<◌, ◌≤◌, Bool, true, false, cond, ◌&&◌, eqb, ◌⊎◌, List, ◌∷◌, length, get_or, set, sym, refl, subst, add-one, arith}
use Rattle.std.proofs.lemmas.List.{get_or-set_same, get_or-set_other}
use Rattle.std.proofs.lemmas.Bool.Decides.{nat_tests}
use Rattle.forest.specs.declared.errand.After.{After}
use Rattle.forest.specs.declared.errand.Errand.{Errand}
use Rattle.forest.specs.declared.errand.Frame.{Frame}
use Rattle.forest.specs.declared.errand.Phase.{Phase}
use Rattle.forest.specs.declared.errand.Phase.TheVariants.{Idle, Grow, Fork, Read, Raise, Open, Settle, Look, Lower}
use Rattle.forest.specs.declared.errand.Said.TheVariants.{Going}
use Rattle.forest.specs.Agents.{frame_of, frames_to, begins, Fit}
use Rattle.forest.specs.Errands.{no_errand}
use Rattle.forest.specs.Waits.{no_frame}

-- a turn that climbs or comes down
abbrev pub moving : Phase → Bool
moving Idle = false
moving (Grow s c) = false
moving (Fork s) = false
moving Read = true
moving Raise = true
moving Open = true
moving Settle = true
moving Look = true
moving Lower = true

-- a turn of a departure, or of an agent that gives back what it has at the parent
abbrev pub sinking : Phase → Bool
sinking Idle = false
sinking (Grow s c) = false
sinking (Fork s) = false
sinking Read = false
sinking Raise = false
sinking Open = false
sinking Settle = false
sinking Look = true
sinking Lower = true

-- Frames

pub frames_set : (l : List Frame) (i : ℕ) (f : Frame) (n : ℕ) → n ≤ i → frames_to (set l i f) n ≡ frames_to l n
frames_set l i f zero h = refl
frames_set l i f (suc n) h =
    let e : get_or (set l i f) n no_frame ≡ get_or l n no_frame = get_or-set_other l i n f no_frame (λ (q : n ≡ i). omega arith) in
    let r : frames_to (set l i f) n ≡ frames_to l n = frames_set l i f n (omega arith) in
    cc

pub frames_push : (l : List Frame) (n : ℕ) (f : Frame) → n < length l → frames_to (set l n f) (n + 1) ≡ frame_of f ∷ frames_to l n
frames_push l n f h =
    let e : get_or (set l n f) n no_frame ≡ f = get_or-set_same l n f no_frame h in
    let r : frames_to (set l n f) n ≡ frames_to l n = frames_set l n f n (omega arith) in
    rw add-one cc

-- what a turn keeps of its errand: what it is for, unless it has ended
pub record Carries (e : Errand) (r : After) : Type 0 where
  pub fit : Fit r.errand
  pub calm : begins r.errand.phase ≡ 0
  pub goes : ((r.said ≡ Going) × (r.errand.tally ≡ e.tally) × (r.errand.later ≡ e.later)) ⊎ (r.errand ≡ no_errand)

-- two ways of one test
pub by_test : {A C : Type 0} (P : A → C → Type 0) (b c : Bool) (x y : A) (u v : C) → c ≡ b → (b ≡ true → P x u) → (b ≡ false → P y v) → P (cond b x y) (cond c u v)
by_test P true c x y u v e won lost = subst (λ (d : Bool). P x (cond d u v)) (sym e) (won refl)
by_test P false c x y u v e won lost = subst (λ (d : Bool). P y (cond d u v)) (sym e) (lost refl)

-- the two compares agree on words of one kind
pub same_empty : (m n a b : ℕ) → m ≤ 0 → n ≤ 0 → eqb a b ≡ (eqb 0 0 && (eqb m n && eqb b a))
same_empty m n a b l k = grind (arith, nat_tests)

pub same_half : (m n a b : ℕ) → m ≤ 0 → n ≤ 0 → eqb a b ≡ (eqb 1 1 && (eqb m n && eqb b a))
same_half m n a b l k = grind (arith, nat_tests)

pub same_counted : (m n a b : ℕ) → 1 ≤ m → 1 ≤ n → cond (eqb (pred n) (pred m)) (eqb a b) false ≡ (eqb 2 2 && (eqb m n && eqb b a))
same_counted m n a b l k = grind (arith, nat_tests)

pub same_tells : (k m n a b : ℕ) → (eqb k k && (eqb m n && eqb b a)) ≡ true → (m ≡ n) × (b ≡ a)
same_tells k m n a b e = (grind (arith, nat_tests), grind (arith, nat_tests))
