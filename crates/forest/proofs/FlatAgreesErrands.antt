-- The errands of the machine that is laid flat: each is at the root of its tally, and no node waits for it.
use Rattle.std.proofs.Common.{◌≡◌, ℕ, zero, suc, ◌<◌, true, false, List, length, None, Option, sym, refl, ap, ◌∙◌, inl, inr, arith}
use Rattle.std.proofs.lemmas.Bool.{cases_lt, cases_Bool}
use Rattle.std.proofs.lemmas.List.{get_or_past}
use Rattle.words.specs.declared.word.Word.{Word}
use Rattle.forest.specs.declared.errand.Errand.{Errand}
use Rattle.forest.specs.declared.errand.Frame.{Frame}
use Rattle.forest.specs.declared.errand.Phase.{Phase}
use Rattle.forest.specs.declared.errand.Phase.TheVariants.{Idle, Grow, Fork, Read, Raise, Open, Settle, Look, Lower}
use Rattle.forest.specs.Agents.{frames_to, back_to, agent_by, agent, begins, doing_by}
use Rattle.forest.specs.Agents as agents
use Rattle.forest.specs.Climb.{Chain, OkBack, Ok}
use Rattle.forest.specs.Errands.{no_errand, idles}
use Rattle.forest.specs.FlatTables.{doing_of, settles?, Placed, Alone}
use Rattle.forest.specs.Ledgers.{job}
use Rattle.forest.specs.Plans.{flat_layout}
use Rattle.forest.specs.Sound.{par_of, In, Sound}
use Rattle.forest.specs.Tables.{Tables}
use Rattle.forest.specs.Ancestors.{some_none}
use Rattle.forest.proofs.Counting.{false_true}
use Rattle.forest.proofs.FlatAgreesNodes.{alone as no_parent, own}
use Rattle.forest.specs.Laws.{flat_lays}
use Rattle.forest.proofs.Moving.{moving}
use Rattle.forest.proofs.Sizes.{only_moves}
use Rattle.forest.proofs.Turning.{live}

-- where no node has a parent, none waits
module _ (par : ℕ → Option ℕ) (N : ℕ) (none : (z : ℕ) → par z ≡ None) where
  chain_none : (x : ℕ) (l : List Frame) (h : ℕ) → Chain par N x (frames_to l h) → h ≡ 0
  chain_none x l zero c = refl
  chain_none x l (suc n) c = absurd (some_none _ x c.0 (none _))

  back_none : (x : ℕ) (l : List Frame) (h : ℕ) → OkBack par N x (back_to l h) → h ≡ 0
  back_none x l zero c = refl
  back_none x l (suc n) c = absurd (let (q, e, a) = c.1 in some_none _ q e (none _))

  waits_none : (p : Phase) (x : ℕ) (w : Word) (h : ℕ) (l : List Frame) → moving p ≡ true → Ok par N (agent_by p x w h l) → (h ≡ 0) × (settles? p ≡ false)
  waits_none Idle x w h l m ok = absurd (false_true m)
  waits_none (Grow s c) x w h l m ok = absurd (false_true m)
  waits_none (Fork s) x w h l m ok = absurd (false_true m)
  waits_none Read x w h l m ok = (chain_none x l h ok.2, refl)
  waits_none Raise x w h l m ok = (chain_none x l h ok.2, refl)
  waits_none Open x w h l m ok = (chain_none x l h ok.2, refl)
  waits_none Settle x w zero l m ok = absurd (some_none (par x) ok.1.0 ok.1.1 (none x))
  waits_none Settle x w (suc n) l m ok = absurd (some_none (par x) ok.1.0 ok.1.1 (none x))
  waits_none Look x w h l m ok = (back_none x l h ok.1, refl)
  waits_none Lower x w h l m ok = (back_none x l h ok.1, refl)

module _ (B : Tables) (tall : B.tallies ≡ 256) (s : Sound flat_layout B) (a : ℕ) where
  abbrev e : Errand
  e = job B.ledger a

  -- an agent past the last is idle
  crewed : idles e.phase ≡ false → a < 16
  crewed busy = elim (cases_lt a 16) [
    | inl k ↦ k
    | inr k ↦ absurd (false_true (sym busy ∙ ap (λ (f : Errand). idles f.phase) (get_or_past B.ledger.errands a no_errand (omega (arith, s.crew)))))
  ]

  moves : idles e.phase ≡ false → moving e.phase ≡ true
  moves busy = only_moves flat_layout flat_lays B ∣ s ∣₁ a refl busy

  in_own : idles e.phase ≡ false → In flat_layout B e.tally e.node
  in_own busy = live flat_layout flat_lays B s a (crewed busy) (moves busy)

  alone_here : (e.waiting.height ≡ 0) × (settles? e.phase ≡ false)
  alone_here = elim (cases_Bool (idles e.phase)) [
    | inl rests ↦ (let i = (s.fit a).rests rests in (ap (λ (f : Errand). f.waiting.height) i, ap (λ (f : Errand). settles? f.phase) i))
    | inr busy ↦ waits_none (par_of B) (length B.nodes) (no_parent B tall s) e.phase e.node e.word e.waiting.height e.waiting.frames (moves busy) (s.inv.shaped a)
  ]

  node_here : e.node ≡ e.tally
  node_here = elim (cases_Bool (idles e.phase)) [
    | inl rests ↦ (let i = (s.fit a).rests rests in ap (λ (f : Errand). f.node) i ∙ sym (ap (λ (f : Errand). f.tally) i))
    | inr busy ↦ own B tall s e.tally e.node (in_own busy)
  ]

  calm_here : begins e.phase ≡ 0
  calm_here = omega (arith, s.grows a)

  pub doing_is : agents.doing_of (job B.ledger a) ≡ doing_of (job B.ledger a)
  doing_is = ap (λ h. doing_by e.phase h e.tally) alone_here.0

module _ (B : Tables) (tall : B.tallies ≡ 256) (s : Sound flat_layout B) where
  pub placed : Placed B.ledger.errands B.ledger.opened
  placed = (λ a busy. (in_own B tall s a busy).0, node_here B tall s)

  pub alone : Alone B.ledger.errands
  alone = (λ a. (alone_here B tall s a).0, λ a. (alone_here B tall s a).1, calm_here B tall s)
