-- What the calls have in common: loads, errands that idle, and open tallies.
use Rattle.std.proofs.Common.{◌≡◌, ℕ, ◌<◌, true, List, length, get_or, set, sym, refl, ap, ◌∙◌, inl, inr, arith}
use Rattle.std.proofs.lemmas.Bool.{cases_eq}
use Rattle.forest.specs.declared.errand.Errand.{Errand}
use Rattle.forest.specs.declared.errand.Phase.{Phase}
use Rattle.forest.specs.declared.errand.Phase.TheVariants.{Idle, Grow, Fork, Read, Raise, Open, Settle, Look, Lower}
use Rattle.forest.specs.Agents.{agent, agent_by, doing_by, doing_of}
use Rattle.forest.specs.Climb as climb
use Rattle.forest.specs.Climb.{Word, empty, half, counted, looks, reads, leave, Agent, arr, dep, node, weight, Above, top, Inv, aim, arriving, departing, Empty, Elsewhere, opened, left_by}
use Rattle.forest.specs.Errands.{idles}
use Rattle.forest.specs.Layouts.{Layout}
use Rattle.forest.specs.Ledgers.{load_of}
use Rattle.banks.specs.Meaning.{arrives}
use Rattle.banks.specs.Meaning as meaning
use Rattle.forest.specs.Sound.{crowd, Sound}
use Rattle.forest.specs.Tables.{Tables}
use Rattle.forest.proofs.Counting.{false_true, at_set, but_set}
use Rattle.forest.specs.Lays.{Lays}

-- loads of which one is set to its new crowd
pub loads_set : (ls : List ℕ) (t n : ℕ) → t < length ls → (old new : ℕ → ℕ) → ((k : ℕ) → k < 256 → get_or ls k 0 ≡ old k)
    → n ≡ new t → ((k : ℕ) → (t ≡ k → ⊥) → new k ≡ old k) → (k : ℕ) → k < 256 → get_or (set ls t n) k 0 ≡ new k
loads_set ls t n in_t old new was here there k l = elim (cases_eq t k) [
  | inl e ↦ ap (λ j. get_or (set ls t n) j 0) (sym e) ∙ at_set ls t n 0 in_t ∙ here ∙ ap new e
  | inr m ↦ but_set ls t n 0 k m ∙ was k l ∙ sym (there k m)
]

pub idle_phase : (p : Phase) → idles p ≡ true → p ≡ Idle
idle_phase Idle i = refl
idle_phase (Grow s c) i = absurd (false_true i)
idle_phase (Fork s) i = absurd (false_true i)
idle_phase Read i = absurd (false_true i)
idle_phase Raise i = absurd (false_true i)
idle_phase Open i = absurd (false_true i)
idle_phase Settle i = absurd (false_true i)
idle_phase Look i = absurd (false_true i)
idle_phase Lower i = absurd (false_true i)

-- an errand that idles, in the forest and at the bank
pub idle_agent : (e : Errand) → idles e.phase ≡ true → agent e ≡ climb.idle
idle_agent e i = ap (λ p. agent_by p e.node e.word e.waiting.height e.waiting.frames) (idle_phase e.phase i)

pub idle_doing : (e : Errand) → idles e.phase ≡ true → doing_of e ≡ meaning.idle
idle_doing e i = ap (λ p. doing_by p e.waiting.height e.tally) (idle_phase e.phase i)

module _ (L : Layout) (l : Lays L) (B : Tables) (s : Sound L B) where
  pub tally_low : (t : ℕ) → t < B.ledger.opened → t < 256
  tally_low t h = omega (arith, s.few, s.many)

  pub load_low : (t : ℕ) → t < B.ledger.opened → load_of B.ledger t ≡ crowd B t
  load_low t h = s.loads t (tally_low t h)
