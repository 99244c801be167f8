-- The sums of the machine that is laid flat: the count of a root is its receipts out and its departing agents, and the
-- load of a tally is its receipts out and its arriving agents.
use Rattle.std.proofs.Common.{◌≡◌, ℕ, ◌+◌, ◌<◌, ◌≤◌, false, List, length, Option, sym, refl, ap, ◌∙◌, inl, inr, arith}
use Rattle.std.proofs.lemmas.Bool.{cases_lt}
use Rattle.words.specs.declared.kind.Kind.{Kind}
use Rattle.words.specs.declared.kind.Kind.TheVariants.{Empty, Half, Counted}
use Rattle.words.specs.declared.word.Word.{Word}
use Rattle.words.specs.Kinds.{least, most}
use Rattle.forest.specs.declared.errand.Errand.{Errand}
use Rattle.forest.specs.declared.errand.Frame.{Frame}
use Rattle.forest.specs.declared.errand.Phase.{Phase}
use Rattle.forest.specs.declared.errand.Phase.TheVariants.{Idle, Grow, Fork, Read, Raise, Open, Settle, Look, Lower}
use Rattle.forest.specs.Agents.{cell, cell_by, agent, agent_by, half?}
use Rattle.forest.specs.Climb.{Word as Cell, empty, half, counted, weight, kid, up, hold}
use Rattle.banks.specs.Counting.{sum}
use Rattle.forest.specs.FlatTables.{departs, doing_by, doing_of, comers, settles?, Sized, Added, Few}
use Rattle.forest.specs.Ledgers.{job, load_of}
use Rattle.banks.specs.Meaning.{arrives}
use Rattle.forest.specs.Plans.{flat_layout}
use Rattle.forest.specs.Shown.{meaning}
use Rattle.forest.specs.Sound.{par_of, comes, crowd, Sound}
use Rattle.forest.specs.Tables.{Tables, at}
use Rattle.forest.proofs.Calling.{load_low}
use Rattle.forest.proofs.Counting.{false_true, sum_none, sum_same}
use Rattle.forest.proofs.FlatAgreesNodes.{nodes_are, alone as no_parent, rooted, closed}
use Rattle.forest.proofs.FlatAgreesErrands.{doing_is, placed, alone}
use Rattle.forest.proofs.Outs.{out_open, crowd_is}
use Rattle.forest.specs.Laws.{flat_lays}

sum_one : (f : ℕ → ℕ) → sum f 1 ≡ f 0
unfolding sum
sum_one f = omega arith

-- a word that is not half weighs its count
weighs : (k : Kind) (n v : ℕ) → least k ≤ n → n ≤ most k → half? k ≡ false → weight (cell_by k n v) ≡ n
weighs Empty n v lo hi e = omega arith
weighs Half n v lo hi e = absurd (false_true (sym e))
weighs Counted n v lo hi e = omega arith

no_kid : (u : Cell) (n : ℕ) → n ≡ 0 → kid u n ≡ 0
no_kid (empty v) n e = refl
no_kid (half v) n e = refl
no_kid (counted m v) n e = e

-- where no node waits, an agent holds a node exactly if it departs from it
holds : (par : ℕ → Option ℕ) (p : Phase) (x : ℕ) (w : Word) (l : List Frame) (z : ℕ) → settles? p ≡ false → hold par (agent_by p x w 0 l) z ≡ departs (doing_by p x) z
holds par Idle x w l z e = refl
holds par (Grow s c) x w l z e = refl
holds par (Fork s) x w l z e = refl
holds par Read x w l z e = omega arith
holds par Raise x w l z e = omega arith
holds par Open x w l z e = omega arith
holds par Settle x w l z e = absurd (false_true (sym e))
holds par Look x w l z e = omega arith
holds par Lower x w l z e = omega arith

module _ (B : Tables) (tall : B.tallies ≡ 256) (s : Sound flat_layout B) where
  pub sized : Sized B.nodes B.ledger.errands B.ledger.opened
  sized = (nodes_are B tall s, s.crew, omega (arith, s.few))

  held : (a z : ℕ) → hold (par_of B) (agent (job B.ledger a)) z ≡ departs (doing_of (job B.ledger a)) z
  held a z =
      let e : Errand = job B.ledger a in
      ap (λ h. hold (par_of B) (agent_by e.phase e.node e.word h e.waiting.frames) z) ((alone B tall s).0 a)
      ∙ holds (par_of B) e.phase e.node e.word e.waiting.frames z ((alone B tall s).1 a)
      ∙ ap (λ t. departs (doing_by e.phase t) z) ((placed B tall s).1 a)

  pub added : Added B.nodes B.ledger.errands
  added t =
      let w : Word = (at B.nodes t).word in
      let kids = sum_none (λ y. kid (cell (at B.nodes y).word) (up (par_of B y) t)) (length B.nodes)
      (λ y l. no_kid (cell (at B.nodes y).word) (up (par_of B y) t) (ap (λ o. up o t) (no_parent B tall s y))) in
      let all = sum_same (λ a. hold (par_of B) (agent (job B.ledger a)) t) (λ a. departs (doing_of (job B.ledger a)) t) 16 (λ a l. held a t) in
      omega (arith, s.inv.counts t, weighs w.kind w.count w.version w.lawful.0 w.lawful.1 ((rooted B tall s).1 t), kids, all)

  comers_are : (t : ℕ) → sum (comes B t) 16 ≡ comers B.ledger.errands t
  comers_are t = sum_same (comes B t) (λ a. arrives (doing_of (job B.ledger a)) t) 16 (λ a l. ap (λ d. arrives d t) (doing_is B tall s a))

  crowd_open : (t : ℕ) → t < B.ledger.opened → crowd B t ≡ (at B.nodes t).out + comers B.ledger.errands t
  crowd_open t o =
      let out : (meaning flat_layout B).out t 0 ≡ (at B.nodes t).out =
      out_open flat_layout flat_lays B t 0 o ∙ ap (λ k. (at B.nodes k).out) (let z : t + 0 ≡ t = omega arith in z) in
      omega (arith, crowd_is flat_layout flat_lays B s t o, sum_one ((meaning flat_layout B).out t), out, comers_are t)

  pub load_is : (t : ℕ) → t < B.ledger.opened → load_of B.ledger t ≡ (at B.nodes t).out + comers B.ledger.errands t
  load_is t o = load_low flat_layout flat_lays B s t o ∙ crowd_open t o

  pub few : Few B.nodes B.ledger.errands
  few t = elim (cases_lt t B.ledger.opened) [
    | inl o ↦ omega (arith, crowd_open t o, s.most t)
    | inr o ↦ omega (arith, s.none t o, closed B tall s t o, comers_are t)
  ]
