-- The lone numbers of the machine that is laid flat: none at rest, two at a reading, one or three at a compare-and-set.
use Rattle.std.proofs.Common.{◌≡◌, ℕ, pred, ◌+◌, ◌*◌, ◌≤◌, Bool, true, false, cond, ◌&&◌, List, sym, refl, ap, ◌∙◌, arith}
use Rattle.words.specs.declared.kind.Kind.{Kind}
use Rattle.words.specs.declared.kind.Kind.TheVariants.{Empty, Half, Counted}
use Rattle.words.specs.declared.word.Word.{Word}
use Rattle.words.specs.Kinds.{least, most}
use Rattle.words.specs.Words.{plain, same, shown}
use Rattle.forest.specs.declared.errand.Errand.{Errand}
use Rattle.forest.specs.declared.errand.Frame.{Frame}
use Rattle.forest.specs.declared.errand.Phase.{Phase}
use Rattle.forest.specs.declared.errand.Phase.TheVariants.{Idle, Grow, Fork, Read, Raise, Open, Settle, Look, Lower}
use Rattle.forest.specs.Agents.{cell, cell_by, agent_by, suits}
use Rattle.forest.specs.Climb.{Word as Cell, empty, half, counted, raises, opens, lowers, node}
use Rattle.forest.specs.FlatTables.{by_word, counted?, lone_of as flat_lone_of}
use Rattle.forest.specs.FlatTables as flat
use Rattle.forest.specs.Layouts.{empty?}
use Rattle.forest.specs.Ledgers.{job}
use Rattle.forest.specs.Lone.{first, cost_arrival, cost_departure, lone_at}
use Rattle.forest.specs.Plans.{flat_layout}
use Rattle.forest.specs.Shown.{lone_by, lone_of}
use Rattle.forest.specs.Sound.{Sound}
use Rattle.forest.specs.Tables.{Tables, at}
use Rattle.forest.proofs.Counting.{false_true}
use Rattle.forest.proofs.FlatAgreesErrands.{alone}
use Rattle.forest.proofs.FlatAgreesNodes as nodes
use Rattle.forest.proofs.Moving.{same_counted, same_empty}

module _ (d : ℕ) (root : d ≡ 0) where
  reads_cost : (u : Cell) → first d u ≡ 2
  reads_cost (empty v) = omega arith
  reads_cost (half v) = omega arith
  reads_cost (counted n v) = refl

  won : (b : Bool) (m n : ℕ) → m ≡ 1 → n ≡ 3 → cond b m n ≡ by_word b
  won true m n e f = e
  won false m n e f = f

  raises_cost : (m a : ℕ) (k : Kind) (n v : ℕ) → 1 ≤ m → least k ≤ n
      → cost_arrival d (raises (pred m) a) (cell_by k n v) ≡ by_word (counted? k && same (plain Counted m a) (plain k n v))
  raises_cost m a Empty n v i j = omega arith
  raises_cost m a Half n v i j = omega arith
  raises_cost m a Counted n v i j =
      ap (λ b. cond b 1 (4 * d + 3)) (same_counted m n v a i j) ∙ won (same (plain Counted m a) (plain Counted n v)) 1 (4 * d + 3) refl (omega arith)

  opens_cost : (m a : ℕ) (k : Kind) (n v : ℕ) → m ≤ 0 → n ≤ most k → cost_arrival d (opens a) (cell_by k n v) ≡ by_word (empty? k && same (plain Empty m a) (plain k n v))
  opens_cost m a Half n v i j = omega arith
  opens_cost m a Counted n v i j = omega arith
  opens_cost m a Empty n v i j =
      ap (λ b. cond b (4 * d + 1) (4 * d + 3)) (same_empty m n v a i j)
      ∙ won (same (plain Empty m a) (plain Empty n v)) (4 * d + 1) (4 * d + 3) (omega arith) (omega arith)

  lowers_cost : (m a : ℕ) (k : Kind) (n v : ℕ) → 1 ≤ m → least k ≤ n
      → cost_departure d (lowers (pred m) a) (cell_by k n v) ≡ by_word (counted? k && same (plain Counted m a) (plain k n v))
  lowers_cost m a Empty n v i j = omega arith
  lowers_cost m a Half n v i j = omega arith
  lowers_cost m a Counted n v i j =
      ap (λ b. cond b (2 * d + 1) (2 * d + 3)) (same_counted m n v a i j)
      ∙ won (same (plain Counted m a) (plain Counted n v)) (2 * d + 1) (2 * d + 3) (omega arith) (omega arith)

module _ (deep : ℕ → ℕ) (roots : (z : ℕ) → deep z ≡ 0) (ws : ℕ → Cell) where
  -- an errand that remembers m, of kind j, where the word w is found
  abbrev number : Phase → ℕ → Word → List Frame → Word → ℕ
  number p x m l w = lone_by p 0 (lone_at deep ws (agent_by p x m 0 l) (cell w))

  abbrev told : Phase → Word → Kind → Word → ℕ
  told p m j w = flat.lone_by p w.kind (same (plain j m.count m.version) (shown w))

  lone_is : (p : Phase) (x : ℕ) (m : Word) (l : List Frame) (w : Word) (j : Kind) → (least j ≤ m.count) × (m.count ≤ most j)
      → suits p j ≡ true → flat.settles? p ≡ false → number p x m l w ≡ told p m j w
  lone_is Idle x m l w j law s n = refl
  lone_is (Grow c d) x m l w j law s n = refl
  lone_is (Fork c) x m l w j law s n = refl
  lone_is Read x m l w j law s n = omega (arith, reads_cost (deep x) (roots x) (cell w))
  lone_is Raise x m l w Empty law s n = absurd (false_true s)
  lone_is Raise x m l w Half law s n = absurd (false_true s)
  lone_is Raise x m l w Counted law s n = omega (arith, raises_cost (deep x) (roots x) m.count m.version w.kind w.count w.version law.0 w.lawful.0)
  lone_is Open x m l w Empty law s n = omega (arith, opens_cost (deep x) (roots x) m.count m.version w.kind w.count w.version law.1 w.lawful.1)
  lone_is Open x m l w Half law s n = absurd (false_true s)
  lone_is Open x m l w Counted law s n = absurd (false_true s)
  lone_is Settle x m l w j law s n = absurd (false_true (sym n))
  lone_is Look x m l w j law s n = omega (arith, roots x)
  lone_is Lower x m l w Empty law s n = absurd (false_true s)
  lone_is Lower x m l w Half law s n = absurd (false_true s)
  lone_is Lower x m l w Counted law s n = omega (arith, lowers_cost (deep x) (roots x) m.count m.version w.kind w.count w.version law.0 w.lawful.0)

  -- an agent that is at no node needs no word
  here : (p : Phase) (x : ℕ) (m : Word) (l : List Frame) → flat.settles? p ≡ false
      → lone_at deep ws (agent_by p x m 0 l) (ws (node (agent_by p x m 0 l))) ≡ lone_at deep ws (agent_by p x m 0 l) (ws x)
  here Idle x m l n = refl
  here (Grow c d) x m l n = refl
  here (Fork c) x m l n = refl
  here Read x m l n = refl
  here Raise x m l n = refl
  here Open x m l n = refl
  here Settle x m l n = absurd (false_true (sym n))
  here Look x m l n = refl
  here Lower x m l n = refl

pub lone_agrees : (B : Tables) → B.tallies ≡ 256 → Sound flat_layout B → (a : ℕ)
    → lone_of flat_layout B (job B.ledger a) ≡ flat_lone_of (job B.ledger a) (at B.nodes (job B.ledger a).node).word
lone_agrees B tall s a =
    let e : Errand = job B.ledger a in
    let deep : ℕ → ℕ = λ z. (at B.nodes z).depth in
    let ws : ℕ → Cell = λ z. cell (at B.nodes z).word in
    let (low, calm, _) = alone B tall s in
    ap (λ h. lone_by e.phase 0 (lone_at deep ws (agent_by e.phase e.node e.word h e.waiting.frames) (ws (node (agent_by e.phase e.node e.word h e.waiting.frames))))) (low a)
    ∙ ap (lone_by e.phase 0) (here deep (nodes.flat B tall s) ws e.phase e.node e.word e.waiting.frames (calm a))
    ∙ lone_is deep (nodes.flat B tall s) ws e.phase e.node e.word e.waiting.frames (at B.nodes e.node).word e.word.kind e.word.lawful (s.fit a).word (calm a)
