-- What the turns of each phase do.
use Rattle.std.proofs.Common.{◌≡◌, ℕ, true, false, Option, refl, ap, ◌∙◌}
use Rattle.words.specs.declared.kind.Kind.{Kind}
use Rattle.words.specs.declared.kind.Kind.TheVariants.{Empty, Half, Counted}
use Rattle.words.specs.declared.word.Word.{Word}
use Rattle.banks.specs.declared.answer.Coin.{Coin}
use Rattle.banks.specs.declared.answer.Side.{Side}
use Rattle.forest.specs.declared.errand.Errand.{Errand}
use Rattle.forest.specs.declared.errand.Phase.{Phase}
use Rattle.forest.specs.declared.errand.Phase.TheVariants.{Idle, Grow, Fork, Read, Raise, Open, Settle, Look, Lower}
use Rattle.forest.specs.declared.errand.Said.TheVariants.{Going}
use Rattle.forest.specs.Errands.{idles, turned}
use Rattle.forest.specs.Layouts.{turns_by}
use Rattle.forest.specs.Ledgers.{job}
use Rattle.forest.specs.Tables.{Tables, at, after_turn, climbs}
use Rattle.forest.proofs.Counting.{false_true, true_false}
use Rattle.forest.proofs.Moving.{moving}

-- A phase is idle, a growth turn, or moves

pub data Way (p : Phase) : Type 0 where
  links : (s : Side) (c : Coin) → p ≡ Grow s c → Way p
  parts : (s : Side) → p ≡ Fork s → Way p
  moves : moving p ≡ true → Way p

pub way_of : (p : Phase) → idles p ≡ false → Way p
way_of Idle e = absurd (true_false e)
way_of (Grow s c) e = links s c refl
way_of (Fork s) e = parts s refl
way_of Read e = moves refl
way_of Raise e = moves refl
way_of Open e = moves refl
way_of Settle e = moves refl
way_of Look e = moves refl
way_of Lower e = moves refl

-- what the tables are after a turn, by the phase
pub climbs_by : (p : Phase) (B : Tables) (a : ℕ) → moving p ≡ true → turns_by p B a ≡ climbs B a
climbs_by Idle B a m = absurd (false_true m)
climbs_by (Grow s c) B a m = absurd (false_true m)
climbs_by (Fork s) B a m = absurd (false_true m)
climbs_by Read B a m = refl
climbs_by Raise B a m = refl
climbs_by Open B a m = refl
climbs_by Settle B a m = refl
climbs_by Look B a m = refl
climbs_by Lower B a m = refl

grow_says : (s : Side) (c : Coin) (k : Kind) (e : Errand) (w : Word) (up : Option ℕ) → (turned (Grow s c) k e w up).said ≡ Going
grow_says s c Empty e w up = refl
grow_says s c Half e w up = refl
grow_says s c Counted e w up = refl

fork_says : (s : Side) (k : Kind) (e : Errand) (w : Word) (up : Option ℕ) → (turned (Fork s) k e w up).said ≡ Going
fork_says s Empty e w up = refl
fork_says s Half e w up = refl
fork_says s Counted e w up = refl

pub said_grow : (B : Tables) (a : ℕ) (s : Side) (c : Coin) → (job B.ledger a).phase ≡ Grow s c → (after_turn B a).said ≡ Going
said_grow B a s c q =
    let e = job B.ledger a in
    let n = at B.nodes e.node in
    ap (λ (p : Phase). (turned p n.word.kind e n.word n.parent).said) q ∙ grow_says s c n.word.kind e n.word n.parent

pub said_fork : (B : Tables) (a : ℕ) (s : Side) → (job B.ledger a).phase ≡ Fork s → (after_turn B a).said ≡ Going
said_fork B a s q =
    let e = job B.ledger a in
    let n = at B.nodes e.node in
    ap (λ (p : Phase). (turned p n.word.kind e n.word n.parent).said) q ∙ fork_says s n.word.kind e n.word n.parent
