-- A turn keeps what holds of the tables, and shows the meaning of a bank.
use Rattle.std.proofs.Common.{◌≡◌, ℕ, ◌<◌, None, sym, refl, ap, ◌∙◌, subst}
use Rattle.banks.specs.declared.answer.Turned.{Turned}
use Rattle.banks.specs.declared.answer.Turned.TheVariants as came
use Rattle.forest.specs.declared.errand.Phase.{Phase}
use Rattle.forest.specs.declared.errand.Said.TheVariants.{Going}
use Rattle.banks.specs.Calls.{ComesTo}
use Rattle.forest.specs.Layouts.{Layout, turns, turns_by, heard, heard_of}
use Rattle.forest.specs.Ledgers.{job, may_turn}
use Rattle.banks.specs.Meaning.{turn_refusal}
use Rattle.forest.specs.Shown.{meaning}
use Rattle.forest.specs.Sound.{Sound}
use Rattle.forest.specs.Tables.{Tables, after_turn, grows, forks}
use Rattle.forest.specs.Lays.{Lays}
use Rattle.forest.proofs.Refused.{told, turn_refused, turns_so}
use Rattle.forest.proofs.Ways.{Way, links, parts, moves, way_of, climbs_by, said_grow, said_fork}
use Rattle.forest.proofs.ClimbShows.{s_c, said_shows}
use Rattle.forest.proofs.GrowthShows.{link_keeps, link_shows, part_keeps, part_shows}

module _ (L : Layout) (l : Lays L) (B : Tables) (s : ∥ Sound L B ∥₁) (a : ℕ) (ok : told (may_turn B.ledger a) ≡ None) where
  free_turn : turn_refusal (meaning L B) a ≡ None
  free_turn = turn_refused L l B a ∙ ok

  pub turn_kept : ∥ Sound L (turns B a) ∥₁
  turn_kept = by_way (way_of (job B.ledger a).phase (turns_so L l B a ok).1)
    where
      in_a : a < 16
      in_a = (turns_so L l B a ok).0

      by_way : Way (job B.ledger a).phase → ∥ Sound L (turns B a) ∥₁
      by_way (links d c q) = subst (λ (p : Phase). ∥ Sound L (turns_by p B a) ∥₁) (sym q) (link_keeps L l B s a in_a free_turn d c q)
      by_way (parts d q) = subst (λ (p : Phase). ∥ Sound L (turns_by p B a) ∥₁) (sym q) (part_keeps L l B s a in_a free_turn d q)
      by_way (moves m) = subst (λ (C : Tables). ∥ Sound L C ∥₁) (sym (climbs_by (job B.ledger a).phase B a m)) (s_c L l B s a in_a free_turn m)

  pub turn_shows : ComesTo (meaning L B) a (heard_of L B a) (meaning L (turns B a))
  turn_shows = by_way (way_of (job B.ledger a).phase (turns_so L l B a ok).1)
    where
      in_a : a < 16
      in_a = (turns_so L l B a ok).0

      going : (after_turn B a).said ≡ Going → heard_of L B a ≡ came.Going
      going q = ap (heard (L.base (job B.ledger a).tally) (job B.ledger a).later) q

      by_way : Way (job B.ledger a).phase → ComesTo (meaning L B) a (heard_of L B a) (meaning L (turns B a))
      by_way (links d c q) =
          subst (λ (p : Phase). ComesTo (meaning L B) a (heard_of L B a) (meaning L (turns_by p B a))) (sym q)
          (subst (λ (h : Turned). ComesTo (meaning L B) a h (meaning L (grows B a d c))) (sym (going (said_grow B a d c q))) (link_shows L l B s a in_a free_turn d c q))
      by_way (parts d q) =
          subst (λ (p : Phase). ComesTo (meaning L B) a (heard_of L B a) (meaning L (turns_by p B a))) (sym q)
          (subst (λ (h : Turned). ComesTo (meaning L B) a h (meaning L (forks B a d))) (sym (going (said_fork B a d q))) (part_shows L l B s a in_a free_turn d q))
      by_way (moves m) =
          subst (λ (C : Tables). ComesTo (meaning L B) a (heard_of L B a) (meaning L C)) (sym (climbs_by (job B.ledger a).phase B a m)) (said_shows L l B s a in_a free_turn m (after_turn B a).said refl)
