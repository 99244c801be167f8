-- The machine that is laid flat keeps what the flat bank keeps, and means what it means.
use Rattle.std.proofs.Common.{◌≡◌, ℕ, ◌+◌, ◌*◌, Bool, true, false, cond, ◌&&◌, eqb, ltb, sym, refl, ap, ◌∙◌, inl, inr, arith}
use mathlib.Core.Path.{fun_ext}
use Rattle.std.proofs.lemmas.Bool.{cases_eq, cond-false, ltb-false, ne_eqb}
use Rattle.forest.specs.FlatTables.{roots_of, out_at, doing_of, lone_of, Kept}
use Rattle.forest.specs.FlatTables as flat
use Rattle.forest.specs.Agents as agents
use Rattle.forest.specs.Layouts.{empty?}
use Rattle.forest.specs.Layouts as layouts
use Rattle.forest.specs.Ledgers.{job}
use Rattle.forest.specs.Plans.{flat_layout}
use Rattle.forest.specs.Shown.{meaning}
use Rattle.forest.specs.Shown as shown
use Rattle.forest.specs.Sound.{Sound}
use Rattle.forest.specs.Tables.{Tables, at}
use Rattle.forest.proofs.FlatAgreesCounts.{sized, added, few}
use Rattle.forest.proofs.FlatAgreesErrands.{doing_is, placed, alone}
use Rattle.forest.proofs.FlatAgreesLone.{lone_agrees}
use Rattle.forest.proofs.FlatAgreesNodes.{rooted, closed}
use Rattle.forest.proofs.Lists.{le_from, nat_from, bool_from, doing_from}

-- the receipts out at a place: the place 0 of a tally is its root
pub out_is : (B : Tables) (t p : ℕ) → layouts.out_at flat_layout B t p ≡ out_at B.nodes t p
out_is B t p = elim (cases_eq p 0) [
  | inl e ↦ ap (λ z. cond (eqb p 0) (at B.nodes z).out 0) (let z : t + p ≡ t = omega (arith, e) in z)
  | inr n ↦ cond-false (eqb p 0) _ 0 (ne_eqb p 0 n) ∙ sym (cond-false (eqb p 0) _ 0 (ne_eqb p 0 n))
]

out_closed : (b c : Bool) (n : ℕ) → (b ≡ false → n ≡ 0) → cond b (cond c n 0) 0 ≡ cond c n 0
out_closed true c n e = refl
out_closed false true n e = sym (e refl)
out_closed false false n e = refl

both : (b c : Bool) → cond b c false ≡ (b && c)
both true c = refl
both false c = refl

module _ (B : Tables) (tall : B.tallies ≡ 256) (s : ∥ Sound flat_layout B ∥₁) where
  pub kept : Kept (roots_of B)
  kept = record {
    sized = (nat_from _ _ s (λ z. (sized B tall z).0), nat_from _ _ s (λ z. (sized B tall z).1), le_from _ _ s (λ z. (sized B tall z).2));
    added = (λ t. nat_from _ _ s (λ z. added B tall z t));
    few = (λ t. le_from _ _ s (λ z. few B tall z t));
    rooted = (λ t. bool_from _ _ s (λ z. (rooted B tall z).0 t), λ t. bool_from _ _ s (λ z. (rooted B tall z).1 t));
    closed = (λ t h. nat_from _ _ s (λ z. closed B tall z t h));
    placed = (λ a h. le_from _ _ s (λ z. (placed B tall z).0 a h), λ a. nat_from _ _ s (λ z. (placed B tall z).1 a));
    alone = (λ a. nat_from _ _ s (λ z. (alone B tall z).0 a), λ a. bool_from _ _ s (λ z. (alone B tall z).1 a), λ a. nat_from _ _ s (λ z. (alone B tall z).2 a));
  }

  out_shown : (t p : ℕ) → (meaning flat_layout B).out t p ≡ out_at B.nodes t p
  out_shown t p =
      ap (λ n. cond (ltb t B.ledger.opened) n 0) (out_is B t p)
      ∙ out_closed (ltb t B.ledger.opened) (eqb p 0) (at B.nodes t).out (λ e. kept.closed t (ltb-false t B.ledger.opened e))

  pub means : meaning flat_layout B ≡ flat.meaning (roots_of B)
  means =
      let out = fun_ext (λ t. fun_ext (out_shown t)) in
      let place = fun_ext (λ t. fun_ext (λ p. both (ltb t B.ledger.opened) (eqb p 0))) in
      let doing = fun_ext (λ a. doing_from (agents.doing_of (job B.ledger a)) (doing_of (job B.ledger a)) s (λ z. doing_is B tall z a)) in
      let zero = fun_ext (λ t. ap (λ k. empty? (at B.nodes k).word.kind) (let z : 1 * t ≡ t = omega arith in z)) in
      let lone = fun_ext (λ a. nat_from (shown.lone_of flat_layout B (job B.ledger a)) (lone_of (job B.ledger a) (at B.nodes (job B.ledger a).node).word) s (λ z. lone_agrees B tall z a)) in
      λ i. record {
        tallies = tall i;
        opened = B.ledger.opened;
        bound = 1;
        out = out i;
        place = place i;
        doing = doing i;
        zero? = zero i;
        lone = lone i;
        limit = 3;
      }
