-- A call that the tests of a bank let through: what it keeps, does exactly, and shows, of tables that are what the rules give.
--     Answered L B q r C K           the call q takes sound tables B to sound tables C, is answered r exactly, and shows K
use Rattle.std.proofs.Common.{◌≡◌, ℕ, ◌+◌, Some, Ok, Err, sym, refl, ◌∙◌, subst}
use Rattle.banks.specs.declared.answer.Coin.{Coin}
use Rattle.banks.specs.declared.answer.Reading.{Reading}
use Rattle.banks.specs.declared.answer.Side.{Side}
use Rattle.banks.specs.declared.answer.Turned.{Turned}
use Rattle.banks.specs.declared.fault.BankFault.{BankFault}
use Rattle.banks.specs.Calls.{Request, open_one, arrive, depart, turn, reading, Reply, opened, begun, turned, reads, ComesTo, ReadOf}
use Rattle.forest.specs.Layouts.{Layout, may_arrive, may_depart, opens, sends, leaves, turns, heard_of, read_by, zero?, performed}
use Rattle.forest.specs.Ledgers.{may_open, may_turn, shut}
use Rattle.banks.specs.Meaning.{Opens, Arrives, Departs, open_refusal, arrive_refusal, turn_refusal}
use Rattle.banks.specs.Refusals.{number}
use Rattle.forest.specs.Shown.{meaning}
use Rattle.forest.specs.Sound.{Sound}
use Rattle.forest.specs.Tables.{Tables}
use Rattle.forest.proofs.CallShows.{open_keeps, open_shows, arrive_keeps, arrive_shows, depart_keeps, depart_shows, read_shows, read_refused}
use Rattle.forest.specs.Lays.{Lays}
use Rattle.forest.proofs.Refused.{told_ok, told_err, did, did_not, open_refused, arrive_refused, turn_refused}
use Rattle.forest.proofs.TurnShows.{turn_kept, turn_shows}

pub record Answered (L : Layout) (B : Tables) (q : Request) (r : Reply) (C : Tables) (K : Type 0) : Type 0 where
  pub kept : ∥ Sound L C ∥₁
  pub exact : ◌≡◌ {A = Reply × Tables} (r, C) (performed L B q)
  pub shows : K

module _ (L : Layout) (l : Lays L) (B : Tables) (s : ∥ Sound L B ∥₁) (C : Tables) where
  pub open_answered : (u : Unit {0}) (x : ℕ × ℕ) → may_open B.tallies B.ledger ≡ Ok u → x ≡ (B.ledger.opened, L.first B.ledger.opened) → C ≡ opens L B
      → Answered L B open_one (opened (Ok x)) C (Opens (meaning L B) (L.first B.ledger.opened) (meaning L C))
  open_answered u x ok e f =
      let free = told_ok (may_open B.tallies B.ledger) u ok in
      record {
        kept = subst (λ (D : Tables). ∥ Sound L D ∥₁) (sym f) (open_keeps L l B s free);
        exact = did opened (may_open B.tallies B.ledger) u (B.ledger.opened, L.first B.ledger.opened) x B C (opens L B) ok e f;
        shows = subst (λ (D : Tables). Opens (meaning L B) (L.first B.ledger.opened) (meaning L D)) (sym f) (open_shows L l B s free);
      }

  pub arrive_answered : (a t p : ℕ) (d : Side) (c : Coin) (u : Unit {0}) → may_arrive L B a t p ≡ Ok u → C ≡ sends B a t (L.start a t p d c)
      → Answered L B (arrive a t p d c) (begun (Ok tt)) C (Arrives (meaning L B) a t p (meaning L C))
  arrive_answered a t p d c u ok f =
      let free = told_ok (may_arrive L B a t p) u ok in
      record {
        kept = subst (λ (D : Tables). ∥ Sound L D ∥₁) (sym f) (arrive_keeps L l B s a t p d c free);
        exact = did begun (may_arrive L B a t p) u tt tt B C (sends B a t (L.start a t p d c)) ok refl f;
        shows = subst (λ (D : Tables). Arrives (meaning L B) a t p (meaning L D)) (sym f) (arrive_shows L l B s a t p d c free);
      }

  pub depart_answered : (a t p : ℕ) (u : Unit {0}) → may_depart L B a t p ≡ Ok u → C ≡ leaves B a t (L.base t + p)
      → Answered L B (depart a t p) (begun (Ok tt)) C (Departs (meaning L B) a t p (meaning L C))
  depart_answered a t p u ok f =
      let free = told_ok (may_depart L B a t p) u ok in
      record {
        kept = subst (λ (D : Tables). ∥ Sound L D ∥₁) (sym f) (depart_keeps L l B s a t p free);
        exact = did begun (may_depart L B a t p) u tt tt B C (leaves B a t (L.base t + p)) ok refl f;
        shows = subst (λ (D : Tables). Departs (meaning L B) a t p (meaning L D)) (sym f) (depart_shows L l B s a t p free);
      }

  pub turn_answered : (a : ℕ) (m : Turned) (u : Unit {0}) → may_turn B.ledger a ≡ Ok u → m ≡ heard_of L B a → C ≡ turns B a
      → Answered L B (turn a) (turned (Ok m)) C (ComesTo (meaning L B) a m (meaning L C))
  turn_answered a m u ok e f =
      let free = told_ok (may_turn B.ledger a) u ok in
      record {
        kept = subst (λ (D : Tables). ∥ Sound L D ∥₁) (sym f) (turn_kept L l B s a free);
        exact = did turned (may_turn B.ledger a) u (heard_of L B a) m B C (turns B a) ok e f;
        shows =
            subst (λ (h : Turned). ComesTo (meaning L B) a h (meaning L C)) (sym e)
            (subst (λ (D : Tables). ComesTo (meaning L B) a (heard_of L B a) (meaning L D)) (sym f) (turn_shows L l B s a free));
      }

-- a call that is refused: the number of its refusal, and exactly nothing done
module _ (L : Layout) (l : Lays L) (B : Tables) where
  pub open_not : (f : BankFault) → may_open B.tallies B.ledger ≡ Err f
      → (◌≡◌ {A = Reply × Tables} (opened (Err f), B) (performed L B open_one)) × (open_refusal (meaning L B) ≡ Some (number f))
  open_not f err = (did_not opened (may_open B.tallies B.ledger) f _ B B (opens L B) err refl, open_refused L l B ∙ told_err (may_open B.tallies B.ledger) f err)

  pub arrive_not : ∥ Sound L B ∥₁ → (a t p : ℕ) (d : Side) (c : Coin) (f : BankFault) → may_arrive L B a t p ≡ Err f
      → (◌≡◌ {A = Reply × Tables} (begun (Err f), B) (performed L B (arrive a t p d c))) × (arrive_refusal (meaning L B) a t p ≡ Some (number f))
  arrive_not s a t p d c f err =
      (did_not begun (may_arrive L B a t p) f tt B B (sends B a t (L.start a t p d c)) err refl, arrive_refused L l B s a t p ∙ told_err (may_arrive L B a t p) f err)

  pub turn_not : (a : ℕ) (f : BankFault) → may_turn B.ledger a ≡ Err f
      → (◌≡◌ {A = Reply × Tables} (turned (Err f), B) (performed L B (turn a))) × (turn_refusal (meaning L B) a ≡ Some (number f))
  turn_not a f err = (did_not turned (may_turn B.ledger a) f (heard_of L B a) B B (turns B a) err refl, turn_refused L l B a ∙ told_err (may_turn B.ledger a) f err)

  pub reading_not : (t : ℕ) (f : BankFault) → shut B.ledger t ≡ Err f → (◌≡◌ {A = Reply × Tables} (reads (Err f), B) (performed L B (reading t))) × ReadOf (meaning L B) t (Err f)
  reading_not t f err = (did_not reads (shut B.ledger t) f (read_by (zero? L B t)) B B B err refl, read_refused L l B t f err)

  pub reading_answered : (t : ℕ) (m : Reading) (u : Unit {0}) → shut B.ledger t ≡ Ok u → m ≡ read_by (zero? L B t)
      → (◌≡◌ {A = Reply × Tables} (reads (Ok m), B) (performed L B (reading t))) × ReadOf (meaning L B) t (Ok m)
  reading_answered t m u ok e = (
    did reads (shut B.ledger t) u (read_by (zero? L B t)) m B B B ok e refl,
    subst (λ (k : Reading). ReadOf (meaning L B) t (Ok k)) (sym e) (read_shows L l B t (told_ok (shut B.ledger t) u ok)),
  )
