-- A bank refuses as the meaning of a bank has it; and what a call that is let through has shown.
--     told m                         the number of the refusal that a test gives, if any
--     Arriving L B a t p, Departing L B a t p     what an arrival or a departure that is let through has shown
use Rattle.std.proofs.Common.{◌≡◌, ℕ, zero, suc, ◌+◌, ◌<◌, ◌≤◌, Bool, true, false, cond, not, eqb, ltb, leb, Some, None, Ok, Err, Option, Result, sym, refl, ap, ◌∙◌, subst, arith}
use Rattle.std.proofs.lemmas.Bool.{ltb-true}
use Rattle.std.proofs.lemmas.Bool.Decides.{nat_tests}
use Rattle.forest.specs.declared.errand.Phase.{Phase}
use Rattle.forest.specs.declared.errand.Phase.TheVariants.{Idle, Grow, Fork, Read, Raise, Open, Settle, Look, Lower}
use Rattle.banks.specs.declared.fault.BankFault.{BankFault}
use Rattle.banks.specs.declared.fault.BankFault.TheVariants as fault
use Rattle.forest.specs.Agents.{leaving, doing_by, doing_of}
use Rattle.banks.specs.Calls.{Reply}
use Rattle.forest.specs.Errands.{idles}
use Rattle.forest.specs.Layouts.{Layout, and_then, may_arrive, may_depart, out_at, unless}
use Rattle.forest.specs.Ledgers.{Test, job, load_of, may_open, shut, roomy, may_turn}
use Rattle.banks.specs.Meaning.{works, crowd, open_refusal, arrive_refusal, depart_refusal, turn_refusal, reading_refusal}
use Rattle.banks.specs.Refusals.{number}
use Rattle.forest.specs.Shown.{meaning}
use Rattle.forest.specs.Sound.{Sound}
use Rattle.forest.specs.Tables.{Tables, at}
use Rattle.forest.specs.Lays.{Lays}
use Rattle.forest.proofs.Lists.{nat_from}
use Rattle.forest.proofs.Outs.{crowd_is}

abbrev pub told : Test → Option ℕ
told (Ok u) = None
told (Err f) = Some (number f)

pub told_ok : (m : Test) (u : Unit {0}) → m ≡ Ok u → told m ≡ None
told_ok m u e = ap told e

pub told_err : (m : Test) (f : BankFault) → m ≡ Err f → told m ≡ Some (number f)
told_err m f e = ap told e

-- a call that its test lets through
pub did : {A : Type 0} (reply : Result A BankFault → Reply) (m : Test) (u : Unit {0}) (x y : A) (B C D : Tables)
    → m ≡ Ok u → y ≡ x → C ≡ D → ◌≡◌ {A = Reply × Tables} (reply (Ok y), C) (unless reply m x B D)
did {A} reply m u x y B C D e f g =
    subst (λ (n : Test). ◌≡◌ {A = Reply × Tables} (reply (Ok y), C) (unless reply n x B D)) (sym e) (λ i. (reply (Ok (f i)), g i))

-- and one that it refuses
pub did_not : {A : Type 0} (reply : Result A BankFault → Reply) (m : Test) (f : BankFault) (x : A) (B C D : Tables)
    → m ≡ Err f → C ≡ B → ◌≡◌ {A = Reply × Tables} (reply (Err f), C) (unless reply m x B D)
did_not {A} reply m f x B C D e g =
    subst (λ (n : Test). ◌≡◌ {A = Reply × Tables} (reply (Err f), C) (unless reply n x B D)) (sym e) (λ i. (reply (Err f), g i))

-- The refusals by their tests

-- of an arrival or a departure: whether there is no such agent, whether it is idle, whether the tally is open, and the last test
abbrev may : Bool → Bool → Bool → Test → Test
may high rests below last =
    and_then (cond high (Err fault.NoAgent) (cond rests (Ok tt) (Err fault.HasErrand))) (and_then (cond below (Ok tt) (Err fault.NotOpen)) last)

refuses : (high rests below : Bool) (last : Test) (l : Option ℕ) → (below ≡ true → l ≡ told last)
    → cond high (Some 12) (cond (not rests) (Some 13) (cond (not below) (Some 15) l)) ≡ told (may high rests below last)
refuses true rests below last l e = refl
refuses false false below last l e = refl
refuses false true false last l e = refl
refuses false true true last l e = e refl

-- one test that passes or fails
passes : (b : Bool) (f : BankFault) → cond (not b) (Some (number f)) None ≡ told (cond b (Ok tt) (Err f))
passes true f = refl
passes false f = refl

place_refused : (takes low : Bool)
    → cond (not takes) (Some 16) (cond (not low) (Some 17) None) ≡ told (cond takes (cond low (Ok tt) (Err fault.Crowded)) (Err fault.NoPlace))
place_refused false low = refl
place_refused true low = passes low fault.Crowded

receipt_refused : (none : Bool) → cond none (Some 18) None ≡ told (cond none (Err fault.NoReceipt) (Ok tt))
receipt_refused true = refl
receipt_refused false = refl

turn_by : (high rests : Bool) → cond high (Some 12) (cond (not rests) None (Some 14)) ≡ told (cond high (Err fault.NoAgent) (cond rests (Err fault.Idle) (Ok tt)))
turn_by true rests = refl
turn_by false true = refl
turn_by false false = refl

pub not_below : (t o : ℕ) → leb o t ≡ not (ltb t o)
not_below t o = grind (arith, nat_tests)

-- an agent with an errand is in another phase than idle
leaving_works : (h t : ℕ) → works (leaving h t) ≡ true
leaving_works zero t = refl
leaving_works (suc h) t = refl

works_by : (p : Phase) (h t : ℕ) → works (doing_by p h t) ≡ not (idles p)
works_by Idle h t = refl
works_by (Grow s c) h t = refl
works_by (Fork s) h t = refl
works_by Read h t = refl
works_by Raise h t = refl
works_by Open h t = refl
works_by Settle h t = refl
works_by Look h t = leaving_works h t
works_by Lower h t = leaving_works h t

-- What a test that lets a call through has shown

some_none : (n : ℕ) → ◌≡◌ {A = Option ℕ} (Some n) None → ⊥
some_none n e = let z : ◌≡◌ {A = ℕ} 0 1 = cc in omega arith

may_none : (high rests below : Bool) (last : Test) → told (may high rests below last) ≡ None → (high ≡ false) × (rests ≡ true) × (below ≡ true) × (told last ≡ None)
may_none true rests below last e = absurd (some_none 12 e)
may_none false false below last e = absurd (some_none 13 e)
may_none false true false last e = absurd (some_none 15 e)
may_none false true true last e = (refl, refl, refl, e)

passed : (b : Bool) (f : BankFault) → told (cond b (Ok tt) (Err f)) ≡ None → b ≡ true
passed true f e = refl
passed false f e = absurd (some_none (number f) e)

place_some : (takes : Bool) (last : Test) → told (cond takes last (Err fault.NoPlace)) ≡ None → (takes ≡ true) × (told last ≡ None)
place_some true last e = (refl, e)
place_some false last e = absurd (some_none 16 e)

receipt_some : (has : Bool) (n : ℕ) → told (cond (eqb (cond has n 0) 0) (Err fault.NoReceipt) (Ok tt)) ≡ None → (has ≡ true) × (1 ≤ n)
receipt_some false n e = absurd (some_none 18 e)
receipt_some true zero e = absurd (some_none 18 e)
receipt_some true (suc n) e = (refl, omega arith)

turn_some : (high rests : Bool) → told (cond high (Err fault.NoAgent) (cond rests (Err fault.Idle) (Ok tt))) ≡ None → (high ≡ false) × (rests ≡ false)
turn_some true rests e = absurd (some_none 12 e)
turn_some false true e = absurd (some_none 14 e)
turn_some false false e = (refl, refl)

low_agent : (a : ℕ) → ltb 15 a ≡ false → a < 16
low_agent a e = grind (arith, nat_tests)

pub record Arriving (L : Layout) (B : Tables) (a t p : ℕ) : Type 0 where
  pub agent : a < 16
  pub rests : idles (job B.ledger a).phase ≡ true
  pub here : t < B.ledger.opened
  pub place : L.takes B t p ≡ true
  pub room : load_of B.ledger t < 2048

pub record Departing (L : Layout) (B : Tables) (a t p : ℕ) : Type 0 where
  pub agent : a < 16
  pub rests : idles (job B.ledger a).phase ≡ true
  pub here : t < B.ledger.opened
  pub place : L.has B t p ≡ true
  pub some : 1 ≤ (at B.nodes (L.base t + p)).out

module _ (L : Layout) (l : Lays L) (B : Tables) where
  works_not : (a : ℕ) → works (doing_of (job B.ledger a)) ≡ not (idles (job B.ledger a).phase)
  works_not a = let e = job B.ledger a in works_by e.phase e.waiting.height e.tally

  pub open_refused : open_refusal (meaning L B) ≡ told (may_open B.tallies B.ledger)
  open_refused = rw (not_below B.ledger.opened B.tallies) (passes (ltb B.ledger.opened B.tallies) fault.Full)

  -- the load is the crowd
  pub load_is : ∥ Sound L B ∥₁ → (t : ℕ) → t < B.ledger.opened → crowd (meaning L B) t ≡ load_of B.ledger t
  load_is s t o = nat_from (crowd (meaning L B) t) (load_of B.ledger t) s (λ k. crowd_is L l B k t o ∙ sym (k.loads t (omega (arith, k.few, k.many))))

  pub arrive_refused : ∥ Sound L B ∥₁ → (a t p : ℕ) → arrive_refusal (meaning L B) a t p ≡ told (may_arrive L B a t p)
  arrive_refused s a t p =
      rw (works_not a, not_below t B.ledger.opened)
      (refuses (ltb 15 a) (idles (job B.ledger a).phase) (ltb t B.ledger.opened) _ _
      (λ here.
      let o : t < B.ledger.opened = ltb-true t B.ledger.opened here in
      rw (load_is s t o, here, not_below (load_of B.ledger t) 2048) (place_refused (L.takes B t p) (ltb (load_of B.ledger t) 2048))))

  pub depart_refused : (a t p : ℕ) → depart_refusal (meaning L B) a t p ≡ told (may_depart L B a t p)
  depart_refused a t p =
      rw (works_not a, not_below t B.ledger.opened)
      (refuses (ltb 15 a) (idles (job B.ledger a).phase) (ltb t B.ledger.opened) _ _ (λ here. rw here (receipt_refused (eqb (out_at L B t p) 0))))

  pub turn_refused : (a : ℕ) → turn_refusal (meaning L B) a ≡ told (may_turn B.ledger a)
  turn_refused a = rw (works_not a) (turn_by (ltb 15 a) (idles (job B.ledger a).phase))

  pub reading_refused : (t : ℕ) → reading_refusal (meaning L B) t ≡ told (shut B.ledger t)
  reading_refused t = rw (not_below t B.ledger.opened) (passes (ltb t B.ledger.opened) fault.NotOpen)

  pub opens_low : told (may_open B.tallies B.ledger) ≡ None → B.ledger.opened < B.tallies
  opens_low e = ltb-true B.ledger.opened B.tallies (passed (ltb B.ledger.opened B.tallies) fault.Full e)

  pub arrives_so : (a t p : ℕ) → told (may_arrive L B a t p) ≡ None → Arriving L B a t p
  arrives_so a t p e =
      let n = load_of B.ledger t in
      let m = may_none (ltb 15 a) (idles (job B.ledger a).phase) (ltb t B.ledger.opened) (cond (L.takes B t p) (roomy B.ledger t) (Err fault.NoPlace)) e in
      let (takes, low) = place_some (L.takes B t p) (roomy B.ledger t) m.3 in
      record {
        agent = low_agent a m.0;
        rests = m.1;
        here = ltb-true t B.ledger.opened m.2;
        place = takes;
        room = ltb-true n 2048 (passed (ltb n 2048) fault.Crowded low);
      }

  pub departs_so : (a t p : ℕ) → told (may_depart L B a t p) ≡ None → Departing L B a t p
  departs_so a t p e =
      let m = may_none (ltb 15 a) (idles (job B.ledger a).phase) (ltb t B.ledger.opened) (cond (eqb (out_at L B t p) 0) (Err fault.NoReceipt) (Ok tt)) e in
      let (has, some) = receipt_some (L.has B t p) (at B.nodes (L.base t + p)).out m.3 in
      record { agent = low_agent a m.0; rests = m.1; here = ltb-true t B.ledger.opened m.2; place = has; some = some }

  pub turns_so : (a : ℕ) → told (may_turn B.ledger a) ≡ None → (a < 16) × (idles (job B.ledger a).phase ≡ false)
  turns_so a e = let m = turn_some (ltb 15 a) (idles (job B.ledger a).phase) e in (low_agent a m.0, m.1)

  pub reads_so : (t : ℕ) → told (shut B.ledger t) ≡ None → t < B.ledger.opened
  reads_so t e = ltb-true t B.ledger.opened (passed (ltb t B.ledger.opened) fault.NotOpen e)
