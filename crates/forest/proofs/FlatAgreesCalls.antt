-- A call does to the machine that is laid flat what it does to the flat bank.
--     seen x                         an answer and the roots of the tables after it
use Rattle.std.proofs.Common.{◌≡◌, ℕ, ◌+◌, ◌-◌, ◌*◌, ◌<◌, Bool, true, false, cond, not, eqb, ltb, leb, set, None, Ok, Err, Result, sym, refl, ap, ◌∙◌, subst, arith}
use Rattle.std.proofs.lemmas.Bool.{eqb-true, ltb-true}
use Rattle.banks.specs.declared.answer.Turned.TheVariants as came
use Rattle.banks.specs.declared.fault.BankFault.{BankFault}
use Rattle.banks.specs.declared.fault.BankFault.TheVariants as fault
use Rattle.banks.specs.Calls.{Request, open_one, arrive, depart, turn, reading, Reply, opened, begun, turned, reads}
use Rattle.forest.specs.declared.errand.Errand.{Errand}
use Rattle.forest.specs.declared.errand.Said.{Said}
use Rattle.forest.specs.declared.errand.Said.TheVariants.{Going, Arrived, Departed}
use Rattle.forest.specs.Agents.{agent, said_of}
use Rattle.forest.specs.Climb.{Tells, aim, arriving}
use Rattle.forest.specs.Errands.{comer, goer}
use Rattle.forest.specs.FlatTables.{Roots, roots, roots_of, comers, heard}
use Rattle.forest.specs.FlatTables as flat
use Rattle.forest.specs.Layouts.{and_then, empty?, may_arrive, may_depart, opens, sends, leaves, turns, heard_of, read_by, unless, performed}
use Rattle.forest.specs.Layouts as layouts
use Rattle.forest.specs.Ledgers.{Test, job, load_of, may_open, free, shut, may_turn}
use Rattle.forest.specs.Plans.{flat_layout}
use Rattle.forest.specs.Sound.{Sound}
use Rattle.forest.specs.Tables.{Tables, root_node, at, taken, after_turn}
use Rattle.forest.proofs.FlatAgreesCounts.{load_is}
use Rattle.forest.proofs.FlatAgreesMeaning.{out_is}
use Rattle.forest.proofs.FlatAgreesNodes.{own}
use Rattle.forest.proofs.Lists.{nat_from}
use Rattle.forest.specs.Laws.{flat_lays}
use Rattle.forest.proofs.Refused.{told, not_below, departs_so, turns_so}
use Rattle.forest.proofs.Moving.{moving}
use Rattle.forest.proofs.Sizes.{only_moves}
use Rattle.forest.proofs.Ways.{climbs_by}
use Rattle.forest.proofs.Turning as turning

abbrev pub seen : Reply × Tables → Reply × Roots
seen x = (x.0, roots_of x.1)

-- the same test lets through, and then the answer and the roots are the same
by_test : {A : Type 0} (reply : Result A BankFault → Reply) (m n : Test) (x y : A) (B C : Tables) (U : Roots) → m ≡ n
    → (told m ≡ None → x ≡ y) → (told m ≡ None → roots_of C ≡ U) → ◌≡◌ {A = Reply × Roots} (seen (unless reply m x B C)) (flat.unless reply n y (roots_of B) U)
by_test {A} reply (Ok u) n x y B C U e f g =
    subst (λ (k : Test). ◌≡◌ {A = Reply × Roots} (reply (Ok x), roots_of C) (flat.unless reply k y (roots_of B) U)) e (λ i. (reply (Ok (f refl i)), g refl i))
by_test {A} reply (Err k) n x y B C U e f g =
    subst (λ (j : Test). ◌≡◌ {A = Reply × Roots} (reply (Err k), roots_of B) (flat.unless reply j y (roots_of B) U)) e refl

-- of an open tally
if_open : (m last next : Test) (b : Bool) → (b ≡ true → last ≡ next)
    → and_then m (and_then (cond b (Ok tt) (Err fault.NotOpen)) last) ≡ and_then m (and_then (cond b (Ok tt) (Err fault.NotOpen)) next)
if_open m last next true e = ap (and_then m) (e refl)
if_open m last next false e = refl

room_by : (b : Bool) → ◌≡◌ {A = Test} (cond b (Ok tt) (Err fault.Crowded)) (cond (not b) (Err fault.Crowded) (Ok tt))
room_by true = refl
room_by false = refl

room_is : (l n : ℕ) → l ≡ n → ◌≡◌ {A = Test} (cond (ltb l 2048) (Ok tt) (Err fault.Crowded)) (cond (leb 2048 n) (Err fault.Crowded) (Ok tt))
room_is l n e =
    room_by (ltb l 2048)
    ∙ ap (λ b. cond b (Err fault.Crowded) (Ok tt)) (sym (not_below l 2048) ∙ ap (leb 2048) e)

module _ (B : Tables) (tall : B.tallies ≡ 256) (s : ∥ Sound flat_layout B ∥₁) where
  abbrev T : Roots
  T = roots_of B

  abbrev Same : Request → Type 0
  Same q = ◌≡◌ {A = Reply × Roots} (seen (performed flat_layout B q)) (flat.performed T q)

  opens_same : Same open_one
  opens_same =
      let o : ℕ = B.ledger.opened in
      by_test opened (may_open B.tallies B.ledger) (flat.may_open T) (o, 0) (o, 0) B (opens flat_layout B) (flat.opens T)
      (ap (λ n. cond (ltb o n) (Ok tt) (Err fault.Full)) tall) (λ _. refl)
      (λ _. ap (λ z. roots (set B.nodes z (root_node o)) B.ledger.errands (o + 1)) (let z : 1 * o ≡ o = omega arith in z))

  arrives_same : (a t p : ℕ) → may_arrive flat_layout B a t p ≡ flat.may_arrive T a t p
  arrives_same a t p = if_open (free B.ledger a) _ _ (ltb t B.ledger.opened) (λ b.
      let o : t < B.ledger.opened = ltb-true t B.ledger.opened b in
      let n : ℕ = (at B.nodes t).out + comers B.ledger.errands t in
      ap (λ (r : Test). cond (eqb p 0) r (Err fault.NoPlace)) (room_is (load_of B.ledger t) n (nat_from (load_of B.ledger t) n s (λ z. load_is B tall z t o))))

  departs_same : (a t p : ℕ) → may_depart flat_layout B a t p ≡ flat.may_depart T a t p
  departs_same a t p =
      ap (λ n. and_then (free B.ledger a) (and_then (shut B.ledger t) (cond (eqb n 0) (Err fault.NoReceipt) (Ok tt)))) (out_is B t p)

  leaves_same : (a t p : ℕ) → told (may_depart flat_layout B a t p) ≡ None → roots_of (leaves B a t (t + p)) ≡ flat.takes T a t
  leaves_same a t p free =
      let z : p ≡ 0 = eqb-true p 0 (departs_so flat_layout flat_lays B a t p free).place in
      ap (λ x. roots (taken x B.nodes) (set B.ledger.errands a (goer t x)) B.ledger.opened) (let e : t + p ≡ t = omega (arith, z) in e)

  module _ (a : ℕ) (free : told (may_turn B.ledger a) ≡ None) where
    abbrev e : Errand
    e = job B.ledger a

    moves : moving e.phase ≡ true
    moves = only_moves flat_layout flat_lays B s a refl (turns_so flat_layout flat_lays B a free).1

    -- an ended arrival is at its root, and so are the later places
    comes_to : (x : ℕ) → (after_turn B a).said ≡ Arrived x → Sound flat_layout B → aim (agent e) ≡ arriving x
    comes_to x q z =
        (subst (λ (b : Said). Tells (agent e) (agent (after_turn B a).errand) (said_of b)) q
        (turning.told flat_layout flat_lays B z a (turns_so flat_layout flat_lays B a free).0 moves)).0

    hears : (b : Said) → (after_turn B a).said ≡ b → layouts.heard e.tally e.later b ≡ heard b
    hears Going q = refl
    hears (Departed d) q = refl
    hears (Arrived x) q =
        let place : x - e.tally ≡ 0 = nat_from _ _ s (λ z. let i : x ≡ e.tally = own B tall z e.tally x (z.comer a x (comes_to x q z)) in omega arith) in
        let left : e.later.0 ≡ 0 = nat_from _ _ s (λ z. eqb-true e.later.0 0 (z.later a x (comes_to x q z)).0) in
        let right : e.later.1 ≡ 0 = nat_from _ _ s (λ z. eqb-true e.later.1 0 (z.later a x (comes_to x q z)).1) in
        λ i. came.Arrived (place i) (left i) (right i)

    turns_same : roots_of (turns B a) ≡ flat.turns T a
    turns_same = ap roots_of (climbs_by e.phase B a moves)

  abbrev zero : ℕ → Bool
  zero x = empty? (at B.nodes x).word.kind

  reads_by : (x : Bool) (b : Bool) → ◌≡◌ {A = Reply × Roots} (seen (unless reads (cond b (Ok tt) (Err fault.NotOpen)) (read_by x) B B)) (reads (cond b (Ok (read_by x)) (Err fault.NotOpen)), T)
  reads_by x true = refl
  reads_by x false = refl

  reads_same : (t : ℕ) → Same (reading t)
  reads_same t =
      let r : 1 * t ≡ t = omega arith in
      reads_by (zero (1 * t)) (ltb t B.ledger.opened)
      ∙ ap (λ x. (reads (cond (ltb t B.ledger.opened) (Ok (read_by (zero x))) (Err fault.NotOpen)), T)) r

  pub same : (q : Request) → Same q
  same open_one = opens_same
  same (arrive a t p side coin) =
      by_test begun (may_arrive flat_layout B a t p) (flat.may_arrive T a t p) tt tt B (sends B a t (comer t t (0, 0))) (flat.sends T a t) (arrives_same a t p) (λ _. refl) (λ _. refl)
  same (depart a t p) =
      by_test begun (may_depart flat_layout B a t p) (flat.may_depart T a t p) tt tt B (leaves B a t (t + p)) (flat.takes T a t) (departs_same a t p) (λ _. refl) (leaves_same a t p)
  same (turn a) =
      by_test turned (may_turn B.ledger a) (flat.may_turn T a) (heard_of flat_layout B a) (flat.heard_of T a) B (turns B a) (flat.turns T a) refl
      (λ free. hears a free (after_turn B a).said refl) (turns_same a)
  same (reading t) = reads_same t
