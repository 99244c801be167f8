-- The calls open, arrive, depart and reading keep what holds of the tables, and show the meaning of a bank; and what the code's calls ask of the tables.
use Rattle.std.proofs.Common.{◌≡◌, ℕ, ◌+◌, ◌-◌, ◌<◌, ◌≤◌, Bool, true, false, ltb, length, None, Ok, Err, sym, refl, ap, ◌∙◌, inl, inr, arith}
use mathlib.Core.Path.{fun_ext}
use Rattle.std.proofs.lemmas.Bool.{cases_eq, cases_lt, cond-true, cond-false, lt-ltb, le-ltb}
use Rattle.banks.specs.declared.answer.Coin.{Coin}
use Rattle.banks.specs.declared.answer.Side.{Side}
use Rattle.banks.specs.declared.fault.BankFault.{BankFault}
use Rattle.banks.specs.Calls.{ReadOf}
use Rattle.forest.specs.Climb.{top}
use Rattle.banks.specs.Counting.{one}
use Rattle.forest.specs.Errands.{goer}
use Rattle.forest.specs.Layouts.{Layout, root, out_at, may_arrive, may_depart, opens, sends, leaves, read_by, zero?}
use Rattle.forest.specs.Ledgers.{may_open, shut}
use Rattle.banks.specs.Meaning.{Meaning, arriving, departing, Opens, Arrives, Departs, reading_refusal}
use Rattle.forest.specs.Shown.{meaning}
use Rattle.forest.specs.Sound.{In, outs_of, Sound}
use Rattle.forest.specs.Tables.{Tables}
use Rattle.forest.proofs.OpenKeeps.{open_grown, open_none, open_outs, open_outs_root, open_sound}
use Rattle.forest.proofs.ArriveKeeps.{send_sound}
use Rattle.forest.proofs.DepartKeeps.{leave_grown, leave_outs, leave_outs_node, leave_sound}
use Rattle.forest.proofs.Changes.{outs_none, in_crew, same_grown}
use Rattle.forest.proofs.Counting.{put_by, one_same, one_other}
use Rattle.forest.specs.Lays.{Lays}
use Rattle.forest.proofs.Lists.{le_from, nat_from, again}
use Rattle.forest.proofs.Outs.{out_open, outs_in, out_is}
use Rattle.forest.proofs.Refused.{told, told_err, Arriving, Departing, open_refused, arrive_refused, depart_refused, reading_refused, opens_low, arrives_so, departs_so}
use Rattle.forest.proofs.Shows.{keeps, outs_still, outs_put, doings}
use Rattle.forest.proofs.GrowthShows.{grown_from}

reads_by : (m : Meaning) (t : ℕ) (b : Bool) → reading_refusal m t ≡ None → m.zero? t ≡ b → ReadOf m t (Ok (read_by b))
reads_by m t true free e = (free, e)
reads_by m t false free e = (free, e)

module _ (L : Layout) (l : Lays L) (B : Tables) where
  -- Reading

  pub read_shows : (t : ℕ) → told (shut B.ledger t) ≡ None → ReadOf (meaning L B) t (Ok (read_by (zero? L B t)))
  read_shows t free = reads_by (meaning L B) t (zero? L B t) (reading_refused L l B t ∙ free) refl

  pub read_refused : (t : ℕ) (f : BankFault) → shut B.ledger t ≡ Err f → ReadOf (meaning L B) t (Err f)
  read_refused t f e = reading_refused L l B t ∙ told_err (shut B.ledger t) f e

  -- the receipts that the meaning shows: those of the nodes at an open tally, else none
  shown : ∥ Sound L B ∥₁ → (t p : ℕ) → t < B.ledger.opened → (meaning L B).out t p ≡ outs_of B.nodes t (L.base t + p)
  shown s t p o = out_open L l B t p o ∙ nat_from _ _ s (λ z. out_is L l B z t p o)

  closed : (t p : ℕ) → B.ledger.opened ≤ t → (meaning L B).out t p ≡ 0
  closed t p o = cond-false (ltb t B.ledger.opened) (out_at L B t p) 0 (le-ltb t B.ledger.opened o)

-- Opening

module _ (L : Layout) (l : Lays L) (B : Tables) (s : Sound L B) (low : B.ledger.opened < B.tallies) where
  abbrev o : ℕ
  o = B.ledger.opened

  -- the receipts of the tally that opens: one at its first place
  next_outs : (p : ℕ) → outs_of (opens L B).nodes B.ledger.opened (L.base B.ledger.opened + p) ≡ one (L.first B.ledger.opened) p
  next_outs p = elim (cases_eq (L.first o) p) [
    | inl e ↦
        let r : L.base o + p ≡ root L o = omega (arith, l.first o) in
        ap (outs_of (opens L B).nodes o) r ∙ open_outs_root L l B s low o ∙ one_same o o refl ∙ sym (one_same (L.first o) p e)
    | inr n ↦
        open_outs L l B s low o (L.base o + p) (λ e. n (let i : L.first o ≡ p = omega (arith, l.first o) in i)) ∙ none ∙ sym (one_other (L.first o) p n)
  ]
    where
      none : outs_of B.nodes o (L.base o + p) ≡ 0
      none = elim (cases_lt 0 (outs_of B.nodes o (L.base o + p))) [
        | inl k ↦ absurd (omega (arith, (outs_in L l B s o (L.base o + p) k).0.0))
        | inr k ↦ omega arith
      ]

  -- those of the others stay
  other_outs : (t z : ℕ) → (B.ledger.opened ≡ t → ⊥) → outs_of (opens L B).nodes t z ≡ outs_of B.nodes t z
  other_outs t z n = elim (cases_eq (root L o) z) [
    | inl e ↦
        ap (outs_of (opens L B).nodes t) (sym e) ∙ open_outs_root L l B s low t ∙ one_other o t n
        ∙ sym (outs_none B.nodes t z (open_none L l B s low z (top z (sym e))))
    | inr m ↦ open_outs L l B s low t z m
  ]

module _ (L : Layout) (l : Lays L) (B : Tables) (s : ∥ Sound L B ∥₁) where
  pub open_keeps : told (may_open B.tallies B.ledger) ≡ None → ∥ Sound L (opens L B) ∥₁
  open_keeps free = again s (λ z. open_sound L l B z (opens_low L l B free))

  pub open_shows : told (may_open B.tallies B.ledger) ≡ None → Opens (meaning L B) (L.first B.ledger.opened) (meaning L (opens L B))
  open_shows free = record {
    free = open_refused L l B ∙ free;
    keeps = keeps L l B C s s_c (grown_from B C (again s (λ z. open_grown L l B z low))) (omega arith);
    opened = refl;
    out = put_by (meaning L B).out (meaning L C).out n (one (L.first n))
        (fun_ext (λ p. shown L l C s_c n p (omega arith) ∙ nat_from _ _ s (λ z. next_outs L l B z low p)))
        (λ t m. fun_ext (λ p. elim (cases_lt t n) [
          | inl h ↦ shown L l C s_c t p (omega arith) ∙ nat_from _ _ s (λ z. other_outs L l B z low t (L.base t + p) m) ∙ sym (shown L l B s t p h)
          | inr h ↦ closed L l C t p (omega arith) ∙ sym (closed L l B t p h)
        ]));
    doing = refl;
    first = cond-true (ltb n (n + 1)) (L.takes C n (L.first n)) false (lt-ltb n (n + 1) (omega arith)) ∙ l.takes_first C n;
  }
    where
      n : ℕ
      n = B.ledger.opened

      C : Tables
      C = opens L B

      low : B.ledger.opened < B.tallies
      low = opens_low L l B free

      s_c : ∥ Sound L (opens L B) ∥₁
      s_c = open_keeps free

  -- Beginning an errand

  crew_has : (a : ℕ) → a < 16 → a < length B.ledger.errands
  crew_has a in_a = le_from _ _ s (λ z. in_crew L B z a in_a)

  module _ (a t p : ℕ) (d : Side) (c : Coin) (free : told (may_arrive L B a t p) ≡ None) where
    so : Arriving L B a t p
    so = arrives_so L l B a t p free

    pub arrive_keeps : ∥ Sound L (sends B a t (L.start a t p d c)) ∥₁
    arrive_keeps = again s (λ z. send_sound L l B z a t (L.start a t p d c) so.agent so.rests so.here so.room
        (l.starts B z a t p d c so.agent so.here so.place))

    pub arrive_shows : Arrives (meaning L B) a t p (meaning L (sends B a t (L.start a t p d c)))
    arrive_shows =
        let e = L.start a t p d c in
        let C : Tables = sends B a t e in
        let in_e = crew_has a so.agent in
        record {
          free = arrive_refused L l B s a t p ∙ free;
          keeps = keeps L l B C s arrive_keeps (same_grown B a so.agent in_e e C.ledger.load) (omega arith);
          opened = refl;
          out = outs_still L l B C s arrive_keeps refl (λ k z. refl);
          doing = doings B.ledger.errands a e (arriving t) in_e (l.begins a t p d c);
        }

  module _ (a t p : ℕ) (free : told (may_depart L B a t p) ≡ None) where
    gone : Departing L B a t p
    gone = departs_so L l B a t p free

    abbrev x : ℕ
    x = L.base t + p

    abbrev D : Tables
    D = leaves B a t (L.base t + p)

    in_x : Sound L B → In L B t (L.base t + p)
    in_x z = (gone.here, (l.has_in B z t p gone.here gone.place).0)

    pub depart_keeps : ∥ Sound L (leaves B a t (L.base t + p)) ∥₁
    depart_keeps = again s (λ z. leave_sound L l B z a t x gone.agent gone.rests (in_x z) gone.some)

    fewer_here : Sound L B → (k : ℕ) → outs_of B.nodes k x ≡ outs_of D.nodes k x + one t k
    fewer_here z k = leave_outs_node L l B z a t x gone.agent gone.rests (in_x z) gone.some k

    same_there : Sound L B → (k y : ℕ) → (k ≡ t → y ≡ x → ⊥) → outs_of D.nodes k y ≡ outs_of B.nodes k y
    same_there z k y n = elim (cases_eq x y) [
      | inl e ↦ omega (arith, fewer_here z k, one_other t k (λ i. n (sym i) (sym e)), ap (outs_of D.nodes k) e, ap (outs_of B.nodes k) e)
      | inr m ↦ leave_outs L l B z a t x gone.agent gone.rests (in_x z) gone.some k y m
    ]

    pub depart_shows : Departs (meaning L B) a t p (meaning L (leaves B a t (L.base t + p)))
    depart_shows = record {
      free = depart_refused L l B a t p ∙ free;
      keeps = keeps L l B D s depart_keeps
          (grown_from B D (again s (λ z. leave_grown L l B z a t x gone.agent gone.rests (in_x z) gone.some))) (omega arith);
      opened = refl;
      out = outs_put L l B D s depart_keeps refl t p ((meaning L B).out t p - 1) gone.here
          (nat_from _ _ s (λ z. omega (arith, fewer_here z t, one_same t t refl, shown L l B s t p gone.here)))
          (λ k y n. nat_from _ _ s (λ z. same_there z k y n));
      doing = doings B.ledger.errands a (goer t x) (departing t) (crew_has a gone.agent) refl;
    }
