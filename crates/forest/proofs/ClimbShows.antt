-- A turn that climbs or comes down keeps what holds of the tables, and shows the meaning of a bank.
use Rattle.std.proofs.Common.{◌≡◌, ℕ, ◌+◌, ◌-◌, ◌<◌, ◌≤◌, Bool, true, false, ltb, length, None, sym, refl, ap, ◌∙◌, subst, inl, inr, arith}
use mathlib.Core.Path.{fun_ext}
use Rattle.std.proofs.lemmas.Bool.{cases_eq, cases_Bool, cond-true, lt-ltb, false≢true}
use Rattle.words.specs.declared.kind.Kind.{Kind}
use Rattle.words.specs.declared.kind.Kind.TheVariants.{Empty, Half, Counted}
use Rattle.words.specs.declared.word.Word.{Word}
use Rattle.forest.specs.declared.errand.After.{After}
use Rattle.forest.specs.declared.errand.Errand.{Errand}
use Rattle.forest.specs.declared.errand.Phase.{Phase}
use Rattle.forest.specs.declared.errand.Phase.TheVariants.{Idle, Grow, Fork, Read, Raise, Open, Settle, Look, Lower}
use Rattle.forest.specs.declared.errand.Said.{Said}
use Rattle.forest.specs.declared.errand.Said.TheVariants.{Going, Arrived, Departed}
use Rattle.forest.specs.Agents.{cell, cell_by, agent, said_of, begins, doing_of}
use Rattle.banks.specs.Calls.{ComesTo}
use Rattle.forest.specs.Climb as climb
use Rattle.banks.specs.Counting.{put, one}
use Rattle.forest.specs.Errands.{no_errand}
use Rattle.forest.specs.Layouts.{Layout, root, heard, empty?}
use Rattle.forest.specs.Ledgers.{job}
use Rattle.forest.specs.Lone.{lone}
use Rattle.banks.specs.Meaning.{Doing, idle, Turns, Goes, turn_refusal}
use Rattle.banks.specs.Meaning.{Arrived as ArrivedOf, Departed as DepartedOf}
use Rattle.forest.specs.Shown.{lone_by, meaning}
use Rattle.forest.specs.Sound.{par_of, state_of, In, outs_of, Sound}
use Rattle.forest.specs.Tables.{Tables, at, after_turn, climbs}
use Rattle.forest.proofs.Changes.{in_crew, outs_same, outs_more}
use Rattle.forest.proofs.ClimbLone.{lone_falls}
use Rattle.forest.proofs.ClimbReads.{drained_exactly}
use Rattle.forest.proofs.Counting.{at_set, one_same, one_other, false_true}
use Rattle.forest.proofs.Doings.{doing_as, node_is, awake, calm_moving}
use Rattle.forest.specs.Lays.{Lays, Grown}
use Rattle.forest.proofs.Lists.{le_from, nat_from, bool_from, doing_from, again}
use Rattle.forest.proofs.Outs.{out_open, out_is}
use Rattle.forest.proofs.Shows.{keeps, outs_still, outs_put, doings}
use Rattle.forest.proofs.Moving.{moving}
use Rattle.forest.proofs.Turning as turning
use Rattle.forest.proofs.GrowthShows.{grown_from, doing_same}

lone_calm : (p : Phase) (d n : ℕ) → begins p ≡ 0 → lone_by p d n ≡ n
lone_calm Idle d n e = refl
lone_calm (Grow s c) d n e = let z : ⊥ = omega arith in absurd z
lone_calm (Fork s) d n e = let z : ⊥ = omega arith in absurd z
lone_calm Read d n e = refl
lone_calm Raise d n e = refl
lone_calm Open d n e = refl
lone_calm Settle d n e = refl
lone_calm Look d n e = refl
lone_calm Lower d n e = refl

-- words
empty_when : (k : Kind) (n v : ℕ) → empty? k ≡ true → climb.Empty (cell_by k n v)
empty_when Empty n v e = tt
empty_when Half n v e = absurd (false_true e)
empty_when Counted n v e = absurd (false_true e)

is_empty : (k : Kind) (n v : ℕ) → climb.Empty (cell_by k n v) → empty? k ≡ true
is_empty Empty n v c = refl
is_empty Half n v c = absurd c
is_empty Counted n v c = absurd c

module _ (L : Layout) (l : Lays L) (B : Tables) (s : ∥ Sound L B ∥₁) (a : ℕ) (in_a : a < 16) (free : turn_refusal (meaning L B) a ≡ None) where
  abbrev e : Errand
  e = job B.ledger a

  in_e : a < length B.ledger.errands
  in_e = le_from _ _ s (λ z. in_crew L B z a in_a)

  module _ (mo : moving (job B.ledger a).phase ≡ true) where
    abbrev C : Tables
    C = climbs B a

    abbrev r : After
    r = after_turn B a

    abbrev t : ℕ
    t = e.tally

    pub s_c : ∥ Sound L C ∥₁
    s_c = again s (λ z. turning.turn_sound L l B z a in_a mo)

    grown : Grown B C
    grown = grown_from B C (again s (λ z. turning.turn_grown L l B z a in_a mo))

    here : job C.ledger a ≡ r.errand
    here = at_set B.ledger.errands a r.errand no_errand in_e

    falls_by : Sound L B → (meaning L C).lone a < (meaning L B).lone a
    falls_by z =
        let deep_b : ℕ → ℕ = λ y. (at B.nodes y).depth in
        let deep_c : ℕ → ℕ = λ y. (at C.nodes y).depth in
        let same : deep_c ≡ deep_b = fun_ext (turning.depth_still L l B z a in_a mo) in
        let low : lone deep_b (climb.turn (par_of B) (state_of B) a).words ((climb.turn (par_of B) (state_of B) a).agents a) + 1 ≤ lone deep_b (state_of B).words ((state_of B).agents a) =
        lone_falls (par_of B) (length B.nodes) 16 (turning.down_is L l B z) deep_b z.deep (state_of B) a in_a z.inv (awake e mo) in
        let st : lone deep_b (state_of C).words ((state_of C).agents a) ≡ lone deep_b (climb.turn (par_of B) (state_of B) a).words ((climb.turn (par_of B) (state_of B) a).agents a) =
        ap (λ (k : climb.State). lone deep_b k.words (k.agents a)) (turning.turn_state L l B z a in_a mo) in
        let dp : lone deep_c (state_of C).words ((state_of C).agents a) ≡ lone deep_b (state_of C).words ((state_of C).agents a) = ap (λ (g : ℕ → ℕ). lone g (state_of C).words ((state_of C).agents a)) same in
        let now : (meaning L C).lone a ≡ lone deep_c (state_of C).words ((state_of C).agents a) =
        lone_calm (job C.ledger a).phase L.depth _ (ap (λ (f : Errand). begins f.phase) here ∙ turning.turn_calm L l B z a in_a mo) in
        let was : (meaning L B).lone a ≡ lone deep_b (state_of B).words ((state_of B).agents a) = lone_calm e.phase L.depth _ (calm_moving e.phase mo) in
        omega (arith, low, st, dp, now, was)

    turns_so_far : Turns (meaning L B) a (meaning L C)
    turns_so_far = record { free = free; keeps = keeps L l B C s s_c grown (omega arith); falls = le_from _ _ s falls_by; opened = refl }

    -- the receipts of a node where no arrival has ended
    still_out : (b : Said) → r.said ≡ b → (k z : ℕ) → climb.receipt (said_of b) z ≡ 0 → Sound L B → outs_of C.nodes k z ≡ outs_of B.nodes k z
    still_out b q k z n d =
        outs_same B.nodes C.nodes k z (turning.tally_still L l B d a in_a mo z)
        (let o = turning.outs_now L l B d a in_a mo z in let m : climb.receipt (said_of r.said) z ≡ 0 = ap (λ (b : Said). climb.receipt (said_of b) z) q ∙ n in omega (arith, o, m))

    told_by : (b : Said) → r.said ≡ b → Sound L B → climb.Tells (agent e) (agent r.errand) (said_of b)
    told_by b q z = subst (λ (b : Said). climb.Tells (agent e) (agent r.errand) (said_of b)) q (turning.told L l B z a in_a mo)

    doing_put : (d : Doing) → (Sound L B → doing_of r.errand ≡ d) → (meaning L C).doing ≡ put (meaning L B).doing a d
    doing_put d f = doings B.ledger.errands a r.errand d in_e (doing_from _ _ s f)

    idle_by : climb.aim (agent r.errand) ≡ climb.none → Sound L B → doing_of r.errand ≡ idle
    idle_by h z = turning.doing_after L l B z a in_a mo ∙ ap (λ (m : climb.Aim). doing_as 0 m r.errand.tally) h

    was_by : (m : climb.Aim) → climb.aim (agent e) ≡ m → Sound L B → doing_of e ≡ doing_as 0 m t
    was_by m h z = turning.doing_before L l B z a in_a mo ∙ ap (λ (m : climb.Aim). doing_as 0 m t) h

    -- the errand goes on
    going_shows : r.said ≡ Going → Goes (meaning L B) a (meaning L C)
    going_shows q = record {
      turns = turns_so_far;
      out = outs_still L l B C s s_c refl (λ k z. nat_from _ _ s (still_out Going q k z refl));
      doing = doing_same L l B s a in_a free r.errand (doing_from _ _ s (λ z. turning.going_doing L l B z a in_a mo q));
    }

    -- an arrival has ended at the node y
    module _ (y : ℕ) (q : r.said ≡ Arrived y) where
      abbrev p : ℕ
      p = y - L.base t

      inside : Sound L B → In L B t y
      inside z = z.comer a y (told_by (Arrived y) q z).0

      low : t < B.ledger.opened
      low = le_from _ _ s (λ z. (inside z).0)

      place_is : L.base t + p ≡ y
      place_is = let o : L.base t ≤ y = le_from _ _ s (λ z. l.over B z t y (inside z)) in omega (arith, o)

      more_out : Sound L B → outs_of C.nodes t (L.base t + p) ≡ (meaning L B).out t p + 1
      more_out z =
          let was : (meaning L B).out t p ≡ outs_of B.nodes t (L.base t + p) = out_open L l B t p low ∙ out_is L l B z t p low in
          let here_y : outs_of B.nodes t (L.base t + p) ≡ outs_of B.nodes t y = ap (outs_of B.nodes t) place_is in
          let there_y : outs_of C.nodes t (L.base t + p) ≡ outs_of C.nodes t y = ap (outs_of C.nodes t) place_is in
          let more : outs_of C.nodes t y ≡ outs_of B.nodes t y + one (at B.nodes y).tally t =
          outs_more B.nodes C.nodes t y (turning.tally_still L l B z a in_a mo y)
          (turning.outs_now L l B z a in_a mo y ∙ ap (λ (b : Said). (at B.nodes y).out + climb.receipt (said_of b) y) q ∙ ap (λ (n : ℕ). (at B.nodes y).out + n) (one_same y y refl)) in
          let own : one (at B.nodes y).tally t ≡ 1 = one_same (at B.nodes y).tally t (z.kin t y (inside z)) in
          omega (arith, was, here_y, there_y, more, own)

      else_out : (k z : ℕ) → (k ≡ t → z ≡ L.base t + p → ⊥) → Sound L B → outs_of C.nodes k z ≡ outs_of B.nodes k z
      else_out k z apart d = elim (cases_eq y z) [
        | inr n ↦ still_out (Arrived y) q k z (one_other y z n) d
        | inl i ↦ subst (λ (x : ℕ). outs_of C.nodes k x ≡ outs_of B.nodes k x) i
            (let more : outs_of C.nodes k y ≡ outs_of B.nodes k y + one (at B.nodes y).tally k =
            outs_more B.nodes C.nodes k y (turning.tally_still L l B d a in_a mo y)
            (turning.outs_now L l B d a in_a mo y ∙ ap (λ (b : Said). (at B.nodes y).out + climb.receipt (said_of b) y) q ∙ ap (λ (n : ℕ). (at B.nodes y).out + n) (one_same y y refl)) in
            let none : one (at B.nodes y).tally k ≡ 0 =
            one_other (at B.nodes y).tally k (λ (g : (at B.nodes y).tally ≡ k). apart (sym g ∙ d.kin t y (inside d)) (sym i ∙ sym place_is)) in
            omega (arith, more, none))
      ]

      later_place : (x : ℕ) → (Sound L B → L.takes B t x ≡ true) → (meaning L C).place t x ≡ true
      later_place x f = cond-true (ltb t B.ledger.opened) (L.takes C t x) false (lt-ltb t B.ledger.opened low) ∙ l.stays B C grown t x (bool_from _ _ s f)

      arrived_shows : ArrivedOf (meaning L B) a t p e.later.0 e.later.1 (meaning L C)
      arrived_shows = record {
        turns = turns_so_far;
        was = doing_from _ _ s (λ z. was_by (climb.arriving y) (told_by (Arrived y) q z).0 z);
        out = outs_put L l B C s s_c refl t p ((meaning L B).out t p + 1) low (nat_from _ _ s more_out) (λ k z apart. nat_from _ _ s (else_out k z apart));
        doing = doing_put idle (λ z. idle_by (told_by (Arrived y) q z).1 z);
        left = later_place e.later.0 (λ z. (z.later a y (told_by (Arrived y) q z).0).0);
        right = later_place e.later.1 (λ z. (z.later a y (told_by (Arrived y) q z).0).1);
      }

    -- a departure has ended
    says : (d : Bool) → r.said ≡ Departed d → Sound L B → d ≡ (meaning L C).zero? t
    says d q z = elim (cases_Bool (empty? w.kind)) [
      | inl b ↦ drains.1 (subst climb.Empty word (empty_when w.kind w.count w.version b)) ∙ sym b
      | inr b ↦ elim (cases_Bool d) [
        | inl c ↦ absurd (false≢true (sym b ∙ is_empty w.kind w.count w.version (subst climb.Empty (sym word) (drains.0 c))))
        | inr c ↦ c ∙ sym b
      ]
    ]
      where
        w : Word
        w = (at C.nodes (root L t)).word

        word : cell (at C.nodes (root L t)).word ≡ (climb.turn (par_of B) (state_of B) a).words (root L t)
        word = λ i. (turning.turn_state L l B z a in_a mo i).words (root L t)

        live : In L B t e.node
        live = turning.live L l B z a in_a mo

        drains : (d ≡ true → climb.Empty ((climb.turn (par_of B) (state_of B) a).words (root L t))) × (climb.Empty ((climb.turn (par_of B) (state_of B) a).words (root L t)) → d ≡ true)
        drains =
            drained_exactly (par_of B) (length B.nodes) 16 (turning.down_is L l B z) (state_of B) a in_a z.inv (told_by (Departed d) q z).0 (root L t)
            (turning.root_none L l B z t live.0) (subst (climb.Above (par_of B) (root L t)) (sym (node_is e mo)) live.1) d
            (ap climb.answer_of (sym (turning.is_step L l B z a in_a mo)) ∙ ap said_of q)

    departed_shows : (d : Bool) → r.said ≡ Departed d → DepartedOf (meaning L B) a t d (meaning L C)
    departed_shows d q = record {
      turns = turns_so_far;
      was = doing_from _ _ s (λ z. was_by climb.departing (told_by (Departed d) q z).0 z);
      out = outs_still L l B C s s_c refl (λ k z. nat_from _ _ s (still_out (Departed d) q k z refl));
      doing = doing_put idle (λ z. idle_by (told_by (Departed d) q z).1 z);
      says = bool_from _ _ s (says d q);
    }

    pub said_shows : (b : Said) → r.said ≡ b → ComesTo (meaning L B) a (heard (L.base t) e.later b) (meaning L C)
    said_shows Going q = going_shows q
    said_shows (Arrived y) q = (t, arrived_shows y q)
    said_shows (Departed d) q = (t, departed_shows d q)
