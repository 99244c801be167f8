-- What every bank shows in every state holds of sound tables.
use Rattle.std.proofs.Common.{◌≡◌, ℕ, zero, suc, ◌+◌, ◌-◌, ◌*◌, ◌<◌, ◌≤◌, true, false, ltb, length, sym, refl, ap, ◌∙◌, subst, inl, inr, arith}
use Rattle.std.proofs.lemmas.List.{get_or_past}
use Rattle.std.proofs.lemmas.Bool.{cases_lt, cond-false, le-ltb}
use Rattle.words.specs.declared.kind.Kind.{Kind}
use Rattle.words.specs.declared.kind.Kind.TheVariants.{Empty, Half, Counted}
use Rattle.words.specs.declared.word.Word.{Word}
use Rattle.forest.specs.declared.errand.Errand.{Errand}
use Rattle.forest.specs.declared.errand.Phase.{Phase}
use Rattle.forest.specs.declared.errand.Phase.TheVariants.{Idle, Grow, Fork, Read, Raise, Open, Settle, Look, Lower}
use Rattle.forest.specs.Agents.{cell_by, agent, agent_by, begins, leaving, doing_by, doing_of}
use Rattle.forest.specs.Climb as climb
use Rattle.forest.specs.Climb.{Above, aim, Elsewhere}
use Rattle.forest.specs.Errands.{no_errand}
use Rattle.forest.specs.Layouts.{Layout, root, out_at, empty?, zero?}
use Rattle.forest.specs.Ledgers.{job}
use Rattle.forest.specs.Lone.{lone}
use Rattle.banks.specs.Meaning.{idle, arriving, departing, Lawful, New}
use Rattle.forest.specs.Shown.{lone_by, lone_of, meaning}
use Rattle.forest.specs.Sound.{par_of, state_of, In, outs_of, Sound}
use Rattle.forest.specs.Tables.{Tables, at}
use Rattle.forest.proofs.Changes.{outs_own}
use Rattle.forest.proofs.ClimbBounds.{lone_zero, lone_bounded}
use Rattle.forest.proofs.ClimbReads.{held_counted, zero_empty}
use Rattle.forest.proofs.Counting.{never}
use Rattle.forest.proofs.Doings.{doing_as, doing_is, node_is, awake, moves_if, calm_moving, counted_kind}
use Rattle.forest.specs.Lays.{Lays}
use Rattle.forest.proofs.Lists.{le_from, nat_from, bool_from}
use Rattle.forest.proofs.Outs.{out_open, outs_in, out_past, out_is}
use Rattle.forest.proofs.Moving.{moving}
use Rattle.forest.proofs.Turning.{down_is, root_none}

-- Words

zero_kind : (k : Kind) (n v : ℕ) → climb.Empty (cell_by k n v) → empty? k ≡ true
zero_kind Empty n v c = refl
zero_kind Half n v c = absurd c
zero_kind Counted n v c = absurd c

-- Lone numbers

-- g is 1 where an arrival begins with the growth turns
grown : (d m g : ℕ) → 1 ≤ g → g ≤ 1 → g * (4 * d + 4) ≤ m → 4 * d + 4 ≤ m
grown d m g i j k =
    let one : g ≡ 1 = omega arith in
    let h : 1 * (4 * d + 4) ≤ m = subst (λ g. g * (4 * d + 4) ≤ m) one k in
    omega arith

lone_in : (p : Phase) (d n m g : ℕ) → n ≤ m → begins p ≤ g → g ≤ 1 → g * (4 * d + 4) ≤ m → lone_by p d n ≤ m
lone_in Idle d n m g h i j k = h
lone_in (Grow s c) d n m g h i j k = grown d m g i j k
lone_in (Fork s) d n m g h i j k = omega (arith, grown d m g i j k)
lone_in Read d n m g h i j k = h
lone_in Raise d n m g h i j k = h
lone_in Open d n m g h i j k = h
lone_in Settle d n m g h i j k = h
lone_in Look d n m g h i j k = h
lone_in Lower d n m g h i j k = h

arriving_idle : (t : ℕ) → arriving t ≡ idle → ⊥
arriving_idle t e = let z : ◌≡◌ {A = ℕ} 0 1 = cc in omega arith

leaving_idle : (h t : ℕ) → leaving h t ≡ idle → ⊥
leaving_idle zero t e = let z : ◌≡◌ {A = ℕ} 0 1 = cc in omega arith
leaving_idle (suc h) t e = arriving_idle t e

rests : (p : Phase) (d n h t : ℕ) → (p ≡ Idle → n ≡ 0) → doing_by p h t ≡ idle → lone_by p d n ≡ 0
rests Idle d n h t z e = z refl
rests (Grow s c) d n h t z e = absurd (arriving_idle t e)
rests (Fork s) d n h t z e = absurd (arriving_idle t e)
rests Read d n h t z e = absurd (arriving_idle t e)
rests Raise d n h t z e = absurd (arriving_idle t e)
rests Open d n h t z e = absurd (arriving_idle t e)
rests Settle d n h t z e = absurd (arriving_idle t e)
rests Look d n h t z e = absurd (leaving_idle h t e)
rests Lower d n h t z e = absurd (leaving_idle h t e)

works_not : (p : Phase) (d n h t : ℕ) → (moving p ≡ true → n ≡ 0 → ⊥) → lone_by p d n ≡ 0 → doing_by p h t ≡ idle
works_not Idle d n h t f e = refl
works_not (Grow s c) d n h t f e = absurd (omega arith)
works_not (Fork s) d n h t f e = absurd (omega arith)
works_not Read d n h t f e = absurd (f refl e)
works_not Raise d n h t f e = absurd (f refl e)
works_not Open d n h t f e = absurd (f refl e)
works_not Settle d n h t f e = absurd (f refl e)
works_not Look d n h t f e = absurd (f refl e)
works_not Lower d n h t f e = absurd (f refl e)

-- Doings

departs_as : (b : ℕ) (m : climb.Aim) (k t : ℕ) → doing_as b m k ≡ departing t → (m ≡ climb.departing) × (k ≡ t)
departs_as zero climb.none k t e = let z : ◌≡◌ {A = ℕ} 0 1 = cc in never z
departs_as zero (climb.arriving y) k t e = let z : ◌≡◌ {A = ℕ} 0 1 = cc in never z
departs_as zero climb.departing k t e = (refl, cc)
departs_as (suc b) m k t e = let z : ◌≡◌ {A = ℕ} 0 1 = cc in never z

arrives_as : (b : ℕ) (m : climb.Aim) (k t y : ℕ) → m ≡ climb.arriving y → k ≡ t → doing_as b m k ≡ arriving t
arrives_as zero m k t y e i = ap (λ (m : climb.Aim). doing_as 0 m k) e ∙ ap arriving i
arrives_as (suc b) m k t y e i = ap arriving i

-- an agent that departs for itself is at its errand's node
goes : (e : Errand) → aim (agent e) ≡ climb.departing → moving e.phase ≡ true
goes e d = moves_if e (λ (n : aim (agent e) ≡ climb.none). let z : ◌≡◌ {A = ℕ} 0 1 = cc in omega arith)

leaves_as : (e : Errand) (t : ℕ) → aim (agent e) ≡ climb.departing → e.tally ≡ t → doing_of e ≡ departing t
leaves_as e t d i =
    doing_is e
    ∙ ap (λ b. doing_as b (aim (agent e)) e.tally) (calm_moving e.phase (goes e d))
    ∙ ap (λ (m : climb.Aim). doing_as 0 m e.tally) d
    ∙ ap departing i

module _ (L : Layout) (l : Lays L) (B : Tables) where
  abbrev e_of : ℕ → Errand
  e_of a = job B.ledger a

  abbrev number : ℕ → ℕ
  number a = lone (λ y. (at B.nodes y).depth) (state_of B).words (agent (e_of a))

  at_rest : (a : ℕ) → doing_of (e_of a) ≡ idle → lone_of L B (e_of a) ≡ 0
  at_rest a h =
      let e = e_of a in
      rests e.phase L.depth (number a) e.waiting.height e.tally
      (λ i. ap (λ (p : Phase). lone (λ y. (at B.nodes y).depth) (state_of B).words (agent_by p e.node e.word e.waiting.height e.waiting.frames)) i) h

  at_work : (a : ℕ) → lone_of L B (e_of a) ≡ 0 → doing_of (e_of a) ≡ idle
  at_work a h =
      let e = e_of a in
      works_not e.phase L.depth (number a) e.waiting.height e.tally
      (λ m z. awake e m ((lone_zero (λ y. (at B.nodes y).depth) (state_of B).words (agent e)).1 z)) h

  module _ (s : Sound L B) where
    within : (a : ℕ) → lone_of L B (e_of a) ≤ L.limit
    within a =
        lone_in (e_of a).phase L.depth (number a) L.limit L.growth
        (omega (arith, lone_bounded (par_of B) (length B.nodes) 16 (λ y. (at B.nodes y).depth) s.deep L.depth s.shallow (state_of B) s.inv a, l.climbs))
        (s.grows a) l.either l.grows

    inside : (t p : ℕ) → L.bound B ≤ p → (meaning L B).out t p ≡ 0
    inside t p h = elim (cases_lt t B.ledger.opened) [
      | inl o ↦ out_open L l B t p o ∙ out_past L l B s t p o h
      | inr o ↦ cond-false (ltb t B.ledger.opened) (out_at L B t p) 0 (le-ltb t B.ledger.opened o)
    ]

    -- a root whose word is counted reads held
    held : (t : ℕ) → climb.Counted ((state_of B).words (root L t)) → zero? L B t ≡ false
    held t c = let w : Word = (at B.nodes (root L t)).word in ap empty? (counted_kind w.kind w.count w.version c)

    held_out : (t p : ℕ) → t < B.ledger.opened → 1 ≤ (meaning L B).out t p → zero? L B t ≡ false
    held_out t p o h =
        let z : ℕ = L.base t + p in
        let (i, k) = outs_in L l B s t z (omega (arith, out_open L l B t p o, out_is L l B s t p o)) in
        held t (held_counted (par_of B) (length B.nodes) 16 (down_is L l B s) (state_of B) s.inv (root L t) (root_none L l B s t o) z i.1 (inl k))

    -- an agent past the last has no errand
    crewed : (a : ℕ) → aim (agent (e_of a)) ≡ climb.departing → a < 16
    crewed a d = elim (cases_lt a 16) [
      | inl k ↦ k
      | inr k ↦
          let i : aim (agent (e_of a)) ≡ climb.none = ap (λ (e : Errand). aim (agent e)) (get_or_past B.ledger.errands a no_errand (omega (arith, s.crew))) in
          let z : ◌≡◌ {A = ℕ} 0 1 = cc in
          never z
    ]

    held_departing : (t a : ℕ) → t < B.ledger.opened → doing_of (e_of a) ≡ departing t → zero? L B t ≡ false
    held_departing t a o h =
        let e = e_of a in
        let (d, i) = departs_as (begins e.phase) (aim (agent e)) e.tally t (sym (doing_is e) ∙ h) in
        let below : Above (par_of B) (root L t) e.node = subst (λ k. Above (par_of B) (root L k) e.node) i (s.goer a d).1 in
        held t (held_counted (par_of B) (length B.nodes) 16 (down_is L l B s) (state_of B) s.inv (root L t) (root_none L l B s t o) e.node below
        (inr (a, crewed a d, d, node_is e (goes e d))))

    zero_none : (t : ℕ) → t < B.ledger.opened → ((p : ℕ) → (meaning L B).out t p ≡ 0)
        → ((a : ℕ) → (doing_of (e_of a) ≡ arriving t → ⊥) × (doing_of (e_of a) ≡ departing t → ⊥)) → zero? L B t ≡ true
    zero_none t o none apart =
        let w : Word = (at B.nodes (root L t)).word in
        zero_kind w.kind w.count w.version
        (zero_empty (par_of B) (length B.nodes) 16 (down_is L l B s) (state_of B) s.inv (root L t) (root_none L l B s t o) outs (λ a _. elsewhere a (agent (e_of a)) refl))
      where
        outs : (x : ℕ) → Above (par_of B) (root L t) x → (at B.nodes x).out ≡ 0
        outs x b =
            let p : ℕ = x - L.base t in
            let place : L.base t + p ≡ x = omega (arith, l.over B s t x (o, b)) in
            let own : outs_of B.nodes t x ≡ (at B.nodes x).out = subst (λ k. outs_of B.nodes k x ≡ (at B.nodes x).out) (s.kin t x (o, b)) (outs_own B.nodes x) in
            sym own ∙ ap (outs_of B.nodes t) (sym place) ∙ sym (out_is L l B s t p o) ∙ sym (out_open L l B t p o) ∙ none p

        -- an errand at a node of the tree is for its tally
        same : (u y : ℕ) → In L B u y → Above (par_of B) (root L t) y → u ≡ t
        same u y i b = sym (s.kin u y i) ∙ s.kin t y (o, b)

        comes_to : (a y : ℕ) → aim (agent (e_of a)) ≡ climb.arriving y → Above (par_of B) (root L t) y → ⊥
        comes_to a y d b =
            let e = e_of a in
            (apart a).0 (doing_is e ∙ arrives_as (begins e.phase) (aim (agent e)) e.tally t y d (same e.tally y (s.comer a y d) b))

        elsewhere : (a : ℕ) (m : climb.Agent) → agent (e_of a) ≡ m → Elsewhere (par_of B) (root L t) m
        elsewhere a climb.idle i = tt
        elsewhere a (climb.arr x h fs) i = comes_to a (climb.bottom x fs) (ap aim i)
        elsewhere a (climb.dep x h climb.leave) i = λ b.
            let e = e_of a in
            let here : x ≡ e.node = sym (ap climb.node i) ∙ node_is e (goes e (ap aim i)) in
            (apart a).1 (leaves_as e t (ap aim i) (same e.tally e.node (s.goer a (ap aim i)) (subst (Above (par_of B) (root L t)) here b)))
        elsewhere a (climb.dep x h (climb.back r y fs)) i = comes_to a (climb.bottom y fs) (ap aim i)

  pub lawful : ∥ Sound L B ∥₁ → Lawful (meaning L B)
  lawful s = record {
    bounded = le_from B.tallies 256 s (λ k. k.many);
    few = le_from B.ledger.opened B.tallies s (λ k. k.few);
    low = l.low;
    within = (λ a. le_from (lone_of L B (e_of a)) L.limit s (λ k. within k a));
    at_rest = at_rest;
    at_work = at_work;
    inside = (λ t p h. nat_from ((meaning L B).out t p) 0 s (λ k. inside k t p h));
    held_out = (λ t p o h. bool_from (zero? L B t) false s (λ k. held_out k t p o h));
    held_departing = (λ t a o h. bool_from (zero? L B t) false s (λ k. held_departing k t a o h));
    zero_none = (λ t o none apart. bool_from (zero? L B t) true s (λ k. zero_none k t o none apart));
  }

  pub new : Sound L B → B.ledger.opened ≡ 0 → ((a : ℕ) → doing_of (job B.ledger a) ≡ idle) → New (meaning L B)
  new s none rest = record {
    none_open = none;
    none_out = (λ t p. cond-false (ltb t B.ledger.opened) (out_at L B t p) 0 (le-ltb t B.ledger.opened (omega arith)));
    all_idle = rest;
    lawful = lawful ∣ s ∣₁;
  }
