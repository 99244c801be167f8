-- What holds of the tables where an agent climbs or comes down, and that its turn keeps it.
use Rattle.std.proofs.Common.{◌≡◌, ℕ, ◌+◌, ◌*◌, ◌<◌, ◌≤◌, true, List, length, Some, None, Option, sym, refl, ap, ◌∙◌, subst, inl, inr, arith}
use mathlib.Core.Path.{fun_ext}
use Rattle.std.proofs.lemmas.Bool.{cases_eq, cases_lt}
use Rattle.std.proofs.lemmas.List.{length-set, get_or-set_same, get_or-set_other}
use Rattle.words.specs.declared.kind.Kind.TheVariants.{Counted}
use Rattle.words.specs.declared.word.Word.{Word}
use Rattle.forest.specs.declared.errand.After.{After}
use Rattle.forest.specs.declared.errand.Errand.{Errand}
use Rattle.forest.specs.declared.errand.Said.{Said}
use Rattle.forest.specs.declared.errand.Said.TheVariants.{Going, Arrived, Departed}
use Rattle.forest.specs.declared.node.Node.{Node}
use Rattle.forest.specs.Agents.{cell, agent, said_of, written, after_of, begins, doing_of, Fit}
use Rattle.forest.specs.Climb as climb
use Rattle.forest.specs.Climb.{State, Above, top, via, aim, none, arriving, departing, Tells, Ok, Down, kid, up}
use Rattle.banks.specs.Counting.{put, one, sum}
use Rattle.forest.specs.Errands.{no_errand, mounts}
use Rattle.forest.specs.Layouts.{Layout, root}
use Rattle.forest.specs.Ledgers.{job}
use Rattle.banks.specs.Meaning.{Doing, arrives}
use Rattle.forest.specs.Sound.{par_of, state_of, In, outs_of, comes, crowd, Sound}
use Rattle.forest.specs.Tables.{Tables, at, with_word, with_out, after_turn, climbs}
use Rattle.forest.proofs.Changes.{in_crew, in_used, inv_is, outs_same, outs_more, outs_own}
use Rattle.forest.proofs.ClimbAnswers as answers
use Rattle.forest.proofs.ClimbAnswers.{Room, tells_step, still_arriving, departs_on}
use Rattle.forest.proofs.ClimbBounds.{count_bounded, kid_le, up_le}
use Rattle.forest.proofs.ClimbReads.{departs_from_counted}
use Rattle.forest.specs.Ancestors.{above_parent}
use Rattle.forest.proofs.ClimbTrees.{below_node, node_in}
use Rattle.forest.proofs.ClimbTurns.{turn_keeps}
use Rattle.forest.proofs.Counting.{one_same, one_other, one_cases, put_same, put_other, part_le, sum_same, sum_but, sum_cut}
use Rattle.forest.proofs.Doings.{doing_as, doing_is, node_is, awake, moves_if, calm_moving, sinks, room_up, counted_kind, count_is}
use Rattle.forest.specs.Lays.{Lays, Grown}
use Rattle.forest.proofs.Lists.{field_put, all_set}
use Rattle.forest.proofs.Moving.{Carries, moving, sinking}
use Rattle.forest.proofs.Simulates.{simulates}
use Rattle.forest.proofs.Writes.{size_after, field_after, word_after, out_after, still_after, At}

-- of two ancestors of y, one a root, the root is above the other
pub above_join : (par : ℕ → Option ℕ) (r x : ℕ) → par r ≡ None → {y : ℕ} → Above par x y → Above par r y → Above par r x
above_join par r x o (top y e) b = subst (Above par r) e b
above_join par r x o (via y m e a) b = above_join par r x o a (above_parent par r y m o e b)

put_cell : (f : ℕ → Word) (x : ℕ) (v : Word) (z : ℕ) → cell (put f x v z) ≡ put (λ z. cell (f z)) x (cell v) z
put_cell f x v z = elim (cases_eq x z) [
  | inl e ↦ ap cell (put_same f x v z e) ∙ sym (put_same (λ z. cell (f z)) x (cell v) z e)
  | inr n ↦ ap cell (put_other f x v z n) ∙ sym (put_other (λ z. cell (f z)) x (cell v) z n)
]

arriving_none : (m : climb.Aim) (y : ℕ) → m ≡ arriving y → m ≡ none → ⊥
arriving_none m y e f = let z : ◌≡◌ {A = ℕ} 0 1 = cc in omega arith

departing_none : (m : climb.Aim) → m ≡ departing → m ≡ none → ⊥
departing_none m e f = let z : ◌≡◌ {A = ℕ} 0 1 = cc in omega arith

aim_idle : (s : climb.Agent) → aim s ≡ none → s ≡ climb.idle
aim_idle climb.idle e = refl
aim_idle (climb.arr x h fs) e = let z : ◌≡◌ {A = ℕ} 0 1 = cc in let n : ⊥ = omega arith in absurd n
aim_idle (climb.dep x h climb.leave) e = let z : ◌≡◌ {A = ℕ} 0 1 = cc in let n : ⊥ = omega arith in absurd n
aim_idle (climb.dep x h (climb.back r y fs)) e = let z : ◌≡◌ {A = ℕ} 0 1 = cc in let n : ⊥ = omega arith in absurd n

module _ (L : Layout) (lays : Lays L) (B : Tables) (s : Sound L B) where
  abbrev ns : List Node
  ns = B.nodes

  abbrev par : ℕ → Option ℕ
  par = par_of B

  abbrev N : ℕ
  N = length B.nodes

  abbrev st : State
  st = state_of B

  pub down_is : Down (par_of B) (length B.nodes)
  down_is y q e = ((s.down y q e).0, omega (arith, (s.down y q e).1, s.fits))

  pub root_none : (t : ℕ) → t < B.ledger.opened → par_of B (root L t) ≡ None
  root_none t l = s.tops t (omega (arith, s.few))

  -- receipts and counts are few
  pub out_low : (z : ℕ) → z < length B.nodes → (at B.nodes z).out ≤ 2048
  out_low z l =
      omega (arith, outs_own ns z, part_le (outs_of ns (at ns z).tally) z N l, s.most (at ns z).tally)

  pub counts_low : (z : ℕ) → z < length B.nodes → (at B.nodes z).word.count < 16383
  counts_low z l =
      let w = (at ns z).word in
      let f : ℕ → ℕ = λ y. kid (cell (at ns y).word) (up (par y) z) in
      let most : (y : ℕ) → f y ≤ 1 = λ y. omega (arith, kid_le (cell (at ns y).word) (up (par y) z), up_le (par y) z) in
      let cut : (y : ℕ) → B.used ≤ y → f y ≡ 0 = λ y k. ap (λ (n : Node). kid (cell n.word) (up n.parent z)) (s.unused y k) in
      let kids : sum f N ≤ B.used = sum_cut f B.used N most cut in
      let c : climb.count (cell w) ≤ (at ns z).out + sum f N + 2 * 16 = count_bounded par N 16 down_is st s.inv z in
      let i : w.count ≤ climb.count (cell w) = count_is w.kind w.count w.version w.lawful.0 w.lawful.1 in
      omega (arith, out_low z l, s.low)

  module _ (a : ℕ) (in_a : a < 16) (mo : moving (job B.ledger a).phase ≡ true) where
    abbrev e : Errand
    e = job B.ledger a

    abbrev x : ℕ
    x = e.node

    abbrev w : Word
    w = (at ns x).word

    abbrev r : After
    r = after_turn B a

    in_e : a < length B.ledger.errands
    in_e = in_crew L B s a in_a

    ok : Ok par N (agent e)
    ok = s.inv.shaped a

    here : climb.node (agent e) ≡ x
    here = node_is e mo

    pub node_low : (job B.ledger a).node < length B.nodes
    node_low = subst (λ (k : ℕ). k < N) here (node_in par N (agent e) ok (awake e mo))

    pub room_left : (q : ℕ) → par_of B (job B.ledger a).node ≡ Some q → mounts (job B.ledger a).phase ≡ true → (job B.ledger a).waiting.height < 16
    room_left = room_up par N (λ y. (at ns y).depth) L.depth s.deep s.shallow lays.shallow e ok

    -- an agent that looks or lowers is at a counted word
    counted : sinking e.phase ≡ true → w.kind ≡ Counted
    counted m = let (d, q) = sinks e m in counted_kind w.kind w.count w.version (departs_from_counted par N 16 st s.inv a in_a x d _ q)

    sim : (after_of w r ≡ climb.step (par x) (agent e) (cell w)) × Carries e r
    sim = simulates e w (par x) (s.fit a) mo counted (counts_low x node_low) room_left

    carries : Carries e r
    carries = sim.1

    pub turn_calm : begins (after_turn B a).errand.phase ≡ 0
    turn_calm = carries.calm

    pub is_step : after_of (at B.nodes (job B.ledger a).node).word (after_turn B a) ≡ climb.turn_at (par_of B) (state_of B) a
    is_step = sim.0 ∙ ap (λ (j : ℕ). climb.step (par j) (agent e) (cell (at ns j).word)) (sym here)

    pub told : Tells (agent (job B.ledger a)) (agent (after_turn B a).errand) (said_of (after_turn B a).said)
    told = subst (λ (k : climb.Left). Tells (agent e) (climb.agent_of k) (climb.answer_of k)) (sym sim.0) (tells_step (par x) (agent e) (cell w))

    place : Room N (said_of r.said)
    place = answers.room par N (agent e) (agent r.errand) (said_of r.said) ok told

    -- what the code asks of the place of an ended arrival
    pub place_low : (y : ℕ) → (after_turn B a).said ≡ Arrived y → y < length B.nodes
    place_low y q = subst (λ (b : Said). Room N (said_of b)) q place

    pub place_out : (y : ℕ) → (after_turn B a).said ≡ Arrived y → (at B.nodes y).out < 65535
    place_out y q = omega (arith, out_low y (place_low y q))

    -- the node of the errand is in the tree of its tally
    pub live : In L B (job B.ledger a).tally (job B.ledger a).node
    live = by_aim (aim (agent e)) refl
      where
        by_aim : (m : climb.Aim) → aim (agent e) ≡ m → In L B e.tally x
        by_aim none q = absurd (awake e mo (aim_idle (agent e) q))
        by_aim (arriving y) q =
            let i = s.comer a y q in
            (i.0, above_join par (root L e.tally) x (root_none e.tally i.0) (subst (λ (k : ℕ). Above par k y) here (below_node par N (agent e) ok y q)) i.1)
        by_aim departing q = s.goer a q

    -- The tables after it

    abbrev C : Tables
    C = climbs B a

    abbrev ms : List Node
    ms = C.nodes

    size : length ms ≡ N
    size = size_after r.said r.write x ns

    field : {A : Type 0} (f : Node → A) → ((w : Word) (n : Node) → f (with_word w n) ≡ f n) → ((k : ℕ) (n : Node) → f (with_out k n) ≡ f n) → (z : ℕ) → f (at ms z) ≡ f (at ns z)
    field {A} = field_after r.said r.write x ns node_low place

    pub parent_still : (z : ℕ) → par_of (climbs B a) z ≡ par_of B z
    parent_still = field (λ (n : Node). n.parent) (λ w n. refl) (λ k n. refl)

    left : (z : ℕ) → (at ms z).left ≡ (at ns z).left
    left = field (λ (n : Node). n.left) (λ w n. refl) (λ k n. refl)

    pub depth_still : (z : ℕ) → (at (climbs B a).nodes z).depth ≡ (at B.nodes z).depth
    depth_still = field (λ (n : Node). n.depth) (λ w n. refl) (λ k n. refl)

    pub tally_still : (z : ℕ) → (at (climbs B a).nodes z).tally ≡ (at B.nodes z).tally
    tally_still = field (λ (n : Node). n.tally) (λ w n. refl) (λ k n. refl)

    pub outs_now : (z : ℕ) → (at (climbs B a).nodes z).out ≡ (at B.nodes z).out + climb.receipt (said_of (after_turn B a).said) z
    outs_now = out_after r.said r.write x ns node_low place

    pars : par_of C ≡ par
    pars = fun_ext parent_still

    pub turn_state : state_of (climbs B a) ≡ climb.turn (par_of B) (state_of B) a
    turn_state =
        let p : (state_of C).words ≡ put st.words x (cell (written w r.write)) =
        fun_ext (λ z. ap cell (word_after r.said r.write x ns node_low place z) ∙ put_cell (λ z. (at ns z).word) x (written w r.write) z) in
        let q : (state_of C).outs ≡ (λ z. st.outs z + climb.receipt (said_of r.said) z) = fun_ext outs_now in
        let g : (state_of C).agents ≡ put st.agents a (agent r.errand) = fun_ext (λ b. field_put agent B.ledger.errands a r.errand no_errand in_e b) in
        let first : state_of C ≡ now x = λ i. record { words = p i; outs = q i; agents = g i } in
        first ∙ ap now (sym here) ∙ ap (climb.after st a) is_step
      where
        now : ℕ → State
        now j = record {
          words = put st.words j (cell (written w r.write));
          outs = (λ z. st.outs z + climb.receipt (said_of r.said) z);
          agents = put st.agents a (agent r.errand);
        }

    pub turn_grown : Grown B (climbs B a)
    turn_grown = record { size = size; tallies = refl; used = omega arith; tally = (λ z _ _. tally_still z) }

    to : (t z : ℕ) → In L B t z → In L C t z
    to t z i = (i.0, subst (λ (p : ℕ → Option ℕ). Above p (root L t) z) (sym pars) i.1)

    fro : (t z : ℕ) → In L C t z → In L B t z
    fro t z i = (i.0, subst (λ (p : ℕ → Option ℕ). Above p (root L t) z) pars i.1)

    -- an errand that goes on is for the same tally, with the same later places
    same_for : (aim (agent r.errand) ≡ none → ⊥) → (r.errand.tally ≡ e.tally) × (r.errand.later ≡ e.later)
    same_for n = elim carries.goes [ inl g ↦ (g.1, g.2) | inr q ↦ absurd (n (ap (λ (f : Errand). aim (agent f)) q)) ]

    came_from : (y : ℕ) → aim (agent r.errand) ≡ arriving y → In L B e.tally y
    came_from y h = s.comer a y (still_arriving (agent e) (agent r.errand) (said_of r.said) y told h)

    goes_from : aim (agent r.errand) ≡ departing → In L B e.tally r.errand.node
    goes_from h =
        let f : climb.agent_of (climb.step (par x) (agent e) (cell w)) ≡ agent r.errand = ap climb.agent_of (sym sim.0) in
        let d = departs_on (par x) (agent e) (cell w) (ap aim f ∙ h) in
        let n : climb.node (climb.agent_of (climb.step (par x) (agent e) (cell w))) ≡ r.errand.node =
        ap climb.node f ∙ node_is r.errand (moves_if r.errand (departing_none (aim (agent r.errand)) h)) in
        elim d.1 [
          | inl q ↦ subst (In L B e.tally) (sym here ∙ sym q ∙ n) live
          | inr q ↦ (live.0, subst (Above par (root L e.tally)) n (above_parent par (root L e.tally) x _ (root_none e.tally live.0) q live.1))
        ]

    -- a receipt put out is in the tree of the errand's tally
    put_out : (b : Said) (z : ℕ) → r.said ≡ b → 1 ≤ climb.receipt (said_of b) z → In L B (at ns z).tally z
    put_out Going z q l = let n : ⊥ = omega arith in absurd n
    put_out (Departed d) z q l = let n : ⊥ = omega arith in absurd n
    put_out (Arrived y) z q l = elim (one_cases y z) [
      | inl o ↦ (let n : ⊥ = omega arith in absurd n)
      | inr o ↦ subst (λ (k : ℕ). In L B (at ns k).tally k) o.1 (own y (subst (λ (b : Said). Tells (agent e) (agent r.errand) (said_of b)) q told).0)
    ]
      where
        own : (y : ℕ) → aim (agent e) ≡ arriving y → In L B (at ns y).tally y
        own y h = let i = s.comer a y h in subst (λ (k : ℕ). In L B k y) (sym (s.kin e.tally y i)) i

    named : (b : Said) (z : ℕ) → r.said ≡ b → At z b → z < B.used
    named Going z q l = absurd l
    named (Departed d) z q l = absurd l
    named (Arrived y) z q l =
        subst (λ (k : ℕ). k < B.used) l (in_used L lays B s e.tally y (s.comer a y (subst (λ (b : Said). Tells (agent e) (agent r.errand) (said_of b)) q told).0))

    -- receipts and arriving agents
    comers : (t : ℕ) → sum (comes C t) 16 + arrives (doing_of e) t ≡ sum (comes B t) 16 + arrives (doing_of r.errand) t
    comers t =
        let k = sum_but (comes C t) (comes B t) a 16 in_a (λ b n. ap (λ (f : Errand). arrives (doing_of f) t) (get_or-set_other B.ledger.errands a b r.errand no_errand (λ (q : b ≡ a). n (sym q)))) in
        let h : comes C t a ≡ arrives (doing_of r.errand) t = ap (λ (f : Errand). arrives (doing_of f) t) (get_or-set_same B.ledger.errands a r.errand no_errand in_e) in
        omega (arith, k, h)

    pub doing_before : doing_of (job B.ledger a) ≡ doing_as 0 (aim (agent (job B.ledger a))) (job B.ledger a).tally
    doing_before = doing_is e ∙ ap (λ (k : ℕ). doing_as k (aim (agent e)) e.tally) (calm_moving e.phase mo)

    pub doing_after : doing_of (after_turn B a).errand ≡ doing_as 0 (aim (agent (after_turn B a).errand)) (after_turn B a).errand.tally
    doing_after = doing_is r.errand ∙ ap (λ (k : ℕ). doing_as k (aim (agent r.errand)) r.errand.tally) carries.calm

    -- an errand that goes on does what it did
    pub going_doing : (after_turn B a).said ≡ Going → doing_of (after_turn B a).errand ≡ doing_of (job B.ledger a)
    going_doing q =
        let h : aim (agent r.errand) ≡ aim (agent e) = subst (λ (b : Said). Tells (agent e) (agent r.errand) (said_of b)) q told in
        elim carries.goes [
          | inl g ↦ doing_after ∙ ap (λ (m : climb.Aim). doing_as 0 m r.errand.tally) h ∙ ap (doing_as 0 (aim (agent e))) g.1 ∙ sym doing_before
          | inr f ↦ absurd (awake e mo (aim_idle (agent e) (sym h ∙ ap (λ (g : Errand). aim (agent g)) f)))
        ]

    received : (b : Said) → r.said ≡ b → (t : ℕ) → sum (outs_of ms t) N + arrives (doing_of r.errand) t ≡ sum (outs_of ns t) N + arrives (doing_of e) t
    received Going q t =
        let k = sum_same (outs_of ms t) (outs_of ns t) N (λ z _. outs_same ns ms t z (tally_still z) (let o = outs_now z in let n : climb.receipt (said_of r.said) z ≡ 0 = ap (λ (b : Said). climb.receipt (said_of b) z) q in omega (arith, o, n))) in
        let same = ap (λ (d : Doing). arrives d t) (going_doing q) in
        omega (arith, k, same)
    received (Departed d) q t =
        let k = sum_same (outs_of ms t) (outs_of ns t) N (λ z _. outs_same ns ms t z (tally_still z) (let o = outs_now z in let n : climb.receipt (said_of r.said) z ≡ 0 = ap (λ (b : Said). climb.receipt (said_of b) z) q in omega (arith, o, n))) in
        let h = subst (λ (b : Said). Tells (agent e) (agent r.errand) (said_of b)) q told in
        let i : arrives (doing_of r.errand) t ≡ 0 = ap (λ (d : Doing). arrives d t) (doing_after ∙ ap (λ (m : climb.Aim). doing_as 0 m r.errand.tally) h.1) in
        let j : arrives (doing_of e) t ≡ 0 = ap (λ (d : Doing). arrives d t) (doing_before ∙ ap (λ (m : climb.Aim). doing_as 0 m e.tally) h.0) in
        omega (arith, k, i, j)
    received (Arrived y) q t =
        let h = subst (λ (b : Said). Tells (agent e) (agent r.errand) (said_of b)) q told in
        let rec : (z : ℕ) → (at ms z).out ≡ (at ns z).out + one y z = λ z. outs_now z ∙ ap (λ (b : Said). (at ns z).out + climb.receipt (said_of b) z) q in
        let k = sum_but (outs_of ms t) (outs_of ns t) y N (place_low y q) (λ z n. outs_same ns ms t z (tally_still z) (let o = rec z in let m = one_other y z n in omega (arith, o, m))) in
        let m : outs_of ms t y ≡ outs_of ns t y + one (at ns y).tally t = outs_more ns ms t y (tally_still y) (let o = rec y in let m = one_same y y refl in omega (arith, o, m)) in
        let own : one (at ns y).tally t ≡ one e.tally t = ap (λ (k : ℕ). one k t) (s.kin e.tally y (s.comer a y h.0)) in
        let i : arrives (doing_of r.errand) t ≡ 0 = ap (λ (d : Doing). arrives d t) (doing_after ∙ ap (λ (m : climb.Aim). doing_as 0 m r.errand.tally) h.1) in
        let j : arrives (doing_of e) t ≡ one e.tally t = ap (λ (d : Doing). arrives d t) (doing_before ∙ ap (λ (m : climb.Aim). doing_as 0 m e.tally) h.0) in
        omega (arith, k, m, own, i, j)

    pub crowd_still : (t : ℕ) → crowd (climbs B a) t ≡ crowd B t
    crowd_still t =
        let n : sum (outs_of ms t) (length ms) ≡ sum (outs_of ms t) N = ap (sum (outs_of ms t)) size in
        let o = received r.said refl t in
        let c = comers t in
        omega (arith, n, o, c)

    pub turn_sound : Sound L (climbs B a)
    turn_sound = record {
      crew = length-set B.ledger.errands a r.errand ∙ s.crew;
      listed = s.listed;
      many = s.many;
      few = s.few;
      low = s.low;
      fits = omega (arith, s.fits, size);
      laid = s.laid;
      down = (λ y q h. s.down y q (sym (parent_still y) ∙ h));
      deep = (λ y q h. omega (arith, s.deep y q (sym (parent_still y) ∙ h), depth_still q, depth_still y));
      shallow = (λ y. omega (arith, s.shallow y, depth_still y));
      tops = (λ t l. parent_still (root L t) ∙ s.tops t l);
      spread = (λ t p l k. subst (λ (g : ℕ → Option ℕ). Above g (root L t) (root L t + p)) (sym pars) (s.spread t p l k));
      full = s.full;
      whole = (λ g. size ∙ s.whole g);
      kin = (λ t z i. tally_still z ∙ s.kin t z (fro t z i));
      ready = (λ t z o l h n. tally_still z ∙ s.ready t z o l (subst (λ (g : ℕ → Option ℕ). Above g (root L t) z) pars h) n);
      kept = (λ z l. subst (λ (t : ℕ). In L C t z) (sym (tally_still z)) (to (at ns z).tally z (elim (cases_lt 0 (at ns z).out) [
        | inl k ↦ s.kept z k
        | inr k ↦ put_out r.said z refl (let o = outs_now z in omega (arith, o))
      ])));
      pairs = (λ y k h. let p = s.pairs y k (sym (left y) ∙ h) in (parent_still k ∙ p.0, parent_still (k + 1) ∙ p.1));
      linked = (λ z l k. subst (λ (t : ℕ). In L C t z) (sym (tally_still z)) (to (at ns z).tally z (s.linked z l k)));
      unused = (λ z l.
          still_after r.said r.write x ns z (λ (q : x ≡ z). omega (arith, in_used L lays B s e.tally x live)) (λ (h : At z r.said). omega (arith, named r.said z refl h))
          ∙ s.unused z l);
      inv = inv_is par (par_of C) N (length ms) (climb.turn par st a) (state_of C) (sym pars) (sym size) (sym turn_state) (turn_keeps par N 16 down_is st a in_a s.inv);
      fit = all_set (λ b f. Fit f) B.ledger.errands a r.errand no_errand in_e carries.fit s.fit;
      grows = all_set (λ b f. begins f.phase ≤ L.growth) B.ledger.errands a r.errand no_errand in_e (omega (arith, carries.calm)) s.grows;
      begun = all_set (λ b f. begins f.phase ≡ 1 → In L C f.tally f.node) B.ledger.errands a r.errand no_errand in_e
          (λ h. let n : ⊥ = omega (arith, carries.calm) in absurd n) (λ b h. to (job B.ledger b).tally (job B.ledger b).node (s.begun b h));
      comer = all_set (λ b f. (y : ℕ) → aim (agent f) ≡ arriving y → In L C f.tally y) B.ledger.errands a r.errand no_errand in_e
          (λ y h. to r.errand.tally y (subst (λ (t : ℕ). In L B t y) (sym (same_for (arriving_none (aim (agent r.errand)) y h)).0) (came_from y h)))
          (λ b y h. to (job B.ledger b).tally y (s.comer b y h));
      goer = all_set (λ b f. aim (agent f) ≡ departing → In L C f.tally f.node) B.ledger.errands a r.errand no_errand in_e
          (λ h. to r.errand.tally r.errand.node (subst (λ (t : ℕ). In L B t r.errand.node) (sym (same_for (departing_none (aim (agent r.errand)) h)).0) (goes_from h)))
          (λ b h. to (job B.ledger b).tally (job B.ledger b).node (s.goer b h));
      later = all_set (λ b f. (y : ℕ) → aim (agent f) ≡ arriving y → (L.takes C f.tally f.later.0 ≡ true) × (L.takes C f.tally f.later.1 ≡ true)) B.ledger.errands a r.errand no_errand in_e
          (λ y h.
          let same = same_for (arriving_none (aim (agent r.errand)) y h) in
          let was = s.later a y (still_arriving (agent e) (agent r.errand) (said_of r.said) y told h) in
          subst (λ (t : ℕ). (L.takes C t r.errand.later.0 ≡ true) × (L.takes C t r.errand.later.1 ≡ true)) (sym same.0)
          (subst (λ (l : ℕ × ℕ). (L.takes C e.tally l.0 ≡ true) × (L.takes C e.tally l.1 ≡ true)) (sym same.1)
          (stays e.tally e.later.0 was.0, stays e.tally e.later.1 was.1)))
          (λ b y h.
          let was = s.later b y h in
          (stays (job B.ledger b).tally (job B.ledger b).later.0 was.0, stays (job B.ledger b).tally (job B.ledger b).later.1 was.1));
      loads = (λ t h. s.loads t h ∙ sym (crowd_still t));
      most = (λ t. omega (arith, s.most t, crowd_still t));
      none = (λ t h. crowd_still t ∙ s.none t h);
    }
      where
        stays : (t p : ℕ) → L.takes B t p ≡ true → L.takes C t p ≡ true
        stays = lays.stays B C turn_grown
