-- Two children linked at a node keep what holds of the tables.
use Rattle.std.proofs.Common.{◌≡◌, ℕ, ◌+◌, ◌*◌, ◌<◌, ◌≤◌, min, Bool, true, false, ◌&&◌, ltb, leb, ◌⊎◌, List, length, set, Some, None, Option, sym, refl, ap, ◌∙◌, subst, inl, inr, arith, length-set}
use mathlib.Core.Path.{fun_ext}
use Rattle.std.proofs.lemmas.Bool.{cases_eq, cases_lt, ltb-true, leb-true}
use Rattle.banks.specs.declared.answer.Coin.{Coin}
use Rattle.forest.specs.declared.node.Node.{Node}
use Rattle.forest.specs.Agents.{cell}
use Rattle.forest.specs.Climb.{weight, Above, top, via}
use Rattle.banks.specs.Counting.{sum}
use Rattle.forest.specs.Layouts.{Layout, root}
use Rattle.forest.specs.Ledgers.{job}
use Rattle.forest.specs.Sound.{par_of, state_of, In, outs_of, crowd, Sound}
use Rattle.forest.specs.Tables.{Tables, no_node, at, heads?, none?, may_link, child, with_left, linked}
use Rattle.forest.proofs.Changes.{above_more, outs_same, outs_none, root_used, in_used, in_nodes, one_tree, inv_is}
use Rattle.forest.proofs.ClimbCalls.{grow_keeps}
use Rattle.forest.specs.Ancestors.{above_in, some_none}
use Rattle.forest.proofs.Counting.{never, at_set, but_set, sum_same}
use Rattle.forest.specs.Lays.{Grown, Lays}
use Rattle.forest.proofs.Lists.{field_still}

some_same : (o : Option ℕ) (p q : ℕ) → o ≡ Some p → o ≡ Some q → p ≡ q
some_same o p q e f = cc

-- Two children are linked at the node p of the tally k

module _ (L : Layout) (l : Lays L) (B : Tables) (s : Sound L B) (grew : L.growth ≡ 1) (k p : ℕ) (in_p : In L B k p)
    (shallow : (at B.nodes p).depth < L.depth) (roomy : B.used + 2 ≤ length B.nodes) (few : B.used + 2 ≤ 8192) where
  abbrev ns : List Node
  ns = B.nodes

  abbrev u : ℕ
  u = B.used

  abbrev n : Node
  n = at ns p

  abbrev c : Node
  c = child p n

  abbrev bs : List Node
  bs = set ns p (with_left u n)

  abbrev cs : List Node
  cs = set bs u c

  abbrev ms : List Node
  ms = linked ns p u

  abbrev C : Tables
  C = record { nodes = linked B.nodes p B.used; ledger = B.ledger; tallies = B.tallies; used = B.used + 2 }

  abbrev Old : ℕ → Type 0
  Old z = (z < u) ⊎ (u + 2 ≤ z)

  below : p < u
  below = in_used L l B s k p in_p

  in_list : p < length ns
  in_list = in_nodes L l B s k p in_p

  size : length ms ≡ length ns
  size = length-set cs (u + 1) c ∙ length-set bs u c ∙ length-set ns p (with_left u n)

  split : (z : ℕ) → Old z ⊎ ((u ≤ z) × (z < u + 2))
  split z = elim (cases_lt z u) [
    | inl h ↦ inl (inl h)
    | inr h ↦ elim (cases_lt z (u + 2)) [ inl i ↦ inr (h, i) | inr i ↦ inl (inr i) ]
  ]

  old_not : (z : ℕ) → Old z → (u ≡ z → ⊥) × (u + 1 ≡ z → ⊥)
  old_not z (inl h) = (λ (q : u ≡ z). omega arith, λ (q : u + 1 ≡ z). omega arith)
  old_not z (inr h) = (λ (q : u ≡ z). omega arith, λ (q : u + 1 ≡ z). omega arith)

  outer : (z : ℕ) → Old z → at ms z ≡ at bs z
  outer z h = but_set cs (u + 1) c no_node z (old_not z h).1 ∙ but_set bs u c no_node z (old_not z h).0

  still : (z : ℕ) → Old z → (p ≡ z → ⊥) → at ms z ≡ at ns z
  still z h i = outer z h ∙ but_set ns p (with_left u n) no_node z i

  young : (z : ℕ) → u ≤ z → z < u + 2 → at ms z ≡ c
  young z h i = elim (cases_eq u z) [
    | inl e ↦ but_set cs (u + 1) c no_node z (λ (q : u + 1 ≡ z). omega arith)
        ∙ subst (λ j. at cs j ≡ c) e (at_set bs u c no_node (omega (arith, length-set ns p (with_left u n))))
    | inr e ↦
        let j : u + 1 ≡ z = omega (arith, e) in
        subst (λ j. at ms j ≡ c) j (at_set cs (u + 1) c no_node (omega (arith, length-set bs u c, length-set ns p (with_left u n))))
  ]

  field_old : {A : Type 0} (f : Node → A) → f (with_left u n) ≡ f n → (z : ℕ) → Old z → f (at ms z) ≡ f (at ns z)
  field_old f e z h = ap f (outer z h) ∙ field_still f ns p (with_left u n) no_node in_list e z

  par_old : (z : ℕ) → Old z → par_of C z ≡ par_of B z
  par_old = field_old (λ (m : Node). m.parent) refl

  depth_old : (z : ℕ) → Old z → (at ms z).depth ≡ (at ns z).depth
  depth_old = field_old (λ (m : Node). m.depth) refl

  tally_old : (z : ℕ) → Old z → (at ms z).tally ≡ (at ns z).tally
  tally_old = field_old (λ (m : Node). m.tally) refl

  left_top : (at ms p).left ≡ Some u
  left_top = ap (λ (m : Node). m.left) (outer p (inl below) ∙ at_set ns p (with_left u n) no_node in_list)

  par_young : (z : ℕ) → u ≤ z → z < u + 2 → par_of C z ≡ Some p
  par_young z h i = ap (λ (m : Node). m.parent) (young z h i)

  tally_young : (z : ℕ) → u ≤ z → z < u + 2 → (at ms z).tally ≡ k
  tally_young z h i = ap (λ (m : Node). m.tally) (young z h i) ∙ s.kin k p in_p

  -- words and receipts stay: what is linked was not in use

  words : (z : ℕ) → cell (at ms z).word ≡ cell (at ns z).word
  words z = elim (split z) [
    | inl h ↦ field_old (λ (m : Node). cell m.word) refl z h
    | inr h ↦ ap (λ (m : Node). cell m.word) (young z h.0 h.1) ∙ sym (ap (λ (m : Node). cell m.word) (s.unused z h.0))
  ]

  outs : (z : ℕ) → (at ms z).out ≡ (at ns z).out
  outs z = elim (split z) [
    | inl h ↦ field_old (λ (m : Node). m.out) refl z h
    | inr h ↦ ap (λ (m : Node). m.out) (young z h.0 h.1) ∙ sym (ap (λ (m : Node). m.out) (s.unused z h.0))
  ]

  state : state_of C ≡ state_of B
  state =
      let w : (state_of C).words ≡ (state_of B).words = fun_ext words in
      let o : (state_of C).outs ≡ (state_of B).outs = fun_ext outs in
      λ i. record { words = w i; outs = o i; agents = (state_of B).agents }

  pub outs_linked : (t z : ℕ) → outs_of ms t z ≡ outs_of ns t z
  outs_linked t z = elim (split z) [
    | inl h ↦ outs_same ns ms t z (tally_old z h) (outs z)
    | inr h ↦
        let none : (at ns z).out ≡ 0 = ap (λ (m : Node). m.out) (s.unused z h.0) in
        outs_none ms t z (outs z ∙ none) ∙ sym (outs_none ns t z none)
  ]

  crowds : (t : ℕ) → crowd C t ≡ crowd B t
  crowds t =
      let e : sum (outs_of ms t) (length ms) ≡ sum (outs_of ms t) (length ns) = ap (sum (outs_of ms t)) size in
      omega (arith, e, sum_same (outs_of ms t) (outs_of ns t) (length ns) (λ z h. outs_linked t z))

  pub grown : Grown B C
  grown = record { size = size; tallies = refl; used = omega arith; tally = (λ z h i. tally_old z (inl i)) }

  -- Trees

  up_to : (y q : ℕ) → par_of B y ≡ Some q → par_of C y ≡ Some q
  up_to y q e = par_old y (inl (s.down y q e).1) ∙ e

  fresh : (y : ℕ) → par_of B y ≡ None → (par_of C y ≡ None) ⊎ (weight ((state_of B).words y) ≡ 0)
  fresh y e = elim (split y) [
    | inl h ↦ inl (par_old y h ∙ e)
    | inr h ↦ inr (ap (λ (m : Node). weight (cell m.word)) (s.unused y h.0))
  ]

  above_old : (r : ℕ) {z : ℕ} → Above (par_of C) r z → Old z → Above (par_of B) r z
  above_old r (top z e) h = top z e
  above_old r (via z q e a) h =
      let b : par_of B z ≡ Some q = sym (par_old z h) ∙ e in
      via z q b (above_old r a (inl (omega (arith, s.down z q b))))

  stays_in : (t z : ℕ) → In L B t z → In L C t z
  stays_in t z h = (h.0, above_more (par_of B) (par_of C) up_to (root L t) h.1)

  up_young : (y q : ℕ) → u ≤ y → y < u + 2 → par_of C y ≡ Some q → p ≡ q
  up_young y q h i e = some_same (par_of C y) p q (par_young y h i) e

  down : (y q : ℕ) → par_of C y ≡ Some q → (q < y) × (y < u + 2)
  down y q e = elim (split y) [
    | inl h ↦ let d = s.down y q (sym (par_old y h) ∙ e) in (d.0, omega (arith, d.1))
    | inr h ↦ (omega (arith, below, h.0, up_young y q h.0 h.1 e), h.1)
  ]

  deep : (y q : ℕ) → par_of C y ≡ Some q → (at ms q).depth + 1 ≤ (at ms y).depth
  deep y q e = elim (split y) [
    | inl h ↦
        let b : par_of B y ≡ Some q = sym (par_old y h) ∙ e in
        let d = s.down y q b in
        omega (arith, depth_old y h, depth_old q (inl (omega (arith, d.0, d.1))), s.deep y q b)
    | inr h ↦ omega (arith, ap (λ j. (at ms j).depth) (up_young y q h.0 h.1 e), depth_old p (inl below), ap (λ (m : Node). m.depth) (young y h.0 h.1))
  ]

  low : (y : ℕ) → (at ms y).depth ≤ L.depth
  low y = elim (split y) [
    | inl h ↦ omega (arith, depth_old y h, s.shallow y)
    | inr h ↦ omega (arith, ap (λ (m : Node). m.depth) (young y h.0 h.1))
  ]

  tops : (t : ℕ) → t < B.tallies → par_of C (root L t) ≡ None
  tops t h = par_old (root L t) (inl (root_used L l B s t h)) ∙ s.tops t h

  kin : (t z : ℕ) → In L C t z → (at ms z).tally ≡ t
  kin t z h = elim (split z) [
    | inl i ↦ tally_old z i ∙ s.kin t z (h.0, above_old (root L t) h.1 i)
    | inr i ↦ elim (above_in (par_of C) (root L t) h.1) [
      | inl e ↦ (let no : ⊥ = omega (arith, e, i.0, root_used L l B s t (omega (arith, h.0, s.few))) in absurd no)
      | inr (q, e, a) ↦
          let b : Above (par_of C) (root L t) p = subst (Above (par_of C) (root L t)) (sym (up_young z q i.0 i.1 e)) a in
          ap (λ (m : Node). m.tally) (young z i.0 i.1) ∙ s.kin t p (h.0, above_old (root L t) b (inl below))
    ]
  ]

  -- the tree of p is open
  ready : (t z : ℕ) → B.ledger.opened ≤ t → t < B.tallies → Above (par_of C) (root L t) z → (z ≡ root L t → B.tallies ≤ z) → (at ms z).tally ≡ t
  ready t z o h a first = elim (split z) [
    | inl i ↦ tally_old z i ∙ s.ready t z o h (above_old (root L t) a i) first
    | inr i ↦ elim (above_in (par_of C) (root L t) a) [
      | inl e ↦ (let no : ⊥ = omega (arith, i.0, root_used L l B s t h) in absurd no)
      | inr (q, e, b) ↦
          let b : Above (par_of B) (root L t) p = above_old (root L t) (subst (Above (par_of C) (root L t)) (sym (up_young z q i.0 i.1 e)) b) (inl below) in
          let same : t ≡ k = one_tree L l B s t k p h (omega (arith, in_p.0, s.few)) b in_p.1 in
          let no : ⊥ = omega (arith, in_p.0) in
          absurd no
    ]
  ]

  kept : (z : ℕ) → 1 ≤ (at ms z).out → In L C (at ms z).tally z
  kept z o = elim (split z) [
    | inl h ↦ subst (λ t. In L C t z) (sym (tally_old z h)) (stays_in (at ns z).tally z (s.kept z (omega (arith, outs z))))
    | inr h ↦ (let no : ⊥ = omega (arith, ap (λ (m : Node). m.out) (young z h.0 h.1)) in absurd no)
  ]

  pairs : (y i : ℕ) → (at ms y).left ≡ Some i → (par_of C i ≡ Some y) × (par_of C (i + 1) ≡ Some y)
  pairs y i e = elim (split y) [
    | inl h ↦ elim (cases_eq p y) [
      | inl q ↦
          let j : u ≡ i = some_same (at ms y).left u i (ap (λ j. (at ms j).left) (sym q) ∙ left_top) e in
          (par_young i (omega arith) (omega arith) ∙ ap (λ x. Some x) q, par_young (i + 1) (omega arith) (omega arith) ∙ ap (λ x. Some x) q)
      | inr q ↦
          let d = s.pairs y i (sym (ap (λ (m : Node). m.left) (still y h q)) ∙ e) in
          (up_to i y d.0, up_to (i + 1) y d.1)
    ]
    | inr h ↦ absurd (some_none (at ms y).left i e (ap (λ (m : Node). m.left) (young y h.0 h.1)))
  ]

  joined : (z : ℕ) → L.width * B.tallies ≤ z → z < u + 2 → In L C (at ms z).tally z
  joined z h i = elim (cases_lt z u) [
    | inl b ↦ subst (λ t. In L C t z) (sym (tally_old z (inl b))) (stays_in (at ns z).tally z (s.linked z h b))
    | inr b ↦ subst (λ t. In L C t z) (sym (tally_young z b i)) (in_p.0, via z p (par_young z b i) (stays_in k p in_p).1)
  ]

  unused : (z : ℕ) → u + 2 ≤ z → at ms z ≡ no_node
  unused z h = still z (inr h) (λ (q : p ≡ z). let b = below in omega arith) ∙ s.unused z (omega arith)

  pub linked_sound : Sound L C
  linked_sound = record {
    crew = s.crew;
    listed = s.listed;
    many = s.many;
    few = s.few;
    low = few;
    fits = omega (arith, size);
    laid = omega (arith, s.laid);
    down = down;
    deep = deep;
    shallow = low;
    tops = tops;
    spread = (λ t q h i. above_more (par_of B) (par_of C) up_to (root L t) (s.spread t q h i));
    full = (λ e. never (sym e ∙ grew));
    whole = (λ e. never (sym e ∙ grew));
    kin = kin;
    ready = ready;
    kept = kept;
    pairs = pairs;
    linked = joined;
    unused = unused;
    inv = inv_is (par_of C) (par_of C) (length ns) (length ms) (state_of B) (state_of C) refl (sym size) (sym state)
        (grow_keeps (par_of B) (par_of C) (length ns) 16 (state_of B) up_to fresh s.inv);
    fit = s.fit;
    grows = s.grows;
    begun = (λ a h. stays_in (job B.ledger a).tally (job B.ledger a).node (s.begun a h));
    comer = (λ a y h. stays_in (job B.ledger a).tally y (s.comer a y h));
    goer = (λ a h. stays_in (job B.ledger a).tally (job B.ledger a).node (s.goer a h));
    later = (λ a y h.
        let e = job B.ledger a in
        (l.stays B C grown e.tally e.later.0 (s.later a y h).0, l.stays B C grown e.tally e.later.1 (s.later a y h).1));
    loads = (λ t h. s.loads t h ∙ sym (crowds t));
    most = (λ t. omega (arith, s.most t, crowds t));
    none = (λ t h. crowds t ∙ s.none t h);
  }

and_true : (a b : Bool) → (a && b) ≡ true → (a ≡ true) × (b ≡ true)
and_true true b e = (refl, e)
and_true false b e = let z : ◌≡◌ {A = ℕ} 0 1 = cc in never z

pub may_tells : (ns : List Node) (x u : ℕ) (c : Coin) → may_link ns x u c ≡ true → ((at ns x).depth < 16) × (u + 2 ≤ length ns) × (u + 2 ≤ 8192)
may_tells ns x u c e =
    let room : Bool = leb (u + 2) (min (length ns) 8192) in
    let h = and_true (heads? c) (none? (at ns x).left && (ltb (at ns x).depth 16 && room)) e in
    let i = and_true (none? (at ns x).left) (ltb (at ns x).depth 16 && room) h.1 in
    let j = and_true (ltb (at ns x).depth 16) room i.1 in
    let k = leb-true (u + 2) (min (length ns) 8192) j.1 in
    (ltb-true (at ns x).depth 16 j.0, omega arith, omega arith)
