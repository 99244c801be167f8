-- The first tables are sound: of the flat and of the growing bank here.
--     first_tables ns T u            tables whose ledger is new
--     Bare ns                        no node was ever written
use Rattle.std.proofs.Common.{◌≡◌, ℕ, zero, suc, ◌+◌, ◌*◌, ◌<◌, ◌≤◌, min, true, eqb, List, length, get_or, replicate, Some, None, sym, refl, ap, ◌∙◌, subst, inl, inr, arith}
use mathlib.Core.Path.{fun_ext}
use Rattle.std.proofs.lemmas.List.{length-replicate}
use Rattle.std.proofs.lemmas.Bool.{cond_both}
use Rattle.words.specs.declared.kind.Kind.TheVariants.{Empty}
use Rattle.words.specs.Words.{blank}
use Rattle.forest.specs.declared.errand.Errand.{Errand}
use Rattle.forest.specs.declared.errand.Phase.{Phase}
use Rattle.forest.specs.declared.errand.Phase.TheVariants.{Idle}
use Rattle.forest.specs.declared.node.Node.{Node}
use Rattle.forest.specs.Agents.{cell, agent, begins, doing_of, suits, Fit}
use Rattle.forest.specs.Climb.{Inv, Above, top, Down, fresh, aim, arriving, departing}
use Rattle.forest.specs.Climb as climb
use Rattle.forest.specs.Errands.{begun, no_errand, idles}
use Rattle.forest.specs.Waits.{no_frame}
use Rattle.forest.specs.Layouts.{Layout, root}
use Rattle.forest.specs.Ledgers.{first_ledger, job}
use Rattle.banks.specs.Meaning.{arrives, idle}
use Rattle.forest.specs.Plans.{flat_layout, flat_first, growing_layout, growing_first}
use Rattle.forest.specs.Sound.{par_of, state_of, outs_of, comes, crowd, Sound}
use Rattle.forest.specs.Tables.{Tables, no_node, at}
use Rattle.forest.proofs.ClimbCalls.{blank_keeps}
use Rattle.forest.specs.Ancestors.{above_in, some_none}
use Rattle.forest.proofs.Counting.{false_true, never, sum_none}

-- The first ledger

all_same : {A : Type 0} (n : ℕ) (x : A) (i : ℕ) → get_or (replicate n x) i x ≡ x
all_same zero x i = refl
all_same (suc n) x zero = refl
all_same (suc n) x (suc i) = all_same n x i

pub blank_errands : (a : ℕ) → job first_ledger a ≡ no_errand
blank_errands a = all_same 16 no_errand a

pub first_idle : (a : ℕ) → doing_of (job first_ledger a) ≡ idle
first_idle a = ap doing_of (blank_errands a)

-- an errand that has just begun
pub begun_fits : (p : Phase) (t x : ℕ) (l : ℕ × ℕ) → suits p Empty ≡ true → (idles p ≡ true → begun p t x l ≡ no_errand) → Fit (begun p t x l)
begun_fits p t x l e rests = record {
  size = length-replicate 16 no_frame;
  short = omega arith;
  word = e;
  halves = (λ i l. absurd (omega arith));
  settles = (λ q. absurd (false_true (ap (λ p. suits p Empty) (sym q) ∙ e)));
  rests = rests;
  flat = (λ e. refl);
}

-- Tables whose ledger is new

abbrev first_tables : List Node → ℕ → ℕ → Tables
first_tables ns T u = record { nodes = ns; ledger = first_ledger; tallies = T; used = u }

pub record Bare (ns : List Node) : Type 0 where
  pub word : (z : ℕ) → (at ns z).word ≡ blank
  pub left : (z : ℕ) → (at ns z).left ≡ None
  pub out : (z : ℕ) → (at ns z).out ≡ 0

module _ (ns : List Node) (T u : ℕ) (b : Bare ns) where
  abbrev B : Tables
  B = first_tables ns T u

  state : state_of B ≡ fresh
  state =
      let w : (state_of B).words ≡ fresh.words = fun_ext (λ z. ap cell (b.word z)) in
      let o : (state_of B).outs ≡ fresh.outs = fun_ext b.out in
      let a : (state_of B).agents ≡ fresh.agents = fun_ext (λ a. ap agent (blank_errands a)) in
      λ i. record { words = w i; outs = o i; agents = a i }

  no_crowd : (t : ℕ) → crowd B t ≡ 0
  no_crowd t =
      let o = sum_none (outs_of ns t) (length ns) (λ z l. cond_both (eqb (at ns z).tally t) (at ns z).out 0 (λ n. n ≡ 0) (λ e. b.out z) (λ e. refl)) in
      let c = sum_none (comes B t) 16 (λ a l. ap (λ (e : Errand). arrives (doing_of e) t) (blank_errands a)) in
      omega arith

  aims_none : (a : ℕ) → aim (agent (job first_ledger a)) ≡ climb.none
  aims_none a = ap (λ (e : Errand). aim (agent e)) (blank_errands a)

  not_arriving : {A : Type 0} (a y : ℕ) → aim (agent (job first_ledger a)) ≡ arriving y → A
  not_arriving a y e = let i = aims_none a in never (cc)

  not_departing : {A : Type 0} (a : ℕ) → aim (agent (job first_ledger a)) ≡ departing → A
  not_departing a e = let i = aims_none a in never (cc)

  no_begins : (a : ℕ) → begins (job first_ledger a).phase ≡ 0
  no_begins a = ap (λ (e : Errand). begins e.phase) (blank_errands a)

  -- all that is left to say is how the nodes are laid
  pub first_sound : (L : Layout) → T ≤ 256 → u ≤ 8192 → u ≤ length ns → u ≡ L.width * T → (L.growth ≡ 0 → length ns ≡ u)
      → Down (par_of B) u
      → ((y q : ℕ) → par_of B y ≡ Some q → (at ns q).depth + 1 ≤ (at ns y).depth)
      → ((y : ℕ) → (at ns y).depth ≤ L.depth)
      → ((t : ℕ) → t < T → par_of B (root L t) ≡ None)
      → ((t p : ℕ) → t < T → p < L.width → Above (par_of B) (root L t) (root L t + p))
      → ((t z : ℕ) → t < T → Above (par_of B) (root L t) z → (z ≡ root L t → T ≤ z) → (at ns z).tally ≡ t)
      → ((z : ℕ) → u ≤ z → at ns z ≡ no_node)
      → Sound L B
  first_sound L many low fits laid whole down deep shallow tops spread ready unused = record {
    crew = length-replicate 16 no_errand;
    listed = length-replicate {A = ℕ} 256 0;
    many = many;
    few = omega arith;
    low = low;
    fits = fits;
    laid = omega arith;
    down = down;
    deep = deep;
    shallow = shallow;
    tops = tops;
    spread = spread;
    full = (λ g. laid);
    whole = whole;
    kin = (λ t z h. absurd (omega arith));
    ready = (λ t z o. ready t z);
    kept = (λ z h. absurd (omega (arith, b.out z)));
    pairs = (λ y l e. absurd (some_none (at ns y).left l e (b.left y)));
    linked = (λ z l h. absurd (omega arith));
    unused = unused;
    inv = subst (Inv (par_of B) (length ns) 16) (sym state) (blank_keeps (par_of B) (length ns) 16);
    fit = (λ a. subst Fit (sym (blank_errands a)) (begun_fits Idle 0 0 (0, 0) refl (λ i. refl)));
    grows = (λ a. omega (arith, no_begins a));
    begun = (λ a h. absurd (omega (arith, no_begins a)));
    comer = (λ a y e. not_arriving a y e);
    goer = (λ a e. not_departing a e);
    later = (λ a y e. not_arriving a y e);
    loads = (λ t l. all_same {A = ℕ} 256 0 t ∙ sym (no_crowd t));
    most = (λ t. omega (arith, no_crowd t));
    none = (λ t l. no_crowd t);
  }

-- Nodes that nobody has used, a root alone for each tally

blank_sound : (L : Layout) → L.width ≡ 1 → (N T : ℕ) → T ≤ N → T ≤ 256 → (L.growth ≡ 0 → N ≡ T) → Sound L (first_tables (replicate N no_node) T T)
blank_sound L w N T l m whole = first_sound ns T T bare L m (omega arith) (omega (arith, length-replicate N no_node)) (rw w (omega arith)) (λ g. length-replicate N no_node ∙ whole g)
    (λ y q e. absurd (none y q e)) (λ y q e. absurd (none y q e)) (λ y. omega (arith, ap (λ (n : Node). n.depth) (at_blank y)))
    (λ t h. ap (λ (n : Node). n.parent) (at_blank (root L t))) (λ t p h i. top (root L t + p) (omega arith))
    (λ t z h a first. elim (above_in (λ z. (at ns z).parent) (root L t) a) [ inl e ↦ absurd (let f = first e in let v : L.width * t ≡ 1 * t = ap (λ k. k * t) w in omega arith) | inr (q, e, _) ↦ absurd (none z q e) ]) (λ z h. at_blank z)
  where
    ns : List Node
    ns = replicate N no_node

    at_blank : (z : ℕ) → at ns z ≡ no_node
    at_blank z = all_same N no_node z

    bare : Bare ns
    bare = record { word = (λ z. ap (λ (n : Node). n.word) (at_blank z)); left = (λ z. ap (λ (n : Node). n.left) (at_blank z)); out = (λ z. ap (λ (n : Node). n.out) (at_blank z)) }

    none : (y q : ℕ) → (at ns y).parent ≡ Some q → ⊥
    none y q e = some_none (at ns y).parent q e (ap (λ (n : Node). n.parent) (at_blank y))

pub flat_first_sound : Sound flat_layout flat_first
flat_first_sound = blank_sound flat_layout refl 256 256 (omega arith) (omega arith) (λ g. refl)

pub growing_first_sound : (N : ℕ) → Sound growing_layout (growing_first N)
growing_first_sound N = blank_sound growing_layout refl N (min 256 N) (omega arith) (omega arith) (λ g. never (sym g))
