-- The laws of the three banks: their layouts are layouts. They and what they rest on stand here, and not among the
-- proofs, since an impl of `Trees` gives its law, and what an impl gives may cite no proofs of its crate.
--     flat_lays, fixed_lays, growing_lays
use Rattle.std.proofs.Common.{◌≡◌, ℕ, ◌+◌, ◌*◌, ◌/◌, ◌%◌, ◌<◌, ◌≤◌, true, eqb, ltb, leb, ◌⊎◌, None, refl, ◌∙◌, subst, inl, inr, mod-lt, mul_comm, div-lt_iff_lt-mul, zero-add, arith}
use native.Mathlib.Nat.{div-add-mod}
use Rattle.std.proofs.lemmas.Bool.{cases_lt, eq-eqb, eqb-true, le-leb, leb-true, lt-ltb, ltb-true, and_parts, and_from, or_cases, or_left, or_right}
use Rattle.forest.specs.Climb.{Above, top}
use Rattle.forest.specs.Layouts.{Layout, root}
use Rattle.forest.specs.Plans.{flat_layout, fixed_layout, growing_layout, leaf, in_tree}
use Rattle.forest.specs.Sound.{par_of, In, Sound}
use Rattle.forest.specs.Tables.{Tables, at}
use Rattle.forest.specs.Ancestors.{above_in, above_le, roots_one, some_none}
use Rattle.forest.specs.Lays.{climbs_from, grows_from, Lays}

module _ (L : Layout) (B : Tables) (s : Sound L B) where
  over : (t z : ℕ) → In L B t z → root L t ≤ z
  over t z h = above_le (par_of B) B.used s.down (root L t) h.1

  -- what is laid for an open tally is in its tree
  laid_in : (t p : ℕ) → t < B.ledger.opened → p < L.width → In L B t (root L t + p)
  laid_in t p o l = (o, s.spread t p (omega (arith, s.few)) l)

  -- and where trees do not grow, no more is
  laid_alone : L.growth ≡ 0 → 1 ≤ L.width → (t p : ℕ) → In L B t (root L t + p) → p < L.width
  laid_alone g w t p h = elim (above_in (par_of B) (root L t) h.1) [
    | inl e ↦ omega arith
    | inr (q, e, a) ↦
        let z : ℕ = root L t + p in
        let u : ℕ = z / L.width in
        let whole : L.width * u + z % L.width ≡ z = div-add-mod z L.width in
        let rest : z % L.width < L.width = mod-lt z w in
        let used : z < B.tallies * L.width = omega (arith, (s.down z q e).1, s.full g, mul_comm L.width B.tallies) in
        let below : u < B.tallies = (div-lt_iff_lt-mul w).1 used in
        let there : Above (par_of B) (root L u) z = subst (Above (par_of B) (root L u)) whole (s.spread u (z % L.width) below rest) in
        let same : root L t ≡ root L u = roots_one (par_of B) (root L t) (root L u) (s.tops t (omega (arith, h.0, s.few))) (s.tops u below) h.1 there in
        omega arith
  ]

-- The flat bank

pub flat_lays : Lays flat_layout
flat_lays = record {
  some = omega arith;
  shallow = omega arith;
  either = omega arith;
  deep = (λ e. omega arith);
  climbs = omega arith;
  grows = omega arith;
  low = omega arith;
  first = (λ t. omega arith);
  over = (λ B s t z h. omega (arith, over flat_layout B s t z h));
  has_in = (λ B s t p o e. (subst (Above (par_of B) (1 * t)) (omega arith) (laid_in flat_layout B s t p o (omega (arith, eqb-true p 0 e))).1, omega (arith, eqb-true p 0 e)));
  in_has = (λ B s t p h. eq-eqb p 0 (omega (arith, laid_alone flat_layout B s refl (omega arith) t p (h.0, subst (Above (par_of B) (1 * t)) (omega arith) h.1))));
  bounds = (λ B C g. refl);
  stays = (λ B C g t p e. e);
  takes_first = (λ B t. refl);
  takes_in = (λ B s g t z h. absurd (omega arith));
  starts = (λ B s a t p side c l o e. climbs_from t (0, 0) refl (o, top t (omega arith)) refl refl);
  begins = (λ a t p s c. refl);
}

-- The fixed bank

pub fixed_lays : Lays fixed_layout
fixed_lays = record {
  some = omega arith;
  shallow = omega arith;
  either = omega arith;
  deep = (λ e. omega arith);
  climbs = omega arith;
  grows = omega arith;
  low = omega arith;
  first = (λ t. omega arith);
  over = over fixed_layout;
  has_in = (λ B s t p o e. ((laid_in fixed_layout B s t p o (ltb-true p 15 e)).1, ltb-true p 15 e));
  in_has = (λ B s t p h. lt-ltb p 15 (laid_alone fixed_layout B s refl (omega arith) t p h));
  bounds = (λ B C g. refl);
  stays = (λ B C g t p e. e);
  takes_first = (λ B t. refl);
  takes_in = (λ B s g t z h. absurd (omega arith));
  starts = (λ B s a t p side c l o e. climbs_from (leaf a t) (0, 0) refl (laid_in fixed_layout B s t (7 + a % 8) o (omega arith)) refl refl);
  begins = (λ a t p s c. refl);
}

-- The growing bank

module _ (B : Tables) (t p : ℕ) where
  -- what in_tree says
  in_cases : in_tree B t p ≡ true → (p ≡ t) ⊎ ((B.tallies ≤ p) × (p < B.used) × ((at B.nodes p).tally ≡ t))
  in_cases e = elim (or_cases (eqb p t) _ e) [
    | inl i ↦ inl (eqb-true p t i)
    | inr i ↦
        let (l, r) = and_parts (leb B.tallies p) _ i in
        let (u, k) = and_parts (ltb p B.used) _ r in
        inr (leb-true B.tallies p l, ltb-true p B.used u, eqb-true (at B.nodes p).tally t k)
  ]

  in_root : p ≡ t → in_tree B t p ≡ true
  in_root e = or_left (eqb p t) _ (eq-eqb p t e)

  in_linked : B.tallies ≤ p → p < B.used → (at B.nodes p).tally ≡ t → in_tree B t p ≡ true
  in_linked l u k = or_right (eqb p t) _ (and_from (leb B.tallies p) _ (le-leb B.tallies p l) (and_from (ltb p B.used) _ (lt-ltb p B.used u) (eq-eqb (at B.nodes p).tally t k)))

  tree_in : Sound growing_layout B → t < B.ledger.opened → in_tree B t p ≡ true → In growing_layout B t p × (p < B.used)
  tree_in s o e = elim (in_cases e) [
    | inl i ↦ ((o, top p (omega arith)), omega (arith, s.few, s.laid))
    | inr (l, u, k) ↦ (subst (λ j. In growing_layout B j p) k (s.linked p (omega arith) u), u)
  ]

  in_is : Sound growing_layout B → In growing_layout B t p → in_tree B t p ≡ true
  in_is s h = elim (above_in (par_of B) (1 * t) h.1) [
    | inl e ↦ in_root (omega arith)
    | inr (q, e, a) ↦ elim (cases_lt p B.tallies) [
      | inl l ↦ absurd (some_none (par_of B p) q e (subst (λ j. par_of B j ≡ None) (omega arith) (s.tops p l)))
      | inr l ↦ in_linked l (s.down p q e).1 (s.kin t p h)
    ]
  ]

pub growing_lays : Lays growing_layout
growing_lays = record {
  some = omega arith;
  shallow = omega arith;
  either = omega arith;
  deep = (λ e. refl);
  climbs = omega arith;
  grows = omega arith;
  low = omega arith;
  first = (λ t. omega arith);
  over = (λ B s t z h. omega arith);
  has_in = (λ B s t p o e. let (i, u) = tree_in B t p s o e in (rw zero-add i.1, omega (arith, u, s.fits)));
  in_has = (λ B s t p h. in_is B t p s (rw zero-add at h));
  bounds = (λ B C g. g.size);
  stays = (λ B C g t p e. elim (in_cases B t p e) [
    | inl i ↦ in_root C t p i
    | inr (l, u, k) ↦ in_linked C t p (omega (arith, l, g.tallies)) (omega (arith, u, g.used)) (g.tally p l u ∙ k)
  ]);
  takes_first = (λ B t. in_root B t t refl);
  takes_in = (λ B s g t z h. in_is B t z s h);
  starts = (λ B s a t p side c l o e. grows_from p side c refl refl (tree_in B t p s o e).0);
  begins = (λ a t p s c. refl);
}
