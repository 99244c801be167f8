-- What every call shows of the meaning: what it keeps, and how receipts and errands change with one node and one agent.
use Rattle.std.proofs.Common.{◌≡◌, ℕ, ◌+◌, ◌<◌, ◌≤◌, Bool, true, false, cond, ltb, List, length, get_or, set, sym, refl, ap, ◌∙◌, subst, inl, inr, arith}
use mathlib.Core.Path.{fun_ext}
use Rattle.std.proofs.lemmas.Bool.{cases_Bool, cond-true, cond-false, ltb-true, lt-ltb, false≢true}
use Rattle.forest.specs.declared.errand.Errand.{Errand}
use Rattle.forest.specs.Agents.{doing_of}
use Rattle.banks.specs.Counting.{put}
use Rattle.forest.specs.Errands.{no_errand}
use Rattle.forest.specs.Layouts.{Layout, out_at}
use Rattle.banks.specs.Meaning.{Doing, Keeps}
use Rattle.forest.specs.Shown.{meaning}
use Rattle.forest.specs.Sound.{outs_of, Sound}
use Rattle.forest.specs.Tables.{Tables}
use Rattle.forest.proofs.Counting.{put_by, at_set, but_set}
use Rattle.forest.proofs.Lawful.{lawful}
use Rattle.forest.specs.Lays.{Lays, Grown}
use Rattle.forest.proofs.Lists.{nat_from}
use Rattle.forest.proofs.Outs.{out_is}

-- a test under the test that a tally is open
under : (b : Bool) (x y : Bool) → (x ≡ true → y ≡ true) → cond b x false ≡ true → cond b y false ≡ true
under true x y h e = h e
under false x y h e = e

later_open : (t o q : ℕ) → o ≤ q → ltb t o ≡ true → ltb t q ≡ true
later_open t o q l e = lt-ltb t q (let k = ltb-true t o e in omega (arith, l, k))

still_place : (t o q : ℕ) (x y : Bool) → o ≤ q → (x ≡ true → y ≡ true) → cond (ltb t o) x false ≡ true → cond (ltb t q) y false ≡ true
still_place t o q x y l h e = elim (cases_Bool (ltb t o)) [
  | inl b ↦ cond-true (ltb t q) y false (later_open t o q l b) ∙ h (sym (cond-true (ltb t o) x false b) ∙ e)
  | inr b ↦ absurd (false≢true (sym (cond-false (ltb t o) x false b) ∙ e))
]

module _ (L : Layout) (l : Lays L) (B C : Tables) (s_b : ∥ Sound L B ∥₁) (s_c : ∥ Sound L C ∥₁) where
  pub keeps : Grown B C → B.ledger.opened ≤ C.ledger.opened → Keeps (meaning L B) (meaning L C)
  keeps g more = record {
    tallies = g.tallies;
    bound = l.bounds B C g;
    limit = refl;
    places = (λ t p. still_place t B.ledger.opened C.ledger.opened (L.takes B t p) (L.takes C t p) more (l.stays B C g t p));
    lawful = lawful L l C s_c;
  }

  -- the receipts that the meaning shows are those of the nodes
  outs_by : (t p : ℕ) → B.ledger.opened ≡ C.ledger.opened → outs_of C.nodes t (L.base t + p) ≡ outs_of B.nodes t (L.base t + p)
      → (meaning L C).out t p ≡ (meaning L B).out t p
  outs_by t p o e = elim (cases_Bool (ltb t B.ledger.opened)) [
    | inl b ↦
        let k = ltb-true t B.ledger.opened b in
        let c = ap (λ (n : ℕ). ltb t n) (sym o) ∙ b in
        cond-true (ltb t C.ledger.opened) (out_at L C t p) 0 c ∙ nat_from _ _ s_c (λ z. out_is L l C z t p (subst (λ (n : ℕ). t < n) o k)) ∙ e
        ∙ sym (cond-true (ltb t B.ledger.opened) (out_at L B t p) 0 b ∙ nat_from _ _ s_b (λ z. out_is L l B z t p k))
    | inr b ↦
        cond-false (ltb t C.ledger.opened) (out_at L C t p) 0 (ap (λ (n : ℕ). ltb t n) (sym o) ∙ b) ∙ sym (cond-false (ltb t B.ledger.opened) (out_at L B t p) 0 b)
  ]

  pub outs_still : B.ledger.opened ≡ C.ledger.opened → ((t z : ℕ) → outs_of C.nodes t z ≡ outs_of B.nodes t z) → (meaning L C).out ≡ (meaning L B).out
  outs_still o e = fun_ext (λ t. fun_ext (λ p. outs_by t p o (e t (L.base t + p))))

  -- only the receipts of the tally t at the node base t + p are others: n
  pub outs_put : B.ledger.opened ≡ C.ledger.opened → (t p n : ℕ) → t < B.ledger.opened → outs_of C.nodes t (L.base t + p) ≡ n
      → ((k z : ℕ) → (k ≡ t → z ≡ L.base t + p → ⊥) → outs_of C.nodes k z ≡ outs_of B.nodes k z)
      → (meaning L C).out ≡ put (meaning L B).out t (put ((meaning L B).out t) p n)
  outs_put o t p n low here there =
      put_by (meaning L B).out (meaning L C).out t (put ((meaning L B).out t) p n)
      (put_by ((meaning L B).out t) ((meaning L C).out t) p n
      (cond-true (ltb t C.ledger.opened) (out_at L C t p) 0 (ap (λ (n : ℕ). ltb t n) (sym o) ∙ lt-ltb t B.ledger.opened low)
      ∙ nat_from _ _ s_c (λ z. out_is L l C z t p (subst (λ (n : ℕ). t < n) o low)) ∙ here)
      (λ q m. outs_by t q o (there t (L.base t + q) (λ _ (e : L.base t + q ≡ L.base t + p). m (let i : p ≡ q = omega arith in i)))))
      (λ k m. fun_ext (λ q. outs_by k q o (there k (L.base k + q) (λ e _. m (sym e)))))

-- one agent does another thing
pub doings : (es : List Errand) (a : ℕ) (e : Errand) (d : Doing) → a < length es → doing_of e ≡ d → (λ b. doing_of (get_or (set es a e) b no_errand)) ≡ put (λ b. doing_of (get_or es b no_errand)) a d
doings es a e d l is =
    put_by (λ b. doing_of (get_or es b no_errand)) (λ b. doing_of (get_or (set es a e) b no_errand)) a d
    (ap doing_of (at_set es a e no_errand l) ∙ is) (λ b n. ap doing_of (but_set es a e no_errand b n))
