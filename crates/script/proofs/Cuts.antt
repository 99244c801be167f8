-- A text by its lines. Assumes nothing.
use Rattle.std.proofs.Common.{◌≡◌, ℕ, ◌<◌, List, [], ◌∷◌, ◌++◌, length, map, Result, sym, refl, ap, ◌∙◌, subst, ⊎_elim, arith, length-append, append-nil}
use Rattle.std.specs.Fn.{Called, Mut}
use Rattle.std.specs.Iterator.{Drains}
use Rattle.std.specs.Iterator.Adapters.{map_source, map_callee}
use Rattle.std.specs.declared.iter.Map.{Map}
use Rattle.std.proofs.lemmas.Iterator.{maps}
use Rattle.std.specs.Borrow.{Bor}
use Rattle.engine.specs.declared.call.Call.{Call}
use Rattle.script.specs.declared.cut.Lines.{Lines}
use Rattle.script.specs.declared.fault.Fault.{Fault}
use Rattle.script.specs.declared.line.Line.{Line}
use Rattle.script.specs.Spelling.{Parsed}
use Rattle.script.specs.Lines.{Inner, Cut, Cuts, Reads}
use Rattle.script.specs.Settled.{spelled, Unanswered}
use Rattle.script.proofs.Calls.{parsed_once}
use Rattle.script.proofs.Lists.{front_once}

pub cut_shorter : (s l rest : List ℕ) → Cut s l rest → length rest < length s
cut_shorter s l rest h =
    ⊎_elim (λ e. omega (arith, ap length e, length-append l (10 ∷ rest)))
    (λ e. omega (arith, ap length e.0, ap length e.1, e.2)) h.ends

-- a text has one first line
pub cut_once : (bs l r m q : List ℕ) → Cut bs l r → Cut bs m q → (l ≡ m) × (r ≡ q)
cut_once bs l r m q p k =
    let once = λ (xs ys : List ℕ) (e : bs ≡ l ++ xs) (f : bs ≡ m ++ ys). front_once Inner l xs m ys (sym e ∙ f) p.inner k.inner in
    let newline : Inner 10 → ⊥ = λ f. f refl in
    ⊎_elim
    (λ e. ⊎_elim
    (λ f. let o = once (10 ∷ r) (10 ∷ q) e f newline newline in let tail = o.1 in let rest : r ≡ q = cc in (o.0, rest))
    (λ f. let o = once (10 ∷ r) [] e (f.0 ∙ sym (append-nil m)) newline tt in let tail = o.1 in cc)
    k.ends)
    (λ e. ⊎_elim
    (λ f. let o = once [] (10 ∷ q) (e.0 ∙ sym (append-nil l)) f tt newline in let tail = o.1 in cc)
    (λ f. (sym e.0 ∙ f.0, e.1 ∙ sym f.1))
    k.ends)
    p.ends

-- a text spells one list of calls and faults
pub reads_once : (bs : List ℕ) (rs qs : List (Result Call Fault)) → Reads bs rs → Reads bs qs → rs ≡ qs
reads_once bs [] [] p k = refl
reads_once bs [] (q ∷ qs) p k = absurd (omega (arith, ap length p, cut_shorter bs k.0 k.1 k.2))
reads_once bs (r ∷ rs) [] p k = absurd (omega (arith, ap length k, cut_shorter bs p.0 p.1 p.2))
reads_once bs (r ∷ rs) (q ∷ qs) p k =
    let same = cut_once bs p.0 p.1 k.0 k.1 p.2 k.2 in
    let here = parsed_once p.0 r q p.3 (subst (λ b. Parsed b q) (sym same.0) k.3) in
    let rest = reads_once p.1 rs qs p.4 (subst (λ b. Reads b qs) (sym same.1) k.4) in
    cc

pub unanswered_once : (bs : List ℕ) (ls ks : List Line) → Unanswered bs ls → Unanswered bs ks → ls ≡ ks
unanswered_once bs ls ks p k = p.2 ∙ ap (map spelled) (reads_once bs p.0 k.0 p.1 k.1) ∙ sym k.2

-- what a chain of `map` over the lines collects, where the closure reads each line
module _ {F : Type 0} (g : Mut F (Bor (List ℕ) × Unit {0}) Line)
    (says : (f : F) (l : Bor (List ℕ)) (x : Line) (h : F) → Called g f (l, tt) x h → (r : Result Call Fault) × Parsed l.now r × (x ≡ spelled r)) where
  pub reads_from : (s : Map Lines F) (ls : List Line) → Drains (maps Cuts g) s ls → Unanswered (map_source s).0.now ls
  reads_from s [] d = ([], subst (λ (t : Map Lines F). (map_source t).0.now ≡ []) (sym d.1.1) d.1.2.0, refl)
  reads_from s (x ∷ ls) d =
      let first = d.1.1.1 in
      let read = says (map_callee s) first.0 x (map_callee d.1.1.0) first.2 in
      let rest = reads_from d.1.1.0 ls (d.0, (d.1.0, d.1.1.2, d.1.2)) in
      let here = read.2 in
      let there = rest.2 in
      (read.0 ∷ rest.0, (first.0.now, (map_source d.1.1.0).0.now, first.1, read.1, rest.1), cc)
