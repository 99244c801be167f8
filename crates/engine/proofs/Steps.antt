-- A run with one call more.
use Rattle.std.proofs.Common.{◌≡◌, ℕ, ◌+◌, ◌<◌, List, [], ◌∷◌, ◌++◌, length, get_or, take, Result, refl, subst}
use Rattle.std.proofs.lemmas.List.{take_more}
use Rattle.banks.specs.Meaning.{Meaning}
use Rattle.banks.specs.Calls.{Request, Reply}
use Rattle.engine.specs.declared.call.Call.{Call}
use Rattle.engine.specs.declared.call.Answer.{Answer}
use Rattle.engine.specs.declared.fault.EngineFault.{EngineFault}
use Rattle.engine.specs.State.{State}
use Rattle.engine.specs.Runs.{Step, Run}

module _ {B : Type 0} (means : B → Meaning) (does : B → Request → Reply → B → Type 0) where
  run_more : (s m z : State B) (cs : List Call) (rs : List (Result Answer EngineFault)) (c : Call) (a : Result Answer EngineFault)
      → Run means does s cs rs m → Step means does m c a z → Run means does s (cs ++ (c ∷ [])) (rs ++ (a ∷ [])) z
  run_more s m z [] [] c a ran step = (z, subst (λ (x : State B). Step means does x c a z) ran step, refl)
  run_more s m z [] (r ∷ rs) c a ran step = absurd ran
  run_more s m z (k ∷ cs) [] c a ran step = absurd ran
  run_more s m z (k ∷ cs) (r ∷ rs) c a ran step = (ran.0, ran.1, run_more ran.0 m z cs rs c a ran.2 step)

  -- d is the default at which the list is read
  pub run_next : (s m z : State B) (cs : List Call) (i : ℕ) (d : Call) (rs out : List (Result Answer EngineFault)) (a : Result Answer EngineFault)
      → i < length cs → out ≡ rs ++ (a ∷ []) → Run means does s (take i cs) rs m → Step means does m (get_or cs i d) a z
      → Run means does s (take (i + 1) cs) out z
  run_next s m z cs i d rs out a h pushed ran step = rw (take_more cs i d h, pushed) (run_more s m z (take i cs) rs (get_or cs i d) a ran step)
