-- Sound tables stay sound where one of them is written.
use Rattle.std.proofs.Common.{◌≡◌, ℕ, ◌*◌, ◌<◌, true, false, List, length, set, is_some, None, Some, Option, get_or, sym, ap, ◌∙◌, subst, arith}
use Rattle.std.proofs.lemmas.List.{length-set, get_or-set_same}
use Rattle.engine.specs.declared.task.Task.{Task}
use Rattle.engine.specs.declared.task.Pair.{Pair}
use Rattle.engine.specs.declared.task.Phase.{Phase}
use Rattle.engine.specs.Tasks.{blank, task_in, born?, held?, busy_by?, in_phase, come}
use Rattle.engine.specs.Sound.{Sized, Handed, Sound}
use Rattle.engine.specs.declared.task.Work.{Work}
use Rattle.engine.specs.declared.task.Phase.TheVariants.{Busy}
use Rattle.engine.proofs.Lists.{at_set}
use Rattle.engine.proofs.Phases.{busy_is}

module _ {ks : List Task} {qs : List Pair} {hs : List (Option ℕ)} {r : ℕ} (s : Sound ks qs hs r) where
  -- a task that is given out is within the table
  low : (n : ℕ) → n < 2 * r → n < length ks
  low n h = omega (arith, s.sized)

  pub came : (n : ℕ) (p : Phase) → n < 2 * r → task_in (come ks n p) n ≡ in_phase (task_in ks n) p
  came n p given = get_or-set_same ks n (in_phase (task_in ks n) p) blank (low n given)

  -- the task in a hand has come to some work
  pub busy_at : (a n : ℕ) → get_or hs a None ≡ Some n → (w : Work) × ((task_in ks n).phase ≡ Busy a w)
  busy_at a n hand = busy_is a _ (s.handed a n hand)

  -- a task comes to another phase
  pub come_sound : (n : ℕ) (p : Phase) → n < 2 * r → (held? p ≡ true → is_some (task_in ks n).finish ≡ true)
      → ((a : ℕ) → get_or hs a None ≡ Some n → busy_by? a p ≡ true)
      → Sound (come ks n p) qs hs r
  come_sound n p given holds hands =
      let here = low n given in
      let new : Task = in_phase (task_in ks n) p in
      let at_new : (m : ℕ) (P : Task → Type 0) → (m ≡ n → P new) → P (task_in ks m) → P (task_in (come ks n p) m) =
      λ m P at_n old. at_set ks n new blank m P here at_n (λ _. old) in
      let tallied : (f : ℕ) → is_some (task_in ks f).tally ≡ true → is_some (task_in (come ks n p) f).tally ≡ true =
      λ f h. at_new f (λ k. is_some k.tally ≡ true) (λ e. subst (λ (i : ℕ). is_some (task_in ks i).tally ≡ true) e h) h in
      record {
        sized = (length-set ks n new ∙ s.sized.0, s.sized.1, s.sized.2, s.sized.3);
        given = λ m. at_new m (λ k. born? k.phase ≡ true → m < 2 * r) (λ e _. omega arith) (s.given m);
        held = λ m. at_new m (λ k. held? k.phase ≡ true → is_some k.finish ≡ true) (λ _. holds) (s.held m);
        known = λ m f. at_new m (λ k. k.finish ≡ Some f → f < 2 * r) (λ _. s.known n f) (s.known m f);
        awaited =
            λ m f. at_new m (λ k. k.finish ≡ Some f → is_some (task_in (come ks n p) f).tally ≡ true)
            (λ _ h. tallied f (s.awaited n f h)) (λ h. tallied f (s.awaited m f h));
        paired = λ m. at_new m (λ k. is_some k.finish ≡ true → is_some k.pair ≡ true) (λ _. s.paired n) (s.paired m);
        ranged = λ m q. at_new m (λ k. k.pair ≡ Some q → q < 512) (λ _. s.ranged n q) (s.ranged m q);
        last = λ m. at_new m (λ k. is_some k.tally ≡ true → is_some k.finish ≡ false) (λ _. s.last n) (s.last m);
        handed = λ a m h. at_new m (λ k. busy_by? a k.phase ≡ true) (λ e. hands a (h ∙ ap Some e)) (s.handed a m h);
      }

  -- other pairs and hands
  rest_sound : (ps : List Pair) (gs : List (Option ℕ)) → Sized ks ps gs r → Handed ks gs → Sound ks ps gs r
  rest_sound ps gs sized handed = record {
    sized = sized;
    given = s.given;
    held = s.held;
    known = s.known;
    awaited = s.awaited;
    paired = s.paired;
    ranged = s.ranged;
    last = s.last;
    handed = handed;
  }

  -- a hand takes a task, or is free
  pub hand_sound : (a : ℕ) (o : Option ℕ) → a < length hs → ((n : ℕ) → o ≡ Some n → busy_by? a (task_in ks n).phase ≡ true)
      → Sound ks qs (set hs a o) r
  hand_sound a o here busy =
      rest_sound qs (set hs a o) (s.sized.0, s.sized.1, length-set hs a o ∙ s.sized.2, s.sized.3)
      (λ b n. at_set hs a o None b (λ x. x ≡ Some n → busy_by? b (task_in ks n).phase ≡ true) here
      (λ e h. subst (λ (i : ℕ). busy_by? i (task_in ks n).phase ≡ true) (sym e) (busy n h)) (λ _. s.handed b n))

  pub pair_sound : (q : ℕ) (x : Pair) → Sound ks (set qs q x) hs r
  pair_sound q x = rest_sound (set qs q x) hs (s.sized.0, length-set qs q x ∙ s.sized.1, s.sized.2, s.sized.3) s.handed
