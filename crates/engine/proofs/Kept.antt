-- The tables of a new engine are sound, and each call keeps them so.
use Rattle.std.proofs.Common.{◌≡◌, ℕ, ◌+◌, ◌*◌, ◌<◌, true, false, List, length, get_or, set, replicate, is_some, Some, None, Option, sym, refl, ap, ◌∙◌, subst, arith}
use Rattle.std.proofs.lemmas.List.{length-set, length-replicate}
use Rattle.std.proofs.lemmas.Bool.{both_ways, eqb-true, eq-eqb}
use Rattle.engine.specs.declared.task.Task.{Task}
use Rattle.engine.specs.declared.task.Pair.{Pair}
use Rattle.engine.specs.declared.task.Phase.TheVariants.{Ready, InHand, Busy, Done}
use Rattle.engine.specs.declared.task.Work.TheVariants.{Begun, Leaving}
use Rattle.engine.specs.Tasks.{blank, task_in, no_pair, born?, held?, busy_by?, come, final_task, root_task}
use Rattle.engine.specs.declared.rows.Rows.{Rows}
use Rattle.engine.specs.State.{State, rows_of}
use Rattle.engine.specs.Sound.{Sized, Sound}
use Rattle.engine.proofs.Lists.{at_set, at_replicate, within}
use Rattle.engine.proofs.Phases.{busy_held, held_born}
use Rattle.engine.proofs.Sound.{came, come_sound, hand_sound, pair_sound}

-- tables with no task, and no hand that holds one
unborn_sound : (ks : List Task) (qs : List Pair) (hs : List (Option ℕ)) → Sized ks qs hs 0
    → ((n : ℕ) → task_in ks n ≡ blank) → ((a : ℕ) → get_or hs a None ≡ None) → Sound ks qs hs 0
unborn_sound ks qs hs sized task hand = record {
  sized = sized;
  given = λ n h. cc (task n);
  held = λ n h. cc (task n);
  known = λ n f h. cc (task n);
  awaited = λ n f h. cc (task n);
  paired = λ n h. cc (task n);
  ranged = λ n q h. cc (task n);
  last = λ n h. cc (task n);
  handed = λ a n h. cc (hand a);
}

pub fresh_sound : Sound (replicate 1024 blank) (replicate 512 no_pair) (replicate 16 None) 0
fresh_sound =
    unborn_sound _ _ _
    (length-replicate 1024 blank, length-replicate 512 no_pair, length-replicate {A = Option ℕ} 16 None, omega arith)
    (at_replicate 1024 blank) (at_replicate 16 None)

-- rows are sound where the state that they show is
pub shown_sound : (r : Rows) (s : State Unit) → rows_of r ≡ s → Sound s.tasks s.pairs s.hands s.rounds
    → Sound r.tasks r.pairs r.hands r.rounds
shown_sound r s e h = subst (λ (z : State Unit). Sound z.tasks z.pairs z.hands z.rounds) (sym e) h

module _ {ks : List Task} {qs : List Pair} {hs : List (Option ℕ)} {r : ℕ} (s : Sound ks qs hs r) where
  pub take_sound : (n : ℕ) → (task_in ks n).phase ≡ Ready → is_some (task_in ks n).finish ≡ true → Sound (come ks n InHand) qs hs r
  take_sound n ready finish =
      come_sound s n InHand (s.given n (ap born? ready)) (λ _. finish) (λ a h. cc (ready, s.handed a n h))

  pub signal_sound : (a n : ℕ) → a < 16 → (task_in ks n).phase ≡ InHand → Sound (come ks n (Busy a Begun)) qs (set hs a (Some n)) r
  signal_sound a n few hold =
      let given = s.given n (ap born? hold) in
      let busy : busy_by? a (task_in (come ks n (Busy a Begun)) n).phase ≡ true =
      ap (λ (k : Task). busy_by? a k.phase) (came s n (Busy a Begun) given) ∙ eq-eqb a a refl in
      hand_sound
      (come_sound s n (Busy a Begun) given (λ _. s.held n (ap held? hold))
      (λ b h. cc (hold, s.handed b n h)))
      a (Some n) (omega (arith, s.sized))
      (λ m e. cc busy)

  pub claim_sound : (a n q : ℕ) (x : Pair) → (task_in ks n).phase ≡ Busy a Begun → Sound (come ks n (Busy a Leaving)) (set qs q x) hs r
  claim_sound a n q x begun =
      pair_sound
      (come_sound s n (Busy a Leaving) (s.given n (ap born? begun)) (λ _. s.held n (ap held? begun))
      (λ b h. cc (begun, s.handed b n h)))
      q x

  pub leave_sound : (a n : ℕ) → get_or hs a None ≡ Some n → (task_in ks n).phase ≡ Busy a Leaving → Sound (come ks n Done) qs (set hs a None) r
  leave_sound a n hand leaving =
      let here : a < length hs = within hs a n hand in
      let free : (b : ℕ) → get_or (set hs a None) b None ≡ Some n → ⊥ =
      λ b. at_set hs a None None b (λ o. o ≡ Some n → ⊥) here (λ _ h. cc)
      (λ other h. other (eqb-true b a (ap (busy_by? b) (sym leaving) ∙ s.handed b n h))) in
      come_sound (hand_sound s a None here (λ m h. cc)) n Done
      (s.given n (ap born? leaving)) (λ h. cc) (λ b h. absurd (free b h))

  pub last_sound : (a n f : ℕ) → get_or hs a None ≡ Some n → (task_in ks n).phase ≡ Busy a Leaving → (task_in ks n).finish ≡ Some f
      → Sound (come (come ks n Done) f Ready) qs (set hs a None) r
  last_sound a n f hand leaving under =
      let left = leave_sound a n hand leaving in
      let still : (task_in (come ks n Done) n).finish ≡ Some f =
      ap (λ (k : Task). k.finish) (came s n Done (s.given n (ap born? leaving))) ∙ under in
      let free : (b : ℕ) → get_or (set hs a None) b None ≡ Some f → ⊥ =
      λ b h. both_ways _ (left.last f (left.awaited n f still)) (left.held f (busy_held b _ (left.handed b f h))) in
      come_sound left f Ready (s.known n f under) (λ h. cc) (λ b h. absurd (free b h))

  pub make_sound : (t p : ℕ) (x : Pair) → r < 512
      → Sound (set (set ks (2 * r) (final_task t)) (2 * r + 1) (root_task (2 * r) p r)) (set qs r x) hs (r + 1)
  make_sound t p x few =
      let final : Task = final_task t in
      let root : Task = root_task (2 * r) p r in
      let one : List Task = set ks (2 * r) final in
      let new : List Task = set one (2 * r + 1) root in
      let here : 2 * r < length ks = omega (arith, s.sized) in
      let high : 2 * r + 1 < length one = omega (arith, s.sized, length-set ks (2 * r) final) in
      let at_new : (m : ℕ) (P : Task → Type 0) → (m ≡ 2 * r + 1 → P root) → (m ≡ 2 * r → P final) → (((m ≡ 2 * r) → ⊥) → P (task_in ks m))
      → P (task_in new m) =
      λ m P at_root at_final old. at_set one (2 * r + 1) root blank m P high at_root (λ _. at_set ks (2 * r) final blank m P here at_final old) in
      let tallied : (f : ℕ) → f < 2 * r → is_some (task_in ks f).tally ≡ true → is_some (task_in new f).tally ≡ true =
      λ f h k. at_new f (λ k. is_some k.tally ≡ true) (λ e. absurd (omega arith)) (λ _. refl) (λ _. k) in
      record {
        sized =
            (length-set one (2 * r + 1) root ∙ length-set ks (2 * r) final ∙ s.sized.0, length-set qs r x ∙ s.sized.1, s.sized.2, omega arith);
        given =
            λ m. at_new m (λ k. born? k.phase ≡ true → m < 2 * (r + 1)) (λ e _. omega arith) (λ e _. omega arith)
            (λ _ h. omega (arith, s.given m h));
        held =
            λ m. at_new m (λ k. held? k.phase ≡ true → is_some k.finish ≡ true) (λ _ _. refl) (λ _ h. cc)
            (λ _. s.held m);
        known =
            λ m f. at_new m (λ k. k.finish ≡ Some f → f < 2 * (r + 1)) (λ _ h. let e : f ≡ 2 * r = cc in omega arith) (λ _ h. cc)
            (λ _ h. omega (arith, s.known m f h));
        awaited =
            λ m f. at_new m (λ k. k.finish ≡ Some f → is_some (task_in new f).tally ≡ true)
            (λ _ h. let e : f ≡ 2 * r = cc in
            at_new f (λ k. is_some k.tally ≡ true) (λ g. absurd (omega arith)) (λ _. refl) (λ other. absurd (other e)))
            (λ _ h. cc)
            (λ _ h. tallied f (s.known m f h) (s.awaited m f h));
        paired =
            λ m. at_new m (λ k. is_some k.finish ≡ true → is_some k.pair ≡ true) (λ _ _. refl) (λ _ h. h) (λ _. s.paired m);
        ranged =
            λ m q. at_new m (λ k. k.pair ≡ Some q → q < 512) (λ _ h. let e : q ≡ r = cc in omega arith) (λ _ h. cc)
            (λ _. s.ranged m q);
        last =
            λ m. at_new m (λ k. is_some k.tally ≡ true → is_some k.finish ≡ false) (λ _ h. cc) (λ _ _. refl)
            (λ _. s.last m);
        handed =
            λ a m h. let old : m < 2 * r = s.given m (held_born _ (busy_held a _ (s.handed a m h))) in
            at_new m (λ k. busy_by? a k.phase ≡ true) (λ e. absurd (omega arith)) (λ e. absurd (omega arith))
            (λ _. s.handed a m h);
      }
