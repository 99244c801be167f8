-- A turn of an errand is a turn of its agent in the counting forest.
use Rattle.std.proofs.Common.{◌≡◌, ℕ, zero, suc, pred, ◌+◌, ◌-◌, ◌<◌, ◌≤◌, min, max, Bool, true, false, cond, eqb, leb, List, ◌∷◌, length, get_or, set, Some, None, Option, sym, refl, ap, ◌∙◌, subst, inl, inr, arith, lit≤}
use Rattle.std.proofs.lemmas.List.{length-set, get_or-set_same, get_or-set_other}
use Rattle.std.proofs.lemmas.Simd.{length-replicate}
use Rattle.std.proofs.lemmas.Bool.{cases_eq, cond-false, ne_eqb}
use Rattle.std.proofs.lemmas.Bool.Decides.{nat_tests}
use Rattle.words.specs.declared.kind.Kind.{Kind}
use Rattle.words.specs.declared.kind.Kind.TheVariants.{Empty, Half, Counted}
use Rattle.words.specs.declared.word.Word.{Word}
use Rattle.words.specs.Kinds.{least, most}
use Rattle.words.specs.Steps.{raised, opened, settled, lowered, emptied, fewer}
use Rattle.forest.specs.declared.errand.After.{After}
use Rattle.forest.specs.declared.errand.Errand.{Errand}
use Rattle.forest.specs.declared.errand.Frame.{Frame}
use Rattle.forest.specs.declared.errand.Phase.{Phase}
use Rattle.forest.specs.declared.errand.Phase.TheVariants.{Idle, Grow, Fork, Read, Raise, Open, Settle, Look, Lower}
use Rattle.forest.specs.declared.errand.Role.{Role}
use Rattle.forest.specs.declared.errand.Role.TheVariants.{Owner, Helper}
use Rattle.forest.specs.declared.errand.Said.TheVariants.{Going}
use Rattle.forest.specs.Agents.{cell, role_of, frames_to, back_to, agent, said_of, after_of, begins, half?, suits, Fit}
use Rattle.forest.specs.Climb as climb
use Rattle.forest.specs.Errands.{no_errand, goes, writes, climbs, arrived, popped, resumes, resumed, departed, still, again, idles, mounts, helps, opens_below, loses, lowers_by, turned}
use Rattle.forest.specs.Waits.{no_frame}
use Rattle.forest.proofs.Counting.{false_true, never}
use Rattle.forest.proofs.Moving.{Carries, by_test, frames_push, moving, same_counted, same_empty, same_half, same_tells, sinking}

-- An errand by its parts

module _ (t : ℕ) (l : ℕ × ℕ) (fs : List Frame) (long : length fs ≡ 16) where
  abbrev En : Phase → ℕ → Word → ℕ → Errand
  En p x m h = record { phase = p; tally = t; node = x; word = m; later = l; waiting = record { height = h; frames = fs } }

  abbrev Halves : ℕ → Type 0
  Halves h = (i : ℕ) → i < h → half? (get_or fs i no_frame).word.kind ≡ true

  abbrev fr : ℕ → Frame
  fr n = get_or fs n no_frame

  last_is : (n : ℕ) → get_or fs (suc n - 1) no_frame ≡ fr n
  last_is n = ap (λ (i : ℕ). get_or fs i no_frame) (let e : suc n - 1 ≡ n = omega arith in e)

  -- what an After says, with the word that is left in place of what is written
  abbrev leaves : climb.Word → After → climb.Left
  leaves u r = climb.left (agent r.errand) u (said_of r.said)

  -- An arrival is done

  abbrev settler_at : ℕ → Errand
  settler_at n = En Settle (fr n).node (fr n).word (suc n)

  arrived_suc : (p : Phase) (x : ℕ) (m : Word) (n : ℕ) → arrived (En p x m (suc n)) ≡ goes (settler_at n)
  arrived_suc p x m n =
      cond-false (eqb (suc n) 0) _ _ (ne_eqb (suc n) 0 (λ (e : suc n ≡ 0). omega arith)) ∙ ap (λ (f : Frame). goes (En Settle f.node f.word (suc n))) (last_is n)

  arrived_is : (p : Phase) (x : ℕ) (m : Word) (h : ℕ) (u : climb.Word) → leaves u (arrived (En p x m h)) ≡ climb.done x (frames_to fs h) u
  arrived_is p x m zero u = refl
  arrived_is p x m (suc n) u = ap (leaves u) (arrived_suc p x m n)

  -- The newest frame is over

  popped_suc : (p : Phase) (x : ℕ) (m : Word) (n : ℕ) → popped (En p x m (suc n)) ≡ En Read (fr n).node m n
  popped_suc p x m n = λ i. En Read (last_is n i).node m (less i)
    where
      less : suc n - 1 ≡ n
      less = omega arith

  abbrev resumes_at : Role → Word → ℕ → After
  resumes_at r m n = resumes r (En Read (fr n).node m n)

  resumed_suc : (p : Phase) (x : ℕ) (m : Word) (n : ℕ) → resumed (En p x m (suc n)) ≡ resumes_at (fr n).role m n
  resumed_suc p x m n = λ i. resumes (last_is n i).role (popped_suc p x m n i)

  -- an owner has arrived there, a helper reads the word anew
  abbrev over : climb.Role → ℕ → List climb.Frame → climb.Word → climb.Left
  over climb.owner y gs u = climb.done y gs u
  over climb.helper y gs u = climb.left (climb.arr y climb.reads gs) u climb.going

  resumes_is : (r : Role) (m : Word) (n : ℕ) (u : climb.Word) → leaves u (resumes_at r m n) ≡ over (role_of r) (fr n).node (frames_to fs n) u
  resumes_is Owner m n u = arrived_is Read (fr n).node m n u
  resumes_is Helper m n u = refl

  resumed_is : (p : Phase) (x : ℕ) (m : Word) (n : ℕ) (u : climb.Word) → leaves u (resumed (En p x m (suc n))) ≡ over (role_of (fr n).role) (fr n).node (frames_to fs n) u
  resumed_is p x m n u = ap (leaves u) (resumed_suc p x m n) ∙ resumes_is (fr n).role m n u

  -- A departure is done

  departed_suc : (d : Bool) (p : Phase) (x : ℕ) (m : Word) (n : ℕ) → departed d (En p x m (suc n)) ≡ resumed (En p x m (suc n))
  departed_suc d p x m n = cond-false (eqb (suc n) 0) _ _ (ne_eqb (suc n) 0 (λ (e : suc n ≡ 0). omega arith))

  finish_over : (r : climb.Role) (y : ℕ) (gs : List climb.Frame) (d : Bool) (u : climb.Word) → over r y gs u ≡ climb.finish (climb.back r y gs) d u
  finish_over climb.owner y gs d u = refl
  finish_over climb.helper y gs d u = refl

  departed_is : (d : Bool) (p : Phase) (x : ℕ) (m : Word) (h : ℕ) (u : climb.Word) → leaves u (departed d (En p x m h)) ≡ climb.finish (back_to fs h) d u
  departed_is d p x m zero u = refl
  departed_is d p x m (suc n) u =
      ap (leaves u) (departed_suc d p x m n) ∙ resumed_is p x m n u ∙ finish_over (role_of (fr n).role) (fr n).node (frames_to fs n) d u

  -- What is kept

  fit_none : Fit no_errand
  fit_none = record {
    size = length-replicate 16 no_frame;
    short = lit≤ tt;
    word = refl;
    halves = (λ i k. let z : ⊥ = omega arith in absurd z);
    settles = (λ e. let z : ◌≡◌ {A = ℕ} 0 1 = cc in let n : ⊥ = omega arith in absurd n);
    rests = (λ i. refl);
    flat = (λ e. refl);
  }

  settler_fits : (n : ℕ) → suc n ≤ 16 → Halves (suc n) → Fit (settler_at n)
  settler_fits n low hs = record {
    size = long;
    short = low;
    word = hs n (omega arith);
    halves = hs;
    settles = (λ e. (omega arith, sym (ap (λ (f : Frame). f.node) (last_is n))));
    rests = (λ i. absurd (false_true i));
    flat = (λ e. never e);
  }

  -- any phase but that of settling and the growth turns
  fits : (p : Phase) (x : ℕ) (m : Word) (h : ℕ) → h ≤ 16 → Halves h → suits p m.kind ≡ true → (p ≡ Settle → ⊥) → idles p ≡ false → begins p ≡ 0 → Fit (En p x m h)
  fits p x m h low hs w n busy calm = record { size = long; short = low; word = w; halves = hs; settles = (λ e. absurd (n e)); rests = (λ i. absurd (false_true (sym busy ∙ i))); flat = (λ e. never (sym calm ∙ e)) }

  not_settle_read : Read ≡ Settle → ⊥
  not_settle_read e = let z : ◌≡◌ {A = ℕ} 0 1 = cc in omega arith

  not_settle_look : Look ≡ Settle → ⊥
  not_settle_look e = let z : ◌≡◌ {A = ℕ} 0 1 = cc in omega arith

  module _ (e : Errand) (for : e.tally ≡ t) (after : e.later ≡ l) where
    -- written, an After with another word to write
    abbrev with_write : Option Word → After → After
    with_write w r = record { errand = r.errand; write = w; said = r.said }

    going_on : (f : Errand) (w : Option Word) → Fit f → begins f.phase ≡ 0 → f.tally ≡ t → f.later ≡ l → Carries e (with_write w (goes f))
    going_on f w fits calm a b = record { fit = fits; calm = calm; goes = inl (refl, a ∙ sym for, b ∙ sym after) }

    arrived_carries : (p : Phase) (x : ℕ) (m : Word) (h : ℕ) (w : Option Word) → h ≤ 16 → Halves h → Carries e (with_write w (arrived (En p x m h)))
    arrived_carries p x m zero w low hs = record { fit = fit_none; calm = refl; goes = inr refl }
    arrived_carries p x m (suc n) w low hs =
        subst (λ (r : After). Carries e (with_write w r)) (sym (arrived_suc p x m n)) (going_on (settler_at n) w (settler_fits n low hs) refl refl refl)

    reads_on : (x : ℕ) (m : Word) (h : ℕ) (w : Option Word) → h ≤ 16 → Halves h → Carries e (with_write w (goes (En Read x m h)))
    reads_on x m h w low hs = going_on (En Read x m h) w (fits Read x m h low hs refl not_settle_read refl refl) refl refl refl

    looks_on : (x : ℕ) (m : Word) (h : ℕ) (w : Option Word) → h ≤ 16 → Halves h → Carries e (with_write w (goes (En Look x m h)))
    looks_on x m h w low hs = going_on (En Look x m h) w (fits Look x m h low hs refl not_settle_look refl refl) refl refl refl

    resumes_carries : (r : Role) (m : Word) (n : ℕ) (w : Option Word) → n ≤ 16 → Halves n → Carries e (with_write w (resumes_at r m n))
    resumes_carries Owner m n w low hs = arrived_carries Read (fr n).node m n w low hs
    resumes_carries Helper m n w low hs = reads_on (fr n).node m n w low hs

    resumed_carries : (p : Phase) (x : ℕ) (m : Word) (n : ℕ) (w : Option Word) → suc n ≤ 16 → Halves (suc n) → Carries e (with_write w (resumed (En p x m (suc n))))
    resumed_carries p x m n w low hs =
        subst (λ (r : After). Carries e (with_write w r)) (sym (resumed_suc p x m n)) (resumes_carries (fr n).role m n w (omega arith) (λ i k. hs i (omega arith)))

    departed_carries : (d : Bool) (p : Phase) (x : ℕ) (m : Word) (h : ℕ) (w : Option Word) → h ≤ 16 → Halves h → Carries e (with_write w (departed d (En p x m h)))
    departed_carries d p x m zero w low hs = record { fit = fit_none; calm = refl; goes = inr refl }
    departed_carries d p x m (suc n) w low hs =
        subst (λ (r : After). Carries e (with_write w r)) (sym (departed_suc d p x m n)) (resumed_carries p x m n w low hs)

  -- The turn of the errand in phase p, which remembers a word of kind j, at a node with the parent up and a word of kind k

  module _ (x h : ℕ) (low : h ≤ 16) (hs : Halves h) (mc mv n v : ℕ) (narrow : mv < 65536) (small : v < 65536) (few : n < 16383) (up : Option ℕ) where
    abbrev Md : (j : Kind) → (least j ≤ mc) × (mc ≤ most j) → Word
    Md j law = record { kind = j; count = mc; version = mv; lawful = law; narrow = narrow }

    abbrev Wd : (k : Kind) → (least k ≤ n) × (n ≤ most k) → Word
    Wd k law = record { kind = k; count = n; version = v; lawful = law; narrow = small }

    abbrev fs' : List climb.Frame
    fs' = frames_to fs h

    -- the turn r of the errand e finds w and leaves u
    abbrev Sim : Errand → Word → After → climb.Left → Type 0
    Sim e w r u = (after_of w r ≡ u) × Carries e r

    -- Reading

    climbed : (m : Word) (r : Role) (w : Word) (q : ℕ) → half? w.kind ≡ true → h < 16
        → agent (climbs r w q (En Read x m h)).errand ≡ climb.arr q climb.reads (climb.frame x (role_of r) w.version ∷ fs')
    climbed m r w q half room =
        ap (λ (gs : List climb.Frame). climb.arr q climb.reads gs) (frames_push fs h (record { node = x; role = r; word = w }) (omega (arith, long)))

    climbed_fits : (e : Errand) → e.tally ≡ t → e.later ≡ l → (m : Word) (p : Phase) (r : Role) (w : Word) (q : ℕ) (o : Option Word) → half? w.kind ≡ true → h < 16
        → Carries e (record { errand = (climbs r w q (En p x m h)).errand; write = o; said = Going })
    climbed_fits e for after m p r w q o half room =
        let f : Frame = record { node = x; role = r; word = w } in
        record {
          fit = record {
            size = length-set fs h f ∙ long;
            short = omega arith;
            word = refl;
            halves = (λ i k. elim (cases_eq i h) [
              | inl s ↦ subst (λ (j : ℕ). half? (get_or (set fs h f) j no_frame).word.kind ≡ true) (sym s)
                  (ap (λ (g : Frame). half? g.word.kind) (get_or-set_same fs h f no_frame (omega (arith, long))) ∙ half)
              | inr d ↦ ap (λ (g : Frame). half? g.word.kind) (get_or-set_other fs h i f no_frame d) ∙ hs i (omega (arith, d))
            ]);
            settles = (λ s. absurd (not_settle_read s));
            rests = (λ i. absurd (false_true i));
            flat = (λ s. never s);
          };
          calm = refl;
          goes = inl (refl, sym for, sym after);
        }

    read_half : (m : Word) (law : (0 ≤ n) × (n ≤ 0)) (o : Option ℕ) → ((q : ℕ) → o ≡ Some q → h < 16)
        → Sim (En Read x m h) (Wd Half law) (helps (Wd Half law) o (En Read x m h)) (climb.climb o x climb.helper v fs' (climb.half v))
    read_half m law None room = (refl, reads_on (En Read x m h) refl refl x m h None low hs)
    read_half m law (Some q) room = (
      ap (λ (s : climb.Agent). climb.left s (climb.half v) climb.going) (climbed m Helper (Wd Half law) q refl (room q refl)),
      climbed_fits (En Read x m h) refl refl m Read Helper (Wd Half law) q None refl (room q refl),
    )

    reading : (m : Word) (k : Kind) (law : (least k ≤ n) × (n ≤ most k)) → ((q : ℕ) → up ≡ Some q → h < 16)
        → Sim (En Read x m h) (Wd k law) (turned Read k (En Read x m h) (Wd k law) up) (climb.step up (climb.arr x climb.reads fs') (cell (Wd k law)))
    reading m Empty law room = (refl, going_on (En Read x m h) refl refl (En Open x (Wd Empty law) h) None (fits Open x (Wd Empty law) h low hs refl (λ s. absurd (apart s)) refl refl) refl refl refl)
      where
        apart : Open ≡ Settle → ⊥
        apart s = let z : ◌≡◌ {A = ℕ} 0 1 = cc in omega arith
    reading m Half law room = read_half m law up room
    reading m Counted law room = (refl, going_on (En Read x m h) refl refl (En Raise x (Wd Counted law) h) None (fits Raise x (Wd Counted law) h low hs refl (λ s. absurd (apart s)) refl refl) refl refl refl)
      where
        apart : Raise ≡ Settle → ⊥
        apart s = let z : ◌≡◌ {A = ℕ} 0 1 = cc in omega arith

    -- Raising

    raising : (mlaw : (1 ≤ mc) × (mc ≤ 16383)) (k : Kind) (law : (least k ≤ n) × (n ≤ most k))
        → Sim (En Raise x (Md Counted mlaw) h) (Wd k law) (turned Raise k (En Raise x (Md Counted mlaw) h) (Wd k law) up)
        (climb.step up (agent (En Raise x (Md Counted mlaw) h)) (cell (Wd k law)))
    raising mlaw Empty law = (refl, reads_on (En Raise x (Md Counted mlaw) h) refl refl x (Md Counted mlaw) h None low hs)
    raising mlaw Half law = (refl, reads_on (En Raise x (Md Counted mlaw) h) refl refl x (Md Counted mlaw) h None low hs)
    raising mlaw Counted law =
        by_test (Sim e w) (still e w) _ (writes (raised w) (arrived e)) (again Read e) _ _ (same_counted mc n v mv mlaw.0 law.0)
        (λ b. let q = same_tells 2 mc n v mv b in (arrived_is Raise x m h (cell (raised w)) ∙ ap (climb.done x fs') (one_more q.0 q.1), arrived_carries e refl refl Raise x m h (Some (raised w)) low hs))
        (λ b. (refl, reads_on e refl refl x m h None low hs))
      where
        m : Word
        m = Md Counted mlaw

        w : Word
        w = Wd Counted law

        e : Errand
        e = En Raise x m h

        one_more : mc ≡ n → mv ≡ v → climb.counted (pred (min n 16382 + 1)) v ≡ climb.counted (suc (pred mc)) mv
        one_more a b = let c : pred (min n 16382 + 1) ≡ suc (pred mc) = omega (arith, law.0) in cc

    -- Opening

    open_won : (m : Word) (law : (0 ≤ n) × (n ≤ 0)) (o : Option ℕ) → mv ≡ v → ((q : ℕ) → o ≡ Some q → h < 16)
        → Sim (En Open x m h) (Wd Empty law) (opens_below (Wd Empty law) o (En Open x m h)) (climb.won_open o x mv fs')
    open_won m law None b room = (
      arrived_is Open x m h (cell (opened true (Wd Empty law))) ∙ ap (λ (a : ℕ). climb.done x fs' (climb.counted 0 (climb.bump a))) (sym b),
      arrived_carries (En Open x m h) refl refl Open x m h (Some (opened true (Wd Empty law))) low hs,
    )
    open_won m law (Some q) b room = (
      ap (λ (s : climb.Agent). climb.left s (climb.half (climb.bump v)) climb.going) (climbed m Owner (opened false (Wd Empty law)) q refl (room q refl))
          ∙ ap (λ (a : ℕ). climb.left (climb.arr q climb.reads (climb.frame x climb.owner (climb.bump a) ∷ fs')) (climb.half (climb.bump a)) climb.going) (sym b),
      climbed_fits (En Open x m h) refl refl m Open Owner (opened false (Wd Empty law)) q (Some (opened false (Wd Empty law))) refl (room q refl),
    )

    opening : (mlaw : (0 ≤ mc) × (mc ≤ 0)) (k : Kind) (law : (least k ≤ n) × (n ≤ most k)) → ((q : ℕ) → up ≡ Some q → h < 16)
        → Sim (En Open x (Md Empty mlaw) h) (Wd k law) (turned Open k (En Open x (Md Empty mlaw) h) (Wd k law) up)
        (climb.step up (agent (En Open x (Md Empty mlaw) h)) (cell (Wd k law)))
    opening mlaw Half law room = (refl, reads_on (En Open x (Md Empty mlaw) h) refl refl x (Md Empty mlaw) h None low hs)
    opening mlaw Counted law room = (refl, reads_on (En Open x (Md Empty mlaw) h) refl refl x (Md Empty mlaw) h None low hs)
    opening mlaw Empty law room =
        by_test (Sim e w) (still e w) _ (opens_below w up e) (again Read e) _ _ (same_empty mc n v mv mlaw.1 law.1)
        (λ b. open_won m law up (same_tells 0 mc n v mv b).1 room)
        (λ b. (refl, reads_on e refl refl x m h None low hs))
      where
        m : Word
        m = Md Empty mlaw

        w : Word
        w = Wd Empty law

        e : Errand
        e = En Open x m h

    -- Looking and lowering

    looking : (m : Word) (law : (1 ≤ n) × (n ≤ 16383))
        → Sim (En Look x m h) (Wd Counted law) (turned Look Counted (En Look x m h) (Wd Counted law) up) (climb.step up (climb.dep x climb.looks (back_to fs h)) (cell (Wd Counted law)))
    looking m law = (refl, going_on (En Look x m h) refl refl (En Lower x (Wd Counted law) h) None (fits Lower x (Wd Counted law) h low hs refl apart refl refl) refl refl refl)
      where
        apart : Lower ≡ Settle → ⊥
        apart s = let z : ◌≡◌ {A = ℕ} 0 1 = cc in omega arith

    last_lowered : (m : Word) (law : (1 ≤ n) × (n ≤ 16383)) (o : Option ℕ)
        → Sim (En Lower x m h) (Wd Counted law) (writes (emptied (Wd Counted law)) (lowers_by true o (En Lower x m h))) (climb.won_lower o 0 v x (back_to fs h))
    last_lowered m law None = (departed_is true Lower x m h (climb.empty v), departed_carries (En Lower x m h) refl refl true Lower x m h (Some (emptied (Wd Counted law))) low hs)
    last_lowered m law (Some q) = (refl, looks_on (En Lower x m h) refl refl q m h (Some (emptied (Wd Counted law))) low hs)

    more_lowered : (m : Word) (law : (1 ≤ n) × (n ≤ 16383)) (o : Option ℕ) → 1 < n
        → Sim (En Lower x m h) (Wd Counted law) (writes (fewer (Wd Counted law)) (lowers_by false o (En Lower x m h))) (climb.won_lower o (suc (pred (max 1 (n - 1)))) v x (back_to fs h))
    more_lowered m law None some = (departed_is false Lower x m h (cell (fewer (Wd Counted law))), departed_carries (En Lower x m h) refl refl false Lower x m h (Some (fewer (Wd Counted law))) low hs)
    more_lowered m law (Some q) some = (departed_is false Lower x m h (cell (fewer (Wd Counted law))), departed_carries (En Lower x m h) refl refl false Lower x m h (Some (fewer (Wd Counted law))) low hs)

    lower_won : (m : Word) (law : (1 ≤ n) × (n ≤ 16383)) (b : Bool) → leb n 1 ≡ b → mc ≡ n → mv ≡ v
        → Sim (En Lower x m h) (Wd Counted law) (writes (cond b (emptied (Wd Counted law)) (fewer (Wd Counted law))) (lowers_by b up (En Lower x m h))) (climb.won_lower up (pred mc) mv x (back_to fs h))
    lower_won m law true e a b =
        let c : n ≤ 1 = grind (arith, nat_tests) in
        let d : pred mc ≡ 0 = omega (arith, law.0) in
        subst (λ (i : ℕ). Sim (En Lower x m h) (Wd Counted law) (writes (emptied (Wd Counted law)) (lowers_by true up (En Lower x m h))) (climb.won_lower up i mv x (back_to fs h))) (sym d)
        (subst (λ (i : ℕ). Sim (En Lower x m h) (Wd Counted law) (writes (emptied (Wd Counted law)) (lowers_by true up (En Lower x m h))) (climb.won_lower up 0 i x (back_to fs h))) (sym b) (last_lowered m law up))
    lower_won m law false e a b =
        let c : 1 < n = grind (arith, nat_tests) in
        let d : pred mc ≡ suc (pred (max 1 (n - 1))) = omega arith in
        subst (λ (i : ℕ). Sim (En Lower x m h) (Wd Counted law) (writes (fewer (Wd Counted law)) (lowers_by false up (En Lower x m h))) (climb.won_lower up i mv x (back_to fs h))) (sym d)
        (subst (λ (i : ℕ). Sim (En Lower x m h) (Wd Counted law) (writes (fewer (Wd Counted law)) (lowers_by false up (En Lower x m h))) (climb.won_lower up (suc (pred (max 1 (n - 1)))) i x (back_to fs h))) (sym b)
        (more_lowered m law up c))

    lowering : (mlaw : (1 ≤ mc) × (mc ≤ 16383)) (law : (1 ≤ n) × (n ≤ 16383))
        → Sim (En Lower x (Md Counted mlaw) h) (Wd Counted law) (turned Lower Counted (En Lower x (Md Counted mlaw) h) (Wd Counted law) up)
        (climb.step up (agent (En Lower x (Md Counted mlaw) h)) (cell (Wd Counted law)))
    lowering mlaw law =
        by_test (Sim e w) (still e w) _ (writes (lowered w) (lowers_by (leb n 1) up e)) (again Look e) _ _ (same_counted mc n v mv mlaw.0 law.0)
        (λ b. let q = same_tells 2 mc n v mv b in lower_won m law (leb n 1) refl q.0 q.1)
        (λ b. (refl, looks_on e refl refl x m h None low hs))
      where
        m : Word
        m = Md Counted mlaw

        w : Word
        w = Wd Counted law

        e : Errand
        e = En Lower x m h

  -- Settling, where the newest frame n is x

  module _ (x i : ℕ) (here : x ≡ (fr i).node) (low : suc i ≤ 16) (hs : Halves (suc i)) (mc mv n v : ℕ) (narrow : mv < 65536) (small : v < 65536) (up : Option ℕ) (mlaw : (0 ≤ mc) × (mc ≤ 0)) where
    abbrev Hd : Word
    Hd = record { kind = Half; count = mc; version = mv; lawful = mlaw; narrow = narrow }

    abbrev Fd : (k : Kind) → (least k ≤ n) × (n ≤ most k) → Word
    Fd k law = record { kind = k; count = n; version = v; lawful = law; narrow = small }

    abbrev e : Errand
    e = En Settle x Hd (suc i)

    abbrev So : Word → After → climb.Left → Type 0
    So w r u = (after_of w r ≡ u) × Carries e r

    kept : Fit e
    kept = record { size = long; short = low; word = refl; halves = hs; settles = (λ s. (omega arith, here ∙ sym (ap (λ (f : Frame). f.node) (last_is i)))); rests = (λ r. absurd (false_true r)); flat = (λ s. never s) }

    lost : (w : Word) (o : Option ℕ) → So w (loses o e) (climb.lost_settle o (role_of (fr i).role) x mv (frames_to fs i) (cell w))
    lost w None = (refl, going_on e refl refl e None kept refl refl refl)
    lost w (Some q) = (
      ap (λ (y : ℕ). climb.left (climb.dep q climb.looks (climb.back (role_of (fr i).role) y (frames_to fs i))) (cell w) climb.going) (sym here),
      looks_on e refl refl q Hd (suc i) None low hs,
    )

    over_won : (r : climb.Role) (y : ℕ) (gs : List climb.Frame) (a : ℕ) → over r y gs (climb.counted 0 a) ≡ climb.won_settle r y a gs
    over_won climb.owner y gs a = refl
    over_won climb.helper y gs a = refl

    settling : (k : Kind) (law : (least k ≤ n) × (n ≤ most k)) → So (Fd k law) (turned Settle k e (Fd k law) up) (climb.step up (agent e) (cell (Fd k law)))
    settling Empty law = lost (Fd Empty law) up
    settling Counted law = lost (Fd Counted law) up
    settling Half law =
        by_test (So w) (still e w) _ (writes (settled w) (resumed e)) (loses up e) _ _ (same_half mc n v mv mlaw.1 law.1)
        (λ b. (
          resumed_is Settle x Hd i (climb.counted 0 v) ∙ over_won (role_of (fr i).role) (fr i).node (frames_to fs i) v
              ∙ ap (λ (y : ℕ). climb.won_settle (role_of (fr i).role) y v (frames_to fs i)) (sym here)
              ∙ ap (λ (a : ℕ). climb.won_settle (role_of (fr i).role) x a (frames_to fs i)) (sym (same_tells 1 mc n v mv b).1),
          resumed_carries e refl refl Settle x Hd i (Some (settled w)) low hs,
        ))
        (λ b. lost w up)
      where
        w : Word
        w = Fd Half law

-- Every turn

module _ (t : ℕ) (l : ℕ × ℕ) (fs : List Frame) (long : length fs ≡ 16) (x mc mv n v : ℕ) (narrow : mv < 65536) (small : v < 65536) (few : n < 16383) (up : Option ℕ) where
  abbrev Er : Phase → (j : Kind) → (least j ≤ mc) × (mc ≤ most j) → ℕ → Errand
  Er p j law h = record { phase = p; tally = t; node = x; word = record { kind = j; count = mc; version = mv; lawful = law; narrow = narrow }; later = l; waiting = record { height = h; frames = fs } }

  abbrev Fo : (k : Kind) → (least k ≤ n) × (n ≤ most k) → Word
  Fo k law = record { kind = k; count = n; version = v; lawful = law; narrow = small }

  abbrev Goal : Phase → (j k : Kind) → ℕ → Type 0
  Goal p j k h = (jl : (least j ≤ mc) × (mc ≤ most j)) (kl : (least k ≤ n) × (n ≤ most k)) → Fit (Er p j jl h) → moving p ≡ true → (sinking p ≡ true → k ≡ Counted)
      → ((q : ℕ) → up ≡ Some q → mounts p ≡ true → h < 16)
      → (after_of (Fo k kl) (turned p k (Er p j jl h) (Fo k kl) up) ≡ climb.step up (agent (Er p j jl h)) (cell (Fo k kl))) × Carries (Er p j jl h) (turned p k (Er p j jl h) (Fo k kl) up)

  not_empty : Empty ≡ Counted → ⊥
  not_empty e = let z : ◌≡◌ {A = ℕ} 0 1 = cc in omega arith

  not_half : Half ≡ Counted → ⊥
  not_half e = let z : ◌≡◌ {A = ℕ} 0 1 = cc in omega arith

  settle_at : (h : ℕ) (k : Kind) → Goal Settle Half k h
  settle_at zero k jl kl f mo si room = let z : ⊥ = omega (arith, (f.settles refl).0) in absurd z
  settle_at (suc i) k jl kl f mo si room =
      settling t l fs long x i ((f.settles refl).1 ∙ ap (λ (g : Frame). g.node) (last_is t l fs long i)) f.short f.halves mc mv n v narrow small up jl k kl

  at_phase : (p : Phase) (j k : Kind) (h : ℕ) → Goal p j k h
  at_phase Idle j k h jl kl f mo si room = absurd (false_true mo)
  at_phase (Grow s c) j k h jl kl f mo si room = absurd (false_true mo)
  at_phase (Fork s) j k h jl kl f mo si room = absurd (false_true mo)
  at_phase Read j k h jl kl f mo si room =
      reading t l fs long x h f.short f.halves mc mv n v narrow small few up (record { kind = j; count = mc; version = mv; lawful = jl; narrow = narrow }) k kl (λ q e. room q e refl)
  at_phase Raise Empty k h jl kl f mo si room = absurd (false_true f.word)
  at_phase Raise Half k h jl kl f mo si room = absurd (false_true f.word)
  at_phase Raise Counted k h jl kl f mo si room = raising t l fs long x h f.short f.halves mc mv n v narrow small few up jl k kl
  at_phase Open Half k h jl kl f mo si room = absurd (false_true f.word)
  at_phase Open Counted k h jl kl f mo si room = absurd (false_true f.word)
  at_phase Open Empty k h jl kl f mo si room = opening t l fs long x h f.short f.halves mc mv n v narrow small few up jl k kl (λ q e. room q e refl)
  at_phase Settle Empty k h jl kl f mo si room = absurd (false_true f.word)
  at_phase Settle Counted k h jl kl f mo si room = absurd (false_true f.word)
  at_phase Settle Half k h jl kl f mo si room = settle_at h k jl kl f mo si room
  at_phase Look j Empty h jl kl f mo si room = absurd (not_empty (si refl))
  at_phase Look j Half h jl kl f mo si room = absurd (not_half (si refl))
  at_phase Look j Counted h jl kl f mo si room =
      looking t l fs long x h f.short f.halves mc mv n v narrow small few up (record { kind = j; count = mc; version = mv; lawful = jl; narrow = narrow }) kl
  at_phase Lower Empty k h jl kl f mo si room = absurd (false_true f.word)
  at_phase Lower Half k h jl kl f mo si room = absurd (false_true f.word)
  at_phase Lower Counted Empty h jl kl f mo si room = absurd (not_empty (si refl))
  at_phase Lower Counted Half h jl kl f mo si room = absurd (not_half (si refl))
  at_phase Lower Counted Counted h jl kl f mo si room = lowering t l fs long x h f.short f.halves mc mv n v narrow small few up jl kl

pub simulates : (e : Errand) (w : Word) (up : Option ℕ) → Fit e → moving e.phase ≡ true → (sinking e.phase ≡ true → w.kind ≡ Counted) → w.count < 16383
    → ((q : ℕ) → up ≡ Some q → mounts e.phase ≡ true → e.waiting.height < 16)
    → (after_of w (turned e.phase w.kind e w up) ≡ climb.step up (agent e) (cell w)) × Carries e (turned e.phase w.kind e w up)
simulates e w up f mo si few room =
    at_phase e.tally e.later e.waiting.frames f.size e.node e.word.count e.word.version w.count w.version e.word.narrow w.narrow few up
    e.phase e.word.kind w.kind e.waiting.height e.word.lawful w.lawful f mo si room
