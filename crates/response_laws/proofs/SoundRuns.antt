-- Rounds, ticks and stretches of runs that keep the pace.
use Rattle.std.proofs.Common.{◌≡◌, ℕ, ◌+◌, ◌<◌, ◌≤◌, ◌⊎◌, ◌&&◌, ◌||◌, not, List, [], ◌∷◌, ◌++◌, length, Bool, true, false, cond, max, refl, sym, ap, ◌∙◌, subst, arith, inl, inr, append_assoc}
use Rattle.std.specs.List.{AllByRecursion}
use Rattle.std.proofs.Math.Nat.{max-le}
use Rattle.std.proofs.lemmas.Bool.{false≢true, and_parts, not-true}
use Rattle.sloth_base.specs.declared.config.Config.{Config}
use Rattle.sloth_base.specs.declared.app.App.{App}
use Rattle.sloth_base.specs.declared.service.Event.{Event}
use Rattle.sloth_base.specs.declared.service.Event.TheVariants as event
use Rattle.sloth_base.specs.declared.service.Stamped.{Stamped}
use Rattle.code_rules.specs.WellFormed.{WellFormed}
use Rattle.load_text.specs.declared.load_line.Entry.{Entry}
use Rattle.osek_scheduler.specs.State.{Frame, Task, System, task, opening}
use Rattle.osek_scheduler.specs.Steps.{OsekStep}
use Rattle.osek_scheduler.specs.Runs.{AreStepsTo, OsekRun}
use Rattle.osek_scheduler.proofs.Leading.{leads-append}
use Rattle.bound_rules.specs.declared.bound.BodyWeights.{BodyWeights}
use Rattle.sim_induction.specs.Events.{has_frames, enter_counts, stretch_counts}
use Rattle.sim_induction.specs.Pace.{ItemSizes, AreAtMost, next_size, next_size_of, gap_counts}
use Rattle.sim_induction.specs.Weighed.{AreWithinWeights}
use Rattle.run_counts.specs.Laws.{IsWithinWeights}
use Rattle.run_counts.specs.Spending.{WeighsItems}
use Rattle.run_counts.specs.Stages.{Stage, spanned, own, is_entry, run_stages}
use Rattle.osek_scheduler.specs.InTime.{InTime}
use Rattle.sloth_base.specs.declared.service.Arrival.{Arrival}
use Rattle.sim_induction.specs.Spent.{SpendsOnItems}
use Rattle.response_laws.proofs.OwnWalks.{own_first, own_next}
use Rattle.response_laws.proofs.Spanned.{IsSpannedWithin, run_spanned, entry_spanned, tick_spanned}
use Rattle.run_counts.specs.Rounds.{goes_on_waiting, opens_round, WeighsEndings}
use Rattle.response_laws.specs.Turns.{at_entry, at_tick, begins_first, begins_next, if_entry, activated}
use Rattle.response_laws.specs.Demand.{Costs}
use Rattle.response_laws.specs.Bounded.{EachFirst, EachNext, BoundsRounds, BoundsJoined}
use Rattle.response_laws.specs.Makers.{activation_weights}
use Rattle.response_laws.specs.Once.{StaysOut}
use Rattle.response_laws.proofs.Once.{rounds_make_once}
use Rattle.response_laws.specs.Arrivals.{AreCharged}
use Rattle.response_laws.specs.SoundRuns.{NoStretchIsAbove, KeepsWork, FitsRounds, FitsJoined}
use Rattle.response_laws.specs.Walked.{FirstRoundsSum, LaterRoundsSum}
use Rattle.response_laws.specs.Never.{OthersSleep}
use Rattle.response_laws.proofs.Awake.{opener_comes}
use Rattle.response_laws.proofs.Linked.{Known, each_append, each_so}
use Rattle.response_laws.proofs.RoundEnds.{rounds_make_within}
use Rattle.response_laws.proofs.RoundSums.{first_opens, next_opens}
use Rattle.response_laws.proofs.Settings.{clean_tasks_have_settings, settings_but_one}

-- ---- what an event may take

module _ (config : Config) (app : App) (size : ItemSizes) (longest : ℕ) (most : AreAtMost size longest) (some : 1 ≤ longest) where
  few_next : (own : Task) → next_size_of size own ≤ longest
  few_next own = by own.owed own.frames
    where
      by : (b : Bool) (fs : List Frame) → cond b 0 (next_size size fs) ≤ longest
      by true fs = omega arith
      by false [] = omega arith
      by false (frame ∷ outer) = most frame.func frame.item

  few_front : (found : System) (e : Event) → gap_counts size longest found e ≤ longest
  few_front found (event.Run t func item result) = most func item
  few_front found event.Idle = some
  few_front found (event.Call t served status) = few_next (task found t)
  few_front found (event.Left t served) = few_next (task found t)
  few_front found (event.Back t) = few_next (task found t)
  few_front found e = omega arith

  pub all_charged : (late : ℕ) → NoStretchIsAbove config app late → (xs : List Stage) → AllByRecursion (Known config app) xs
      → AllByRecursion (IsWithinWeights config app size longest) xs → AreCharged (longest + late) xs
  all_charged late above [] k within = tt
  all_charged late above (x ∷ xs) k within = (
    λ other later.
        let le = within.0 other later in
        let front = few_front x.found x.stamped.event in
        let stretch = above.stretches.each x.stamped.event x.found x.next k.0.step later in
        omega (arith, le, front, stretch),
    all_charged late above xs k.1 within.1,
  )

-- ---- a run

module _ (config : Config) (app : App) (size : ItemSizes) (longest n : ℕ) (weights : List BodyWeights) (load : List Entry) (arrivals : List Arrival) (events : List Stamped) (h : ℕ)
    (cuts : ℕ → Bool) (costs : Costs) (wf : WellFormed config app) (osek : OsekRun config app events) (timed : InTime config n arrivals events)
    (weighed : AreWithinWeights config app events) (spends : (t : ℕ) → t < length config.tasks → SpendsOnItems config app size longest t events)
    (weighs : WeighsItems app size weights) (ends : WeighsEndings app size weights) (works : KeepsWork config load cuts (run_stages config app events))
    (comes : ℕ → Bool) (known : AllByRecursion (Known config app) (run_stages config app events)) (sleeps : AllByRecursion (λ x. OthersSleep comes x.found) (run_stages config app events))
    (fits : FitsRounds config app weights load comes h cuts costs) where
  abbrev run : List Stage
  run = run_stages config app events

  each_spanned : AllByRecursion (IsSpannedWithin config app) run
  each_spanned = run_spanned config app events osek weighed

  -- what is known of a stage of the run
  there : (P : Stage → Type 0) → AllByRecursion P run → (before behind : List Stage) (opens : Stage) → run ≡ before ++ opens ∷ behind → P opens
  there P all before behind opens is = (each_append P before (opens ∷ behind) (subst (AllByRecursion P) is all)).1.0

  -- a task with a round comes
  opener : (t : ℕ) (before behind : List Stage) (opens : Stage) → run ≡ before ++ opens ∷ behind → opens_round (cuts t) t opens.stamped.event ≡ true → comes t ≡ true
  opener t before behind opens is begins =
      opener_comes comes opens.found (there (λ x. OthersSleep comes x.found) sleeps before behind opens is) t config app (cuts t) opens.stamped.event opens.next
      (there (Known config app) known before behind opens is).step begins

  entry_few : (t : ℕ) (resumed : Bool) (before behind : List Stage) (opens : Stage) → run ≡ before ++ opens ∷ behind
      → (at_entry t opens ≡ true → has_frames (task opens.found t).frames ≡ resumed)
      → if_entry t spanned opens ≤ enter_counts config app resumed t
  entry_few t resumed before behind opens is so = by (at_entry t opens) refl
    where
      by : (b : Bool) → at_entry t opens ≡ b → cond b (spanned opens) 0 ≤ enter_counts config app resumed t
      by true entry =
          let within = (each_append (IsSpannedWithin config app) before (opens ∷ behind) (subst (AllByRecursion (IsSpannedWithin config app)) is each_spanned)).1.0 in
          subst (λ b. spanned opens ≤ enter_counts config app b t) (so entry) (entry_spanned config app t opens within entry)
      by false other = omega arith

  -- what the code says of a task that joins
  pub bounds_joined : (b : ℕ) → FitsJoined config app comes h cuts costs b → BoundsJoined config h cuts costs run b
  bounds_joined b joined = record {
    first_sets = λ k level before behind opens is begun.
        (rounds_make_within config app events k b (cuts k) (costs.first_sets k b) wf osek).first_sets
        (joined.first_sets k level (opener k before behind opens is (first_opens (cuts k) k opens begun))) before behind opens is begun;
    next_sets = λ k level before behind opens is begun.
        (rounds_make_within config app events k b (cuts k) (costs.next_sets k b) wf osek).next_sets
        (joined.next_sets k level (opener k before behind opens is (next_opens (cuts k) k opens begun))) before behind opens is begun;
    settings = settings_but_one config app events b wf osek joined.clean;
  }

  pub bounds_rounds : BoundsRounds config h cuts costs run
  bounds_rounds = record {
    firsts = λ t lt over before behind opens is begun.
        let round = own_first config app size longest n weights load arrivals events cuts wf osek timed weighs ends works t lt (spends t lt) before behind opens is (fits.first_round t)
        (fits.firsts t lt over (opener t before behind opens is (first_opens (cuts t) t opens begun))) begun (first_opens (cuts t) t opens begun) in
        let front = entry_few t false before behind opens is
        (λ entry. not-true (has_frames (task opens.found t).frames) (and_parts (at_entry t opens) (not (has_frames (task opens.found t).frames)) begun).1) in
        let whole = fits.first t (opener t before behind opens is (first_opens (cuts t) t opens begun)) in
        omega (arith, round, front, whole);
    nexts = λ t lt over before behind opens is begun.
        let round = own_next config app size longest n weights load arrivals events cuts wf osek timed weighs ends works t lt (spends t lt) before behind opens is (fits.next_round t)
        (fits.nexts t lt over (opener t before behind opens is (next_opens (cuts t) t opens begun))) begun (next_opens (cuts t) t opens begun) in
        let front = entry_few t true before behind opens is (λ entry. again t opens begun entry) in
        let whole = fits.next t (opener t before behind opens is (next_opens (cuts t) t opens begun)) in
        omega (arith, round, front, whole);
    ticks = λ c.
        each_so (IsSpannedWithin config app) (λ x. at_tick c x ≡ true → spanned x ≤ costs.tick c)
        (λ x within is.
        let le = tick_spanned config app c x within is in
        let whole = fits.tick c in
        omega (arith, le, whole)) run each_spanned;
    first_acts = λ k j over made before behind opens is begun.
        first_makes k j over.0 (fits.first_acts k j over made (opener k before behind opens is (first_opens (cuts k) k opens begun))) before behind opens is begun;
    next_acts = λ k j over made before behind opens is begun.
        next_makes k j over.0 (fits.next_acts k j over made (opener k before behind opens is (next_opens (cuts k) k opens begun))) before behind opens is begun;
    first_sets = λ k j over made before behind opens is begun.
        (rounds_make_within config app events k j (cuts k) (costs.first_sets k j) wf osek).first_sets
        (fits.first_sets k j over made (opener k before behind opens is (first_opens (cuts k) k opens begun))) before behind opens is begun;
    next_sets = λ k j over made before behind opens is begun.
        (rounds_make_within config app events k j (cuts k) (costs.next_sets k j) wf osek).next_sets
        (fits.next_sets k j over made (opener k before behind opens is (next_opens (cuts k) k opens begun))) before behind opens is begun;
    settings = λ t lt over is. clean_tasks_have_settings config app events t wf osek (fits.clean t lt over is);
  }
    where
      first_makes : (k j : ℕ) → k < length config.tasks
          → FirstRoundsSum app (cuts k) k (activation_weights app k j) (costs.first_acts k j) ⊎ (StaysOut config app k j × (1 ≤ costs.first_acts k j))
          → EachFirst run (cuts k) k (activated j) (costs.first_acts k j)
      first_makes k j lt (inl walks) = (rounds_make_within config app events k j (cuts k) (costs.first_acts k j) wf osek).first_acts walks
      first_makes k j lt (inr once) = λ before behind opens is begun.
          let le = (rounds_make_once config app events k j (cuts k) wf osek lt once.0).0 before behind opens is begun in
          let one = once.1 in
          omega (arith, le, one)

      next_makes : (k j : ℕ) → k < length config.tasks
          → LaterRoundsSum app (cuts k) k (activation_weights app k j) (costs.next_acts k j) ⊎ (StaysOut config app k j × (1 ≤ costs.next_acts k j))
          → EachNext run (cuts k) k (activated j) (costs.next_acts k j)
      next_makes k j lt (inl walks) = (rounds_make_within config app events k j (cuts k) (costs.next_acts k j) wf osek).next_acts walks
      next_makes k j lt (inr once) = λ before behind opens is begun.
          let le = (rounds_make_once config app events k j (cuts k) wf osek lt once.0).1 before behind opens is begun in
          let one = once.1 in
          omega (arith, le, one)

      -- an entry is no WaitEvent, so it is one behind a wait
      again : (t : ℕ) (x : Stage) → begins_next (cuts t) t x ≡ true → at_entry t x ≡ true → has_frames (task x.found t).frames ≡ true
      again t x is entry = by (has_frames (task x.found t).frames) (cuts t) (goes_on_waiting t x.stamped.event) refl
          (sym (ap (λ b. (b && has_frames (task x.found t).frames) || (cuts t && goes_on_waiting t x.stamped.event)) entry) ∙ is)
        where
          none : goes_on_waiting t x.stamped.event ≡ true → ⊥
          none waits = apart x.stamped.event entry waits
            where
              apart : (e : Event) → is_entry t e ≡ true → goes_on_waiting t e ≡ true → ⊥
              apart (event.Enter u) entry waits = false≢true waits
              apart e entry waits = absurd (false≢true entry)

          by : (b c g : Bool) → goes_on_waiting t x.stamped.event ≡ g → (b || (c && g)) ≡ true → b ≡ true
          by true c g same any = refl
          by false true g same any = absurd (none (same ∙ any))
          by false false g same any = any

-- ---- the events of an image

module _ (config : Config) (app : App) (late : ℕ) (events : List Stamped) (above : NoStretchIsAbove config app late) (weighed : AreWithinWeights config app events) where
  stretch_few : (what : Event) (s next : System) → OsekStep config app what s next → stretch_counts config app s what ≤ late
  stretch_few event.Boot s next step = above.boots
  stretch_few what s next step = above.stretches.each what s next step refl

  at_least_one : (a : ℕ) → a ≤ late → max 1 a ≤ late
  at_least_one a le = max-le above.stretches.some le

  pub all_brief : (before rest : List Stamped) (s end : System) → events ≡ before ++ rest → AreStepsTo config app before (opening config app) s → AreStepsTo config app rest s end
      → AllByRecursion (λ e. e.stamp.at < e.stamp.from + late) rest
  all_brief before [] s end is led leads = tt
  all_brief before (e ∷ rest) s end is led leads =
      let weight = weighed before rest e s is led in
      let stretch = at_least_one (stretch_counts config app s e.event) (stretch_few e.event s leads.0 leads.1) in (
        omega (arith, weight, stretch),
        all_brief (before ++ e ∷ []) rest leads.0 end (is ∙ sym (append_assoc before (e ∷ []) rest))
            (leads-append config app before (e ∷ []) (opening config app) s leads.0 led (leads.0, leads.1, refl)) leads.2,
      )
