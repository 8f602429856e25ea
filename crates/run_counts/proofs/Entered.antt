-- The entry of the task of highest priority ends within its latency by weights.
use Rattle.std.proofs.Common.{◌≡◌, ◌∙◌, ℕ, ◌+◌, ◌-◌, ◌<◌, ◌≤◌, ◌⊎◌, List, [], ◌∷◌, ◌++◌, Bool, true, false, cond, length, refl, sym, ap, subst, arith, inl, inr, append_assoc}
use Rattle.std.specs.Prelude.{AllPairs, ◌||◌}
use Rattle.std.specs.List.{AllByRecursion}
use Rattle.std.proofs.lemmas.Bool.{cases_Bool, eqb-true, false≢true}
use Rattle.std.proofs.lemmas.List.{append-nil}
use Rattle.sloth_base.specs.declared.config.Config.{Config}
use Rattle.sloth_base.specs.declared.app.App.{App}
use Rattle.sloth_base.specs.declared.service.Event.{Event}
use Rattle.sloth_base.specs.declared.service.Event.TheVariants as event
use Rattle.sloth_base.specs.declared.service.Stamped.{Stamped}
use Rattle.sloth_base.specs.Events.{is_boot}
use Rattle.code_rules.specs.WellFormed.{WellFormed}
use Rattle.osek_scheduler.specs.State.{System, task, opening}
use Rattle.osek_scheduler.specs.InTime.{IsOrdered, is_admit}
use Rattle.osek_scheduler.specs.Runs.{AreStepsTo}
use Rattle.osek_scheduler.proofs.Apart.{opening_apart}
use Rattle.osek_scheduler.proofs.Facts.{Facts, facts}
use Rattle.osek_scheduler.proofs.Leading.{leads-append}
use Rattle.osek_scheduler.proofs.Reached.{run_valid}
use Rattle.osek_scheduler.proofs.Steps.{step_valid, opening_valid}
use Rattle.osek_blocking.specs.Blocking.{is_entry_of, events_up_to_entry}
use Rattle.osek_blocking.proofs.Ordering.{step_ordered, opening_ordered, leads_ordered}
use Rattle.osek_blocking.specs.Pace.{last_count}
use Rattle.osek_blocking.proofs.FrameEffects.{frame_effect, leads_placed}
use Rattle.osek_blocking.proofs.Placed.{step_placed, opening_placed}
use Rattle.sim_induction.specs.Events.{has_frames, enter_counts}
use Rattle.sim_induction.specs.Pace.{ItemSizes, paced_counts}
use Rattle.sim_induction.specs.Paced.{ArePacedTo, AreStretchesWithin, GoesInPace}
use Rattle.sim_induction.specs.Weighed.{AreWithinWeights}
use Rattle.sim_induction.proofs.Pacing.{last-append}
use Rattle.run_counts.specs.EntryLatency.{is_tick, EntersBefore}
use Rattle.run_counts.proofs.Awaiting.{Awaits, is_outside}
use Rattle.run_counts.proofs.Waiting.{IsOnTheWay, on_the_way}
use Rattle.run_counts.proofs.Entering.{stand_before, entry_facts, FirstEntry, enters, enters_not, find_entry}
use Rattle.run_counts.specs.Spending.{NoneIsLower}
use Rattle.run_counts.specs.Latency.{tick_weight, tick_weights, TakesWithin, IsEntryLimit, IsBehindBoot, RunsEnterByWeights}
use Rattle.run_counts.proofs.Spending.{paced_behind, leads_behind}
use Rattle.run_counts.proofs.Taken.{taken_with, taken, takes_most, none_takes}

-- ---- counts of events

-- a tick takes its weight, with the longest item in front
tick_fits : (config : Config) (app : App) (size : ItemSizes) (longest : ℕ) (s : System) (what : Event) → is_tick what ≡ true
    → paced_counts config app size longest s what ≤ tick_weight config longest what
tick_fits config app size longest s (event.Tick c) is = omega arith
tick_fits config app size longest s what is = absurd (false≢true is)

module _ (config : Config) (app : App) (size : ItemSizes) (longest : ℕ) where
  -- what events take from where the one before them ended: turns, and ticks
  last_one : (at : ℕ) (e : Stamped) (s : System) → is_boot e.event ≡ false → GoesInPace config app size longest at s e
      → cond (is_admit e) at e.stamp.at ≤ at + taken_with at e + tick_weight config longest e.event
  last_one at e s later goes = by (cases_Bool (is_admit e)) (cases_Bool (is_tick e.event))
    where
      by : (is_admit e ≡ true) ⊎ (is_admit e ≡ false) → (is_tick e.event ≡ true) ⊎ (is_tick e.event ≡ false)
          → cond (is_admit e) at e.stamp.at ≤ at + taken_with at e + tick_weight config longest e.event
      by (inl is) which = let same = ap (λ b. cond b at e.stamp.at) is in omega (arith, same)
      by (inr other) (inl tick) =
          let same = ap (λ b. cond b at e.stamp.at) other in
          let soon = goes.ends other later in
          let fits = tick_fits config app size longest s e.event tick in
          omega (arith, same, soon, fits)
      by (inr other) (inr none) =
          let same = ap (λ b. cond b at e.stamp.at) other in
          let outside : is_outside e.event ≡ false = ap (λ b. b || is_tick e.event) other ∙ none in
          let all = ap (λ b. cond b 0 (e.stamp.at - at)) outside in
          omega (arith, same, all)

  last_of : (window further : List Stamped) (at : ℕ) (s end : System) → ArePacedTo config app size longest at (window ++ further) s end → AllByRecursion IsOnTheWay window
      → last_count at window ≤ at + taken at window + tick_weights config longest window
  last_of [] further at s end paced way = omega arith
  last_of (e ∷ window) further at s end paced way =
      let rest = last_of window further (cond (is_admit e) at e.stamp.at) paced.0 end paced.3 way.1 in
      let one = last_one at e s way.0.0 paced.1 in
      omega (arith, rest, one)

  -- an event behind these goes in pace
  goes_at : (window rest : List Stamped) (e : Stamped) (at : ℕ) (s end : System) → ArePacedTo config app size longest at (window ++ e ∷ rest) s end
      → (found : System) × GoesInPace config app size longest (last_count at window) found e
  goes_at [] rest e at s end paced = (s, paced.1)
  goes_at (x ∷ window) rest e at s end paced = goes_at window rest e (cond (is_admit x) at x.stamp.at) paced.0 end paced.3

  -- the entry of task h takes what its entries take at most, behind the longest item
  entry_fits : (h entry : ℕ) (s : System) (what : Event) → IsEntryLimit config app h entry → is_entry_of h what ≡ true → paced_counts config app size longest s what ≤ longest + entry
  entry_fits h entry s (event.Enter t) fits is =
      let le = by (has_frames (task s t).frames) in
      omega (arith, le)
    where
      same : t ≡ h
      same = eqb-true t h is

      by : (resumed : Bool) → enter_counts config app resumed t ≤ entry
      by true = subst (λ v. enter_counts config app true v ≤ entry) (sym same) fits.0
      by false = subst (λ v. enter_counts config app false v ≤ entry) (sym same) fits.1
  entry_fits h entry s what fits is = absurd (false≢true is)

-- ---- what ran at the moment

module _ (config : Config) (app : App) (events : List Stamped) (weighed : AreWithinWeights config app events) (running : ℕ) (stretches : AreStretchesWithin config app running) where
  -- no event but boot spans more
  abbrev IsBrief : Stamped → Type 0
  IsBrief e = is_boot e.event ≡ false → e.stamp.at < e.stamp.from + running

  brief_before : (front rest tail : List Stamped) (s end : System) → events ≡ front ++ (rest ++ tail) → AreStepsTo config app front (opening config app) s → AreStepsTo config app rest s end
      → AllByRecursion IsBrief rest
  brief_before front [] tail s end is led leads = tt
  brief_before front (e ∷ rest) tail s end is led leads = (
    (λ later.
        let span = weighed front (rest ++ tail) e s is led in
        let le = stretches.each e.event s leads.0 leads.1 later in
        let some = stretches.some in
        omega (arith, span, le, some)),
    brief_before (front ++ e ∷ []) rest tail leads.0 end (is ∙ sym (append_assoc front (e ∷ []) (rest ++ tail)))
        (leads-append config app front (e ∷ []) (opening config app) s leads.0 led (leads.0, leads.1, refl)) leads.2,
  )

  -- so the events before a moment ended with the stretch that was running
  ended_before : (moment : ℕ) (before : List Stamped) → AllByRecursion IsBrief before → AllByRecursion (λ e. is_admit e ≡ false → e.stamp.from < moment) before → IsBehindBoot moment before
      → (at : ℕ) → at + 2 ≤ moment + running → last_count at before + 2 ≤ moment + running
  ended_before moment [] brief stood behind at near = near
  ended_before moment (e ∷ before) brief stood behind at near =
      ended_before moment before brief.1 stood.1 behind.1 (cond (is_admit e) at e.stamp.at) (by (cases_Bool (is_admit e)) (cases_Bool (is_boot e.event)))
    where
      by : (is_admit e ≡ true) ⊎ (is_admit e ≡ false) → (is_boot e.event ≡ true) ⊎ (is_boot e.event ≡ false) → cond (is_admit e) at e.stamp.at + 2 ≤ moment + running
      by (inl is) which = let same = ap (λ b. cond b at e.stamp.at) is in omega (arith, same, near)
      by (inr other) (inl boots) =
          let same = ap (λ b. cond b at e.stamp.at) other in
          let early = behind.0 boots in
          let some = stretches.some in
          omega (arith, same, early, some)
      by (inr other) (inr later) =
          let same = ap (λ b. cond b at e.stamp.at) other in
          let span = brief.0 later in
          let first = stood.0 other in
          omega (arith, same, span, first)

-- ---- the entry

some_events : (a b : List Stamped) (e : Stamped) → 0 < length (a ++ e ∷ b)
some_events [] b e = omega arith
some_events (x ∷ a) b e = omega arith

pub enters_by_weights : RunsEnterByWeights
enters_by_weights config app size longest n weights arrivals events wf run timed keeps weighed weighs ends before behind made h running lower entry found s is leads makes admits highest
    ended long stretches limits fits many = by (find_entry h behind)
  where
    w : Facts config app
    w = facts config app wf

    at : ℕ
    at = last_count 0 before

    same : cond (is_admit made) at made.stamp.at ≡ at
    same = ap (λ c. cond c at made.stamp.at) admits

    -- the events up to the entry, behind those before the arrival
    behind_leads : AreStepsTo config app behind s run.0
    behind_leads = leads_behind config app events run before behind made h found s is leads makes

    paced : ArePacedTo config app size longest at behind s run.0
    paced =
        subst (λ k. ArePacedTo config app size longest k behind s run.0) (last-append 0 before (made ∷ []) ∙ same)
        (paced_behind config app size longest n events keeps (before ++ made ∷ []) behind s run.0 (is ∙ sym (append_assoc before (made ∷ []) behind))
        (leads-append config app before (made ∷ []) (opening config app) found s leads (s, makes.step, refl)) behind_leads)

    stands : Awaits config app w h makes.declared highest s
    stands =
        let valid = (run_valid config app w before (opening config app) found leads (opening_valid config app) (opening_apart config app)).0 in
        let order = leads_ordered config app before (opening config app) found (opening_ordered config app) leads in
        let placed = leads_placed config app w before (opening config app) found leads (opening_valid config app) (opening_placed config app) in
        record {
          valid = step_valid config app made.event found s w makes.step valid;
          ordered = step_ordered config app found s order made.event makes.step;
          placed = step_placed config app found s made.event (frame_effect config app w found s valid made.event makes.step) placed;
          ready = makes.behind;
        }

    few : taken at (events_up_to_entry h behind) ≤ lower
    few = by_limits limits
      where
        by_limits : TakesWithin config app weights h lower ⊎ (NoneIsLower config h × (lower ≡ 0)) → taken at (events_up_to_entry h behind) ≤ lower
        by_limits (inl within) = takes_most config app w h makes.declared highest size longest weights weighs ends lower within behind at s run.0 stands paced
        by_limits (inr nobody) =
            let zero_is = none_takes config app w h makes.declared highest size longest weights weighs ends nobody.0 at behind s run.0 stands paced in
            omega (arith, zero_is)

    way : AllByRecursion IsOnTheWay (events_up_to_entry h behind)
    way = on_the_way config app w h makes.declared highest behind s run.0 stands behind_leads

    near : at + 2 ≤ made.stamp.at + running
    near =
        let later = stand_before before behind made admits (subst (AllPairs IsOrdered) is timed.placed) in
        ended_before config app events weighed running stretches made.stamp.at before
        (brief_before config app events weighed running stretches [] before (made ∷ behind) (opening config app) found is refl leads) later ended 0
        (omega (arith, long))

    reach : (further : List Stamped) → behind ≡ events_up_to_entry h behind ++ further
        → last_count at (events_up_to_entry h behind) ≤ at + lower + tick_weights config longest (events_up_to_entry h behind)
    reach further split =
        let le = last_of config app size longest (events_up_to_entry h behind) further at s run.0
        (subst (λ es. ArePacedTo config app size longest at es s run.0) split paced) way in
        let small = few in
        omega (arith, le, small)

    by : FirstEntry h behind
        → EntersBefore h (made.stamp.at + (running + lower + (longest + entry) + tick_weights config longest (events_up_to_entry h behind))) behind
    by (enters e rest entered split) =
        let le = reach (e ∷ rest) split in
        let goes = (goes_at config app size longest (events_up_to_entry h behind) rest e at s run.0
        (subst (λ es. ArePacedTo config app size longest at es s run.0) split paced)) in
        let facts_of = entry_facts h e.event entered in
        let soon = goes.1.ends facts_of.0 facts_of.1 in
        let own = entry_fits config app size longest h entry goes.0 e.event fits entered in
        let start = near in
        record { entry = e; rest = rest; is_entry = entered; first = split; in_time = omega (arith, le, soon, own, start) }
    by (enters_not all) =
        let le = reach [] (sym all ∙ sym (append-nil (events_up_to_entry h behind))) in
        let count = ap (λ (es : List Stamped). length es) is in
        let some = some_events before behind made in
        let end = keeps.reaches_within running stretches (omega (arith, count, some)) in
        let last = ap (last_count 0) is ∙ last-append 0 before (made ∷ behind) ∙ ap (λ k. last_count k behind) same ∙ ap (last_count at) (sym all) in
        let start = near in
        let enough = many in
        absurd (omega (arith, le, end, last, start, enough))
