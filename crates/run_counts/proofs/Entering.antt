-- The entry of the task of highest priority ends within its latency.
use Rattle.std.proofs.Common.{◌≡◌, ℕ, suc, ◌+◌, ◌*◌, ◌<◌, ◌≤◌, ◌⊎◌, ◌&&◌, leb, List, [], ◌∷◌, ◌++◌, Bool, true, false, cond, length, is_some, refl, sym, ap, ◌∙◌, subst, arith, inl, inr}
use Rattle.std.specs.Prelude.{AllPairs, slice_index_or, ◌||◌}
use Rattle.std.specs.List.{AllByRecursion}
use Rattle.std.proofs.lemmas.Bool.{cases_Bool, cond-true, cond-false, false≢true, leb-false}
use Rattle.std.proofs.lemmas.List.{append-nil}
use Rattle.std.proofs.Math.Nat.{le-max_left, le-max_right}
use Rattle.sloth_base.specs.declared.config.Config.{Config}
use Rattle.sloth_base.specs.declared.app.App.{App}
use Rattle.sloth_base.specs.declared.service.Event.{Event}
use Rattle.sloth_base.specs.declared.service.Event.TheVariants as event
use Rattle.sloth_base.specs.declared.service.Stamped.{Stamped}
use Rattle.sloth_base.specs.Events.{admitted_line, is_boot}
use Rattle.sloth_base.specs.Stretches.{Boots, stretch_limit, longest_stretch}
use Rattle.sloth_base.specs.Limits.{item_counts}
use Rattle.code_rules.specs.WellFormed.{WellFormed}
use Rattle.osek_scheduler.specs.State.{System, opening}
use Rattle.osek_scheduler.specs.InTime.{IsOrdered, StandsBefore, is_admit}
use Rattle.osek_scheduler.specs.Steps.{OsekStep}
use Rattle.osek_scheduler.specs.Runs.{AreStepsTo, OsekRun}
use Rattle.osek_scheduler.proofs.Leading.{follows_leads, leads-parts, one_step, one_end}
use Rattle.osek_scheduler.proofs.Apart.{opening_apart}
use Rattle.osek_scheduler.proofs.Facts.{Facts, facts}
use Rattle.osek_scheduler.proofs.Reached.{run_valid}
use Rattle.osek_scheduler.proofs.Steps.{step_valid, opening_valid}
use Rattle.osek_blocking.specs.Blocking.{is_entry_of, events_up_to_entry}
use Rattle.osek_blocking.proofs.Ordering.{step_ordered, opening_ordered, leads_ordered}
use Rattle.osek_blocking.proofs.Once.{block_once}
use Rattle.osek_blocking.specs.Pace.{own_counts, event_counts, takes_line, last_count, IsPaced}
use Rattle.sim_induction.proofs.Events.{each_both}
use Rattle.osek_blocking.proofs.Counts.{behind_paced}
use Rattle.osek_blocking.proofs.Placed.{step_placed, opening_placed}
use Rattle.osek_blocking.proofs.FrameEffects.{frame_effect, leads_placed}
use Rattle.run_counts.proofs.PacedRun.{LastsBriefly, BeginsWithBoot, IsPacedRun}
use Rattle.run_counts.specs.EntryLatency.{any_stretch, running_limit, is_tick, tick_counts, latency_with_ticks, EntersBefore, EntersInTime}
use Rattle.run_counts.proofs.Awaiting.{Awaits, is_outside}
use Rattle.run_counts.proofs.Waiting.{waiting, IsOnTheWay, waits_at_most, on_the_way}

-- ---- counts of events

-- where each event ends soon behind the one before it, so many events that are no admits end soon
ends_step : (at : ℕ) (e : Stamped) (events : List Stamped) → takes_line e.event ≡ is_tick e.event
    → (is_admit e ≡ false → e.stamp.at ≤ at + event_counts e)
    → ((k : ℕ) → cond (is_admit e) at e.stamp.at ≡ k → last_count k events ≤ k + item_counts * waiting events + tick_counts events)
    → last_count (cond (is_admit e) at e.stamp.at) events
    ≤ at + item_counts * (cond (is_outside e.event) 0 1 + waiting events) + (cond (is_tick e.event) (own_counts e) 0 + tick_counts events)
ends_step at e events takes soon further = by (cases_Bool (is_admit e)) (cases_Bool (is_tick e.event))
  where
    by : (is_admit e ≡ true) ⊎ (is_admit e ≡ false) → (is_tick e.event ≡ true) ⊎ (is_tick e.event ≡ false)
        → last_count (cond (is_admit e) at e.stamp.at) events
        ≤ at + item_counts * (cond (is_outside e.event) 0 1 + waiting events) + (cond (is_tick e.event) (own_counts e) 0 + tick_counts events)
    by (inl is) which =
        let same = ap (λ b. cond b at e.stamp.at) is in
        let le = further at same in
        let front = ap {B = ℕ} (λ b. cond (b || is_tick e.event) 0 1) is in
        let last = ap (λ v. last_count v events) same in
        omega (arith, le, front, last)
    by (inr other) (inl tick) =
        let same = ap (λ b. cond b at e.stamp.at) other in
        let le = further e.stamp.at same in
        let near = soon other in
        let limit = ap (λ b. cond b (own_counts e) item_counts) (takes ∙ tick) in
        let spent = ap (λ b. cond b (own_counts e) 0) tick in
        let last = ap (λ v. last_count v events) same in
        omega (arith, le, near, limit, spent, last)
    by (inr other) (inr none) =
        let same = ap (λ b. cond b at e.stamp.at) other in
        let le = further e.stamp.at same in
        let near = soon other in
        let limit = ap (λ b. cond b (own_counts e) item_counts) (takes ∙ none) in
        let front = ap {B = ℕ} (λ b. cond (b || is_tick e.event) 0 1) other ∙ ap {B = ℕ} (λ b. cond b 0 1) none in
        let last = ap (λ v. last_count v events) same in
        omega (arith, le, near, limit, front, last)

ends_by : (at : ℕ) (events : List Stamped) → IsPaced at events → AllByRecursion IsOnTheWay events
    → last_count at events ≤ at + item_counts * waiting events + tick_counts events
ends_by at [] p none = omega arith
ends_by at (e ∷ events) p way =
    ends_step at e events way.0.1 (λ other. p.0 other way.0.0)
    (λ k is. subst (λ v. last_count v events ≤ v + item_counts * waiting events + tick_counts events) is (ends_by (cond (is_admit e) at e.stamp.at) events p.1 way.1))

front_paced : (at : ℕ) (before behind : List Stamped) → IsPaced at (before ++ behind) → IsPaced at before
front_paced at [] behind p = tt
front_paced at (e ∷ before) behind p = (p.0, front_paced (cond (is_admit e) at e.stamp.at) before behind p.1)

pub last-append : (at : ℕ) (a b : List Stamped) → last_count at (a ++ b) ≡ last_count (last_count at a) b
last-append at [] b = refl
last-append at (e ∷ a) b = last-append (cond (is_admit e) at e.stamp.at) a b

-- ---- what ran at the moment

module _ (config : Config) (moment : ℕ) where
  -- the event stands in front of an admit of the moment
  abbrev Stood : Stamped → Type 0
  Stood e = (is_admit e ≡ false → e.stamp.from < moment) × LastsBriefly config e

  either : (P : ℕ → Type 0) (b : Bool) (rest : ℕ) → P (any_stretch config) → P rest → P (cond b (any_stretch config) rest)
  either P true rest f g = f
  either P false rest f g = g

  longest_fits : longest_stretch config ≤ any_stretch config
  longest_fits = le-max_right (stretch_limit config Boots) (longest_stretch config)

  boot_fits : stretch_limit config Boots ≤ any_stretch config
  boot_fits = le-max_left (stretch_limit config Boots) (longest_stretch config)

  at_least : (before : List Stamped) → longest_stretch config ≤ running_limit config moment before
  at_least [] = omega arith
  at_least (e ∷ before) =
      either (λ k. longest_stretch config ≤ k) (is_boot e.event && leb moment e.stamp.at) (running_limit config moment before) longest_fits (at_least before)

  at_most : (before : List Stamped) → running_limit config moment before ≤ any_stretch config
  at_most [] = longest_fits
  at_most (e ∷ before) =
      either (λ k. k ≤ any_stretch config) (is_boot e.event && leb moment e.stamp.at) (running_limit config moment before) (omega arith)
      (at_most before)

  ended : (e : Stamped) (before : List Stamped) → is_admit e ≡ false → Stood e → e.stamp.at + 2 ≤ moment + running_limit config moment (e ∷ before)
  ended e before other s = by (cases_Bool (is_boot e.event)) (cases_Bool (leb moment e.stamp.at))
    where
      first : e.stamp.from < moment
      first = s.0 other

      by : (is_boot e.event ≡ true) ⊎ (is_boot e.event ≡ false) → (leb moment e.stamp.at ≡ true) ⊎ (leb moment e.stamp.at ≡ false)
          → e.stamp.at + 2 ≤ moment + cond (is_boot e.event && leb moment e.stamp.at) (any_stretch config) (running_limit config moment before)
      by (inl boots) (inl later) =
          let limit = ap (λ b. cond (b && leb moment e.stamp.at) (any_stretch config) (running_limit config moment before)) boots
          ∙ ap (λ b. cond b (any_stretch config) (running_limit config moment before)) later in
          let brief = s.1 in
          let lasts = ap (λ b. cond b (stretch_limit config Boots) (longest_stretch config)) boots in
          let fits = boot_fits in
          omega (arith, first, limit, brief, lasts, fits)
      by (inl boots) (inr over) =
          let lt = leb-false _ _ over in
          let le = at_least (e ∷ before) in
          omega (arith, lt, le)
      by (inr later) which =
          let brief = s.1 in
          let lasts = ap (λ b. cond b (stretch_limit config Boots) (longest_stretch config)) later in
          let le = at_least (e ∷ before) in
          omega (arith, first, brief, lasts, le)

  grows : (e : Stamped) (before : List Stamped) → running_limit config moment before ≤ running_limit config moment (e ∷ before)
  grows e before =
      either (λ k. running_limit config moment before ≤ k) (is_boot e.event && leb moment e.stamp.at) (running_limit config moment before) (at_most before)
      (omega arith)

  -- the events before ended no later than the stretch that was running
  before_ends : (at limit : ℕ) (before : List Stamped) → at + 2 ≤ limit → moment + running_limit config moment before ≤ limit → AllByRecursion Stood before
      → last_count at before + 2 ≤ limit
  before_ends at limit [] le most each = le
  before_ends at limit (e ∷ before) le most each = by (cases_Bool (is_admit e)) (λ next near. before_ends next limit before near rest each.1)
    where
      rest : moment + running_limit config moment before ≤ limit
      rest = let more = grows e before in omega (arith, more, most)

      by : (is_admit e ≡ true) ⊎ (is_admit e ≡ false) → ((next : ℕ) → next + 2 ≤ limit → last_count next before + 2 ≤ limit)
          → last_count (cond (is_admit e) at e.stamp.at) before + 2 ≤ limit
      by (inl is) go = subst (λ k. last_count k before + 2 ≤ limit) (sym (ap (λ b. cond b at e.stamp.at) is)) (go at le)
      by (inr other) go =
          let near = ended e before other each.0 in
          subst (λ k. last_count k before + 2 ≤ limit) (sym (ap (λ b. cond b at e.stamp.at) other)) (go e.stamp.at (omega (arith, near, most)))

-- each event in front of an admit stands before it
pub stand_before : (before behind : List Stamped) (made : Stamped) → is_admit made ≡ true → AllPairs IsOrdered (before ++ made ∷ behind)
    → AllByRecursion (λ e. is_admit e ≡ false → e.stamp.from < made.stamp.at) before
stand_before [] behind made admits pairs = tt
stand_before (e ∷ before) behind made admits pairs =
    (λ other. first other, stand_before before behind made admits (λ i j d lt within. pairs (suc i) (suc j) d (omega (arith, lt)) (omega (arith, within))))
  where
    at_seam : (xs : List Stamped) → slice_index_or (xs ++ made ∷ behind) (length xs) made ≡ made
    at_seam [] = refl
    at_seam (x ∷ xs) = at_seam xs

    long : (xs : List Stamped) → length xs < length (xs ++ made ∷ behind)
    long [] = omega arith
    long (x ∷ xs) = let lt = long xs in omega (arith, lt)

    first : is_admit e ≡ false → e.stamp.from < made.stamp.at
    first other =
        let within = long before in
        let is = pairs 0 (suc (length before)) made (omega arith) (omega (arith, within)) in
        let ordered = subst (IsOrdered e) (at_seam before) is in
        subst (λ b. StandsBefore b true e.stamp made.stamp) other (subst (λ b. StandsBefore (is_admit e) b e.stamp made.stamp) admits ordered)

pub each_front : (P : Stamped → Type 0) (a b : List Stamped) → AllByRecursion P (a ++ b) → AllByRecursion P a
each_front P [] b h = tt
each_front P (e ∷ a) b h = (h.0, each_front P a b h.1)

pub each_behind : (P : Stamped → Type 0) (a b : List Stamped) → AllByRecursion P (a ++ b) → AllByRecursion P b
each_behind P [] b h = h
each_behind P (e ∷ a) b h = each_behind P a b h.1

-- a run begins with boot
begins : (config : Config) (app : App) (e : Stamped) (events : List Stamped) (end : System) → AreStepsTo config app (e ∷ events) (opening config app) end
    → BeginsWithBoot (e ∷ events)
begins config app e events end leads = by e.event leads.1
  where
    by : (what : Event) → OsekStep config app what (opening config app) leads.0 → is_boot what ≡ true
    by event.Boot step = refl
    by event.Stray step = absurd step
    by e step = absurd (false≢true step.0)

pub some_boot : (config : Config) (app : App) (before behind : List Stamped) (made : Stamped) (end : System)
    → AreStepsTo config app (before ++ made ∷ behind) (opening config app) end → BeginsWithBoot (before ++ made ∷ behind)
some_boot config app [] behind made end leads = begins config app made behind end leads
some_boot config app (e ∷ before) behind made end leads = begins config app e (before ++ made ∷ behind) end leads

-- ---- the entry

-- an entry is neither an admit nor boot, and begins with the taking of a line
pub entry_facts : (h : ℕ) (e : Event) → is_entry_of h e ≡ true → (is_some (admitted_line e) ≡ false) × (is_boot e ≡ false) × (takes_line e ≡ true)
entry_facts h (event.Enter t) is = (refl, refl, refl)
entry_facts h e is = absurd (false≢true is)

-- the first entry of the events, or there is none
pub data FirstEntry (h : ℕ) (events : List Stamped) : Type 0 where
  enters : (entry : Stamped) (rest : List Stamped) → is_entry_of h entry.event ≡ true → events ≡ events_up_to_entry h events ++ entry ∷ rest → FirstEntry h events
  enters_not : events_up_to_entry h events ≡ events → FirstEntry h events

pub find_entry : (h : ℕ) (events : List Stamped) → FirstEntry h events
find_entry h [] = enters_not refl
find_entry h (e ∷ events) = by (cases_Bool (is_entry_of h e.event)) (find_entry h events)
  where
    here : is_entry_of h e.event ≡ true → events_up_to_entry h (e ∷ events) ≡ []
    here is = cond-true (is_entry_of h e.event) [] (e ∷ events_up_to_entry h events) is

    on : is_entry_of h e.event ≡ false → events_up_to_entry h (e ∷ events) ≡ e ∷ events_up_to_entry h events
    on other = cond-false (is_entry_of h e.event) [] (e ∷ events_up_to_entry h events) other

    by : (is_entry_of h e.event ≡ true) ⊎ (is_entry_of h e.event ≡ false) → FirstEntry h events → FirstEntry h (e ∷ events)
    by (inl is) further = enters e events is (sym (ap (λ front. front ++ e ∷ events) (here is)))
    by (inr other) (enters entry rest is at) = enters entry rest is (ap (λ es. e ∷ es) at ∙ sym (ap (λ front. front ++ entry ∷ rest) (on other)))
    by (inr other) (enters_not all) = enters_not (on other ∙ ap (λ es. e ∷ es) all)

module _ (config : Config) (app : App) (n : ℕ) (events : List Stamped) (code : WellFormed config app) (run : OsekRun config app events)
    (paced : IsPacedRun config n events) (ordered : AllPairs IsOrdered events) where
  pub enters_in_time : EntersInTime config app n events
  enters_in_time before behind made h b found s is leads makes admits highest bound many = by (find_entry h behind)
    where
      w : Facts config app
      w = facts config app code

      at : ℕ
      at = last_count 0 before

      limit : ℕ
      limit = made.stamp.at + running_limit config made.stamp.at before

      whole : AreStepsTo config app (before ++ made ∷ behind) (opening config app) run.0
      whole = subst (λ es. AreStepsTo config app es (opening config app) run.0) is (follows_leads config app [] (opening config app) events run.0 run.1)

      behind_leads : AreStepsTo config app behind s run.0
      behind_leads =
          let parts = leads-parts config app before (made ∷ behind) (opening config app) run.0 whole in
          let met = one_end config app before (opening config app) parts.0 found parts.1 leads in
          let step = subst (λ x. OsekStep config app made.event x parts.2.0) met parts.2.1 in
          let next = one_step config app made.event found parts.2.0 s step makes.step in
          subst (λ x. AreStepsTo config app behind x run.0) next parts.2.2

      stands : Awaits config app w h makes.declared highest s
      stands =
          let valid = (run_valid config app w before (opening config app) found leads (opening_valid config app) (opening_apart config app)).0 in
          let order = leads_ordered config app before (opening config app) found (opening_ordered config app) leads in
          let placed = leads_placed config app w before (opening config app) found leads (opening_valid config app) (opening_placed config app) in
          record {
            valid = step_valid config app made.event found s w makes.step valid;
            ordered = step_ordered config app found s order made.event makes.step;
            placed = step_placed config app found s made.event (frame_effect config app w found s valid made.event makes.step) placed;
            ready = makes.behind;
          }

      most : waiting (events_up_to_entry h behind) ≤ b
      most =
          let blocked = block_once config app events run before behind made h found s is leads makes in
          waits_at_most config app w h makes.declared highest behind s run.0 blocked.0 b stands blocked.1 behind_leads bound

      -- the events before it ended with the stretch that was running
      near : at + 2 ≤ limit
      near =
          let stood = stand_before before behind made admits (subst (AllPairs IsOrdered) is ordered) in
          let brief = each_front (LastsBriefly config) before (made ∷ behind) (subst (AllByRecursion (LastsBriefly config)) is paced.brief) in
          let less = at_least config made.stamp.at before in
          before_ends config made.stamp.at 0 limit before (omega (arith, less)) (omega arith)
          (each_both (λ e. is_admit e ≡ false → e.stamp.from < made.stamp.at) (LastsBriefly config) before stood brief)

      brief_behind : AllByRecursion (LastsBriefly config) behind
      brief_behind = (each_behind (LastsBriefly config) before (made ∷ behind) (subst (AllByRecursion (LastsBriefly config)) is paced.brief)).1

      same : cond (is_admit made) at made.stamp.at ≡ at
      same = ap (λ c. cond c at made.stamp.at) admits

      pace : IsPaced at behind
      pace =
          let rest = behind_paced 0 before (made ∷ behind) (subst (IsPaced 0) is paced.paced) in
          subst (λ k. IsPaced k behind) same rest.1

      reach : (window further : List Stamped) → behind ≡ window ++ further → events_up_to_entry h behind ≡ window
          → last_count at window ≤ at + item_counts * b + tick_counts window
      reach window further split front =
          let p = front_paced at window further (subst (IsPaced at) split pace) in
          let way = subst (AllByRecursion IsOnTheWay) front (on_the_way config app w h makes.declared highest behind s run.0 stands behind_leads) in
          let le = ends_by at window p way in
          let few = subst (λ es. waiting es ≤ b) front most in
          omega (arith, le, few)

      by : FirstEntry h behind → EntersBefore h (made.stamp.at + latency_with_ticks config h b made.stamp.at before behind) behind
      by (enters entry rest entered split) =
          let le = reach (events_up_to_entry h behind) (entry ∷ rest) split refl in
          let p = behind_paced at (events_up_to_entry h behind) (entry ∷ rest) (subst (IsPaced at) split pace) in
          let facts = entry_facts h entry.event entered in
          let soon = p.0 facts.0 facts.1 in
          let limit = ap (λ c. cond c (own_counts entry) item_counts) facts.2 in
          let start = near in
          let brief = (each_behind (LastsBriefly config) (events_up_to_entry h behind) (entry ∷ rest) (subst (AllByRecursion (LastsBriefly config)) split brief_behind)).0 in
          let lasts = ap (λ b. cond b (stretch_limit config Boots) (longest_stretch config)) facts.1 in
          record { entry = entry; rest = rest; is_entry = entered; first = split; in_time = omega (arith, le, soon, limit, start, brief, lasts) }
      by (enters_not all) =
          let le = reach behind [] (sym (append-nil behind)) all in
          let end = paced.reaches (subst BeginsWithBoot (sym is) (some_boot config app before behind made run.0 whole)) in
          let last = ap (last_count 0) is ∙ last-append 0 before (made ∷ behind) ∙ ap (λ k. last_count k behind) same in
          let start = near in
          let ticks = ap tick_counts all in
          let enough = many in
          absurd (omega (arith, le, end, last, start, ticks, enough))
