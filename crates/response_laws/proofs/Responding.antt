-- A task responds within the longest of the starts in which it has a round, and an event.
use Rattle.std.proofs.Common.{◌≡◌, ℕ, ◌+◌, ◌<◌, ◌≤◌, ◌⊎◌, ◌&&◌, ◌||◌, not, List, [], ◌∷◌, ◌++◌, Bool, true, false, cond, length, refl, sym, ap, ◌∙◌, subst, arith, inl, inr, append_assoc, append-nil, ◌==◌}
use Rattle.std.specs.Prelude.{AllPairs, is_some}
use Rattle.sloth_base.specs.Events.{admitted_line}
use Rattle.osek_scheduler.specs.Steps.{OsekStep}
use Rattle.std.specs.List.{AllByRecursion}
use Rattle.std.proofs.lemmas.Bool.{cases_Bool, false≢true, true≢false, and_from, not_from_false}
use Rattle.sloth_base.specs.declared.config.Config.{Config}
use Rattle.sloth_base.specs.declared.app.App.{App}
use Rattle.sloth_base.specs.declared.service.Arrival.{Arrival}
use Rattle.sloth_base.specs.declared.service.Event.{Event}
use Rattle.sloth_base.specs.declared.service.Event.TheVariants as event
use Rattle.sloth_base.specs.declared.service.Stamped.{Stamped}
use Rattle.code_rules.specs.WellFormed.{WellFormed}
use Rattle.osek_scheduler.specs.declared.state.TaskState.TheVariants as mode
use Rattle.osek_scheduler.specs.State.{System, task, counter, opening}
use Rattle.osek_scheduler.specs.Next.{is_ready}
use Rattle.osek_scheduler.specs.Priority.{IsDue}
use Rattle.osek_scheduler.specs.InTime.{IsOrdered, StandsBefore, InTime, is_admit}
use Rattle.osek_scheduler.specs.Runs.{AreStepsTo, OsekRun}
use Rattle.osek_scheduler.proofs.Facts.{facts}
use Rattle.osek_scheduler.proofs.Leading.{follows_leads, leads-parts, leads-append, one_end}
use Rattle.osek_scheduler.proofs.Steps.{opening_valid}
use Rattle.osek_blocking.specs.Blocking.{MakesReady}
use Rattle.osek_blocking.proofs.Ordering.{opening_ordered}
use Rattle.osek_blocking.specs.Pace.{last_count}
use Rattle.run_counts.specs.Stages.{Stage, state_behind, stage, stages, run_stages, end_of}
use Rattle.run_counts.specs.Rounds.{is_left, total}
use Rattle.run_counts.specs.OwnCounts.{IsShared}
use Rattle.sim_induction.specs.Events.{has_frames}
use Rattle.response_laws.specs.Sums.{count}
use Rattle.sloth_base.specs.Options.{is_number}
use Rattle.response_laws.specs.Turns.{ticking_counter, is_counter, comes_at, as_said, is_ready_for, is_made, makes_ready, has_grown, activated, was_set}
use Rattle.response_laws.specs.Busy.{is_quiet, LeavesFirst, IsLeaving, LeavesOnce}
use Rattle.response_laws.specs.Demand.{Costs, Start, acts_due, sets_due, IsEnough}
use Rattle.response_laws.specs.Bounded.{BoundsRounds, BoundsJoining, EndsSoon, StartsInOne}
use Rattle.response_laws.specs.Response.{IsEdge, LeavesBefore, EndsWithin, HasPace, EntersOnce, IsAsked, IsCounted, LastsWithin, RespondsInTime}
use Rattle.response_laws.proofs.Counters.{arrived, on_along}
use Rattle.response_laws.proofs.Passing.{Cut, at_one, in_front, behind_it, cut, head_or, tail_of}
use Rattle.response_laws.proofs.Linked.{Linked, linked_front, linked_behind, Known, last_state, last_end, each_append, each_joined, each_so, last_end-append, stages_linked, stages_known, stages-append, leads_to, behind_is}
use Rattle.response_laws.proofs.Ordering.{ordered_front, ends_before, all_end}
use Rattle.response_laws.proofs.Sums.{total-append}
use Rattle.response_laws.proofs.Period.{Calm, quiet_calm, leaving_calm, period_holds}
use Rattle.response_laws.proofs.Begun.{Begun, Scan, scanned, pending, nothing, scan}
use Rattle.response_laws.proofs.Staying.{stays_due}
use Rattle.response_laws.proofs.Starting.{opening_quiet, due_busy, IsBusy, over_itself}

or_right : (a b : Bool) → b ≡ true → (a || b) ≡ true
or_right true b is = refl
or_right false b is = is

-- what holds of all but the last of these holds of those in front of any of them
prefix : {X : Type 0} (P : X → Type 0) (xs : List X) (y : X) (ys rs : List X) (z : X) → rs ++ z ∷ [] ≡ xs ++ y ∷ ys → AllByRecursion P rs → AllByRecursion P xs
prefix P [] y ys rs z e each = tt
prefix P (x ∷ xs) y ys [] z e each = absurd (none xs (ap tail_of e))
  where
    none : (zs : List _) → [] ≡ zs ++ y ∷ ys → ⊥
    none [] e = cc
    none (z ∷ zs) e = cc
prefix P (x ∷ xs) y ys (r ∷ rs) z e each = (subst P (ap (head_or r) e) each.0, prefix P xs y ys rs z (ap tail_of e) each.1)

-- ---- what ends near a moment

module _ (config : Config) (app : App) (late : ℕ) where
  -- the event, where it is no admit, ends before a stretch is over behind the moment
  abbrev pub IsNear : (moment : ℕ) → Stamped → Type 0
  IsNear moment e = is_admit e ≡ false → e.stamp.at + 1 ≤ moment + late

  abbrev pub IsBrief : Stamped → Type 0
  IsBrief e = e.stamp.at < e.stamp.from + late

  pub near : (made e : Stamped) → made.stamp.from ≤ made.stamp.at → IsOrdered e made → IsBrief e → IsNear made.stamp.at e
  near made e le ordered brief other = by (is_admit made) (subst (λ b. StandsBefore b (is_admit made) e.stamp made.stamp) other ordered)
    where
      by : (b : Bool) → StandsBefore false b e.stamp made.stamp → e.stamp.at + 1 ≤ made.stamp.at + late
      by true from =
          let short = brief in
          omega (arith, from, short)
      by false behind =
          omega (arith, behind, le)

  -- where stages end; those before them ended in front of count `start`
  last_no_less : (at start : ℕ) (s : System) (events : List Stamped) → at + 1 ≤ start → last_count at events + 1 ≤ last_end start (stages config app start s events)
  last_no_less at start s [] le = le
  last_no_less at start s (e ∷ events) le =
      last_no_less (cond (is_admit e) at e.stamp.at) (end_of (stage config app start s e)) (state_behind config app e.event s) events (by (is_admit e))
    where
      by : (b : Bool) → cond b at e.stamp.at + 1 ≤ cond b start (e.stamp.at + 1)
      by true = le
      by false = omega arith

  -- the first event is no admission
  pub run_no_less : (end : System) (events : List Stamped) → 1 ≤ length events → AreStepsTo config app events (opening config app) end
      → last_count 0 events + 1 ≤ last_end 0 (stages config app 0 (opening config app) events)
  run_no_less end [] some leads = absurd (omega (arith, some))
  run_no_less end (e ∷ events) some leads =
      let other = first_boots e.event leads.1 in
      let a = ap (λ b. cond b 0 e.stamp.at) other in
      let c = ap (λ b. cond b 0 (e.stamp.at + 1)) other in
      last_no_less (cond (is_admit e) 0 e.stamp.at) (end_of (stage config app 0 (opening config app) e)) (state_behind config app e.event (opening config app)) events
      (omega (arith, a, c))
    where
      first_boots : (w : Event) → OsekStep config app w (opening config app) leads.0 → is_some (admitted_line w) ≡ false
      first_boots (event.Admit t) step = absurd (false≢true step.0)
      first_boots (event.Due c) step = absurd (false≢true step.0)
      first_boots w step = refl

  -- ---- up to where the task leaves

  -- the first `left h` of these events, or there is none
  data Leaving (h : ℕ) (events : List Stamped) : Type 0 where
    leaves : (front : List Stamped) (left : Stamped) (rest : List Stamped) → events ≡ front ++ left ∷ rest
        → AllByRecursion (λ e. is_left h e.event ≡ false) front → is_left h left.event ≡ true → Leaving h events
    leaves_not : AllByRecursion (λ e. is_left h e.event ≡ false) events → Leaving h events

  leaving : (h : ℕ) (events : List Stamped) → Leaving h events
  leaving h [] = leaves_not tt
  leaving h (e ∷ events) = by (cases_Bool (is_left h e.event)) (leaving h events)
    where
      by : (is_left h e.event ≡ true) ⊎ (is_left h e.event ≡ false) → Leaving h events → Leaving h (e ∷ events)
      by (inl is) further = leaves [] e events refl tt is
      by (inr other) (leaves front left rest at none is) = leaves (e ∷ front) left rest (ap (λ es. e ∷ es) at) (other, none) is
      by (inr other) (leaves_not none) = leaves_not (other, none)

  -- it is due up to there
  module _ (h : ℕ) (declared : h < length config.tasks) where
    due_on : (at : ℕ) (s end : System) (events : List Stamped) → AreStepsTo config app events s end → IsDue s h
        → AllByRecursion (λ e. is_left h e.event ≡ false) events
        → AllByRecursion (IsBusy config h) (stages config app at s events) × IsDue end h
    due_on at s end [] leads due none = (tt, subst (λ x. IsDue x h) (sym leads) due)
    due_on at s end (e ∷ events) leads due none =
        let is = behind_is config app e.event s leads.0 leads.1 in
        let next = stays_due config app h e.event s leads.0 leads.1 none.0 due in
        let rest = due_on (end_of (stage config app at s e)) (state_behind config app e.event s) end events
        (subst (λ x. AreStepsTo config app events x end) (sym is) leads.2) (subst (λ x. IsDue x h) (sym is) next) none.1 in
        ((due_busy config h s declared due, rest.0), rest.1)

left_no_admit : (h : ℕ) (e : Stamped) → is_left h e.event ≡ true → is_admit e ≡ false
left_no_admit h e is = by e.event is
  where
    by : (w : Event) → is_left h w ≡ true → is_admit (record e { event = w }) ≡ false
    by (event.Left t served) is = refl
    by w is = absurd (false≢true is)

-- the last of stages, or this one
abbrev last_of : Stage → List Stage → Stage
last_of d [] = d
last_of d (x ∷ xs) = last_of x xs

last_of-append : (d : Stage) (xs : List Stage) (y : Stage) (ys : List Stage) → last_of d (xs ++ y ∷ ys) ≡ last_of y ys
last_of-append d [] y ys = refl
last_of-append d (x ∷ xs) y ys = last_of-append x xs y ys

at_last : (P : Stage → Type 0) (x : Stage) (xs : List Stage) → AllByRecursion P (x ∷ xs) → P (last_of x xs)
at_last P x [] each = each.0
at_last P x (y ∷ ys) each = at_last P y ys each.1

-- how often h leaves
abbrev lefts : (h : ℕ) → List Stage → ℕ
lefts h xs = count (λ x. is_left h x.stamped.event) xs

-- ---- the response

module _ (config : Config) (app : App) (n late more : ℕ) (arrivals : List Arrival) (events : List Stamped) (h r : ℕ) (cuts : ℕ → Bool) (costs : Costs)
    (once boot : Bool) (starts : ℕ) (start : ℕ → Start) (enters : once ≡ true → EntersOnce config h cuts) (wf : WellFormed config app)
    (run : OsekRun config app events) (in_time : InTime config n arrivals events) (pace : HasPace n late more events)
    (shared : AllByRecursion (IsShared config) (run_stages config app events))
    (bounds : BoundsRounds config h cuts costs (run_stages config app events)) (ways : StartsInOne config h once starts start (run_stages config app events))
    (joining : (i : ℕ) → i < starts → BoundsJoining config h cuts costs (run_stages config app events) (start i))
    (enough : (i : ℕ) → i < starts → IsCounted boot (start i) → IsEnough config h once costs (start i)) (lasts : (i : ℕ) → i < starts → IsCounted boot (start i) → LastsWithin h r (start i)) where
  whole : AreStepsTo config app events (opening config app) run.0
  whole = follows_leads config app [] (opening config app) events run.0 run.1

  known : AllByRecursion (Known config app) (run_stages config app events)
  known = stages_known config app (facts config app wf) 0 (opening config app) run.0 events (opening_ordered config app) (opening_valid config app) whole

  -- where it is made it has a round
  has_round : (i : ℕ) → i < starts → IsCounted boot (start i) → h < length config.tasks → 1 ≤ acts_due config h costs (start i) h + sets_due config h costs (start i) h
      → 1 ≤ (start i).firsts h + (start i).nexts h
  has_round i lt counted declared made = by (cases_Bool once)
    where
      by : (once ≡ true) ⊎ (once ≡ false) → 1 ≤ (start i).firsts h + (start i).nexts h
      by (inl on) = let number = ((enough i lt counted).entered on).number in omega (arith, number, made)
      by (inr off) =
          let other = ap (λ b. b && (h == h)) off in
          let acts = (enough i lt counted).firsts h declared (over_itself config h) other in
          let sets = (enough i lt counted).nexts h declared (over_itself config h) other in
          omega (arith, acts, sets, made)

  -- a period of the run that counts, in which task h is made Ready, ends in time, and its first stage soon
  ends_by : (before : List Stage) (first : Stage) (period behind : List Stage) → run_stages config app events ≡ before ++ ((first ∷ period) ++ behind)
      → (is_quiet config h first.found ≡ true) ⊎ ((once ≡ true) × IsLeaving config h first period) → AllByRecursion (IsBusy config h) period
      → (once ≡ true → LeavesOnce h first period) → (before ≡ [] → boot ≡ true) → h < length config.tasks → 1 ≤ total (activated h) (first ∷ period) + total (was_set h) (first ∷ period)
      → (lead : ℕ) × EndsSoon h lead first (first ∷ period) × (last_end (end_of first) period + lead ≤ end_of first + r) × (0 < r)
  ends_by before first period behind part begins busy low asked declared made =
      let way = ways first period (record { before = before; behind = behind; part = part; begins = begins; busy = busy; leaves_once = low }) in
      let counted : IsCounted boot (start way.0) = λ boots. asked (way.4 boots) in
      let holds = period_holds config app h cuts costs (run_stages config app events) bounds (facts config app wf) (opening config app)
      (stages_linked config app 0 (opening config app) events) known shared (start way.0) (joining way.0 way.1) once (λ on. (enters on).whole) (enough way.0 way.1 counted) before first (calm begins) period behind
      part way.2 low in
      let over = over_itself config h in
      let acts = holds.few.acts h declared over in
      let sets = holds.few.sets h declared over in
      let lasting = lasts way.0 way.1 counted (has_round way.0 way.1 counted declared (omega (arith, acts, sets, made))) in
      let ends = holds.ends in
      let most = lasting.1 in
      ((start way.0).lead, way.3, omega (arith, most, ends), lasting.0)
    where
      calm : (is_quiet config h first.found ≡ true) ⊎ ((once ≡ true) × IsLeaving config h first period) → Calm config h once first.found
      calm (inl quiet) = quiet_calm config h once first.found quiet
      calm (inr (on, leaving)) = subst (λ b. Calm config h b first.found) (sym on) (leaving_calm config h first.found leaving.alone leaving.active)

  module _ (before behind : List Stamped) (made : Stamped) (found s : System) (is : events ≡ before ++ made ∷ behind)
      (leads : AreStepsTo config app before (opening config app) found) (makes : MakesReady config app h made.event found s)
      (asked : IsAsked boot config app h (before ++ made ∷ [])) where
    abbrev up : List Stamped
    up = before ++ made ∷ []

    split : events ≡ up ++ behind
    split = is ∙ sym (append_assoc before (made ∷ []) behind)

    up_leads : AreStepsTo config app up (opening config app) s
    up_leads = leads-append config app before (made ∷ []) (opening config app) found s leads (s, makes.step, refl)

    behind_leads : AreStepsTo config app behind s run.0
    behind_leads =
        let parts = leads-parts config app up behind (opening config app) run.0 (subst (λ es. AreStepsTo config app es (opening config app) run.0) split whole) in
        subst (λ x. AreStepsTo config app behind x run.0) (one_end config app up (opening config app) parts.0 s parts.1 up_leads) parts.2

    abbrev front : List Stage
    front = stages config app 0 (opening config app) up

    abbrev at : ℕ
    at = last_end 0 front

    all : run_stages config app events ≡ front ++ stages config app at s behind
    all =
        ap (stages config app 0 (opening config app)) split ∙ stages-append config app 0 (opening config app) up behind
        ∙ ap (λ x. front ++ stages config app at x behind) (leads_to config app 0 (opening config app) s up up_leads)

    -- the stage of the making is the last one of them
    abbrev past : List Stage
    past = stages config app 0 (opening config app) before

    abbrev making : Stage
    making = stage config app (last_end 0 past) (last_state (opening config app) past) made

    front_is : front ≡ past ++ making ∷ []
    front_is = stages-append config app 0 (opening config app) before (made ∷ [])

    found_is : making.found ≡ found
    found_is = leads_to config app 0 (opening config app) found before leads

    next_is : making.next ≡ s
    next_is = ap (state_behind config app made.event) found_is ∙ behind_is config app made.event found s makes.step

    -- it makes the task Ready
    not_before : is_ready (task making.found h).state ≡ false
    not_before = subst (λ (x : System). is_ready (task x h).state ≡ false) (sym found_is) (never (task found h).state makes.not_before)
      where
        never : (m : _) → (m ≡ mode.Ready → ⊥) → is_ready m ≡ false
        never mode.Suspended n = refl
        never mode.Ready n = absurd (n refl)
        never mode.Active n = refl
        never (mode.Waiting mask) n = refl

    ready : is_ready (task making.next h).state ≡ true
    ready = subst (λ (x : System). is_ready (task x h).state ≡ true) (sym next_is) (ap is_ready makes.behind)

    -- to begin anew or to go on
    makes_one : 1 ≤ activated h making + was_set h making
    makes_one = by (has_frames (task making.next h).frames) refl
      where
        off : (again : Bool) → is_ready_for again (task making.found h) ≡ false
        off again = ap (λ b. b && as_said again (has_frames (task making.found h).frames)) not_before

        on : (again : Bool) → as_said again (has_frames (task making.next h).frames) ≡ true → is_ready_for again (task making.next h) ≡ true
        on again is = ap (λ b. b && as_said again (has_frames (task making.next h).frames)) ready ∙ is

        here : (again : Bool) → as_said again (has_frames (task making.next h).frames) ≡ true → is_made again h making ≡ true
        here again is = ap (λ b. not b && is_ready_for again (task making.next h)) (off again) ∙ on again is

        by : (b : Bool) → has_frames (task making.next h).frames ≡ b → 1 ≤ activated h making + was_set h making
        by true is =
            let one = ap {B = ℕ} (λ b. cond (b || has_grown (task making.found h).events (task making.next h).events) 1 0) (here true is) in
            omega (arith, one)
        by false is = let one = ap {B = ℕ} (λ b. cond b 1 0) (here false (ap not is)) in omega (arith, one)

    known_front : AllByRecursion (Known config app) front
    known_front = (each_append (Known config app) front (stages config app at s behind) (subst (AllByRecursion (Known config app)) all known)).0

    begun : Begun config app (facts config app wf) h cuts once enters front
    begun = by (scan config app (facts config app wf) h cuts once enters 0 (opening config app) front (stages_linked config app 0 (opening config app) up) known_front)
      where
        never : (es : List Stamped) → es ≡ up → AllByRecursion (IsBusy config h) (stages config app 0 (opening config app) es) → ⊥
        never [] e busy = none before e
          where
            none : (xs : List Stamped) → [] ≡ xs ++ made ∷ [] → ⊥
            none [] e = cc
            none (x ∷ xs) e = cc
        never (x ∷ es) e busy = true≢false (sym (opening_quiet config h app) ∙ busy.0)

        by : Scan config app (facts config app wf) h cuts once enters front → Begun config app (facts config app wf) h cuts once enters front
        by (scanned found) = found
        by (pending on busy beginning one) = absurd (never up refl busy)
        by (nothing busy none) = absurd (never up refl busy)

    -- a period that begins with the first event of the run has no quiet state behind boot
    counts_so : begun.before ≡ [] → boot ≡ true
    counts_so none = by (cases_Bool boot)
      where
        at_quiet : (b : Stamped) (fs : List Stamped) (e : Stamped) (es : List Stamped) (found : System) → up ≡ (b ∷ fs) ++ e ∷ es
            → AreStepsTo config app (b ∷ fs) (opening config app) found → is_quiet config h found ≡ true
            → (first : Stage) (behind : List Stage) → stages config app 0 (opening config app) up ≡ first ∷ behind → AllByRecursion (IsBusy config h) behind → ⊥
        at_quiet b fs e es found parts leads quiet first behind same busy =
            true≢false (sym quiet ∙ ap (is_quiet config h) (sym (leads_to config app 0 (opening config app) found (b ∷ fs) leads)) ∙ there.0)
          where
            tail_of : List Stage → List Stage
            tail_of [] = []
            tail_of (x ∷ xs) = xs

            first_of : Stage
            first_of = stage config app 0 (opening config app) b

            further : List Stage
            further = stages config app (end_of first_of) first_of.next fs

            here : Stage
            here = stage config app (last_end 0 (stages config app 0 (opening config app) (b ∷ fs))) (last_state (opening config app) (stages config app 0 (opening config app) (b ∷ fs))) e

            is_behind : behind ≡ further ++ here ∷ stages config app (end_of here) here.next es
            is_behind = ap tail_of (sym same ∙ ap (stages config app 0 (opening config app)) parts ∙ stages-append config app 0 (opening config app) (b ∷ fs) (e ∷ es))

            there : AllByRecursion (IsBusy config h) (here ∷ stages config app (end_of here) here.next es)
            there = (each_append (IsBusy config h) further (here ∷ stages config app (end_of here) here.next es) (subst (AllByRecursion (IsBusy config h)) is_behind busy)).1

        by : (boot ≡ true) ⊎ (boot ≡ false) → boot ≡ true
        by (inl on) = on
        by (inr off) =
            let a = asked off in
            absurd (at_quiet a.boot a.front a.here a.rest a.found a.parts a.leads a.quiet begun.first begun.behind (begun.parts ∙ ap (λ bs. bs ++ begun.first ∷ begun.behind) none) begun.busy)

    -- a sum over the stages from the first one on has that of the making
    has_making : (f : Stage → ℕ) → f making ≤ total f (begun.first ∷ begun.behind)
    has_making f = last_in begun.before begun.first begun.behind (sym (begun.parts) ∙ front_is)
      where
        in_rest : (xs ys : List Stage) (y : Stage) → y ∷ ys ≡ xs ++ making ∷ [] → f making ≤ total f (y ∷ ys)
        in_rest [] ys y e = subst (λ zs. f making ≤ total f zs) (sym e) (omega arith)
        in_rest (x ∷ xs) ys y e = subst (λ zs. f making ≤ total f zs) (sym e) (let both = total-append f xs (making ∷ []) in omega (arith, both))

        tail_of : List Stage → List Stage
        tail_of [] = []
        tail_of (x ∷ xs) = xs

        last_in : (bs : List Stage) (y : Stage) (ys : List Stage) → bs ++ y ∷ ys ≡ past ++ making ∷ [] → f making ≤ total f (y ∷ ys)
        last_in bs y ys e = go bs past e
          where
            go : (bs xs : List Stage) → bs ++ y ∷ ys ≡ xs ++ making ∷ [] → f making ≤ total f (y ∷ ys)
            go [] xs e = in_rest xs ys y e
            go (b ∷ bs) [] e = absurd (none bs (ap tail_of e))
              where
                none : (zs : List Stage) → zs ++ y ∷ ys ≡ [] → ⊥
                none [] e = cc
                none (z ∷ zs) e = cc
            go (b ∷ bs) (x ∷ xs) e = go bs xs (ap tail_of e)

    -- what holds of each stage from the first one on holds of it
    at_making : (P : Stage → Type 0) → AllByRecursion P (begun.first ∷ begun.behind) → P making
    at_making P each =
        subst P
        (sym (last_of-append making begun.before begun.first begun.behind) ∙ ap (last_of making) (sym begun.parts ∙ front_is) ∙ last_of-append making past making [])
        (at_last P begun.first begun.behind each)

    -- the period begins near each edge of the making
    near_edge : (edge lead : ℕ) → IsEdge before made edge → EndsSoon h lead begun.first (begun.first ∷ begun.behind) → end_of begun.first ≤ edge + lead
    near_edge edge lead (inl same) soon =
        let le = at_making (λ x. comes_at h x ≡ true → end_of begun.first ≤ x.stamped.stamp.at + lead) soon
        (ap (λ b. b || is_counter made.event)
        (and_from (not (is_ready (task making.found h).state)) (is_ready (task making.next h).state) (not_from_false (is_ready (task making.found h).state) not_before) ready)) in
        omega (arith, le, same)
    near_edge edge lead (inr t) soon = let le = by (cut earlier arrival (later ++ making ∷ []) begun.before begun.first begun.behind whole_is) in let same = t.is in omega (arith, le, same)
      where
        earlier : List Stage
        earlier = stages config app 0 (opening config app) t.front

        arrival : Stage
        arrival = stage config app (last_end 0 earlier) (last_state (opening config app) earlier) t.arrival

        later : List Stage
        later = stages config app (end_of arrival) arrival.next t.rest

        past_is : past ≡ earlier ++ arrival ∷ later
        past_is = ap (stages config app 0 (opening config app)) t.parts ∙ stages-append config app 0 (opening config app) t.front (t.arrival ∷ t.rest)

        split_is : front ≡ earlier ++ arrival ∷ (later ++ making ∷ [])
        split_is = front_is ∙ ap (λ zs. zs ++ making ∷ []) past_is ∙ append_assoc earlier (arrival ∷ later) (making ∷ [])

        whole_is : earlier ++ arrival ∷ (later ++ making ∷ []) ≡ begun.before ++ begun.first ∷ begun.behind
        whole_is = sym split_is ∙ begun.parts

        known_on : AllByRecursion (Known config app) (arrival ∷ (later ++ making ∷ []))
        known_on = (each_append (Known config app) earlier (arrival ∷ (later ++ making ∷ [])) (subst (AllByRecursion (Known config app)) split_is known_front)).1

        links_on : Linked (end_of arrival) arrival.next (later ++ making ∷ [])
        links_on =
            (linked_behind 0 (opening config app) earlier (arrival ∷ (later ++ making ∷ []))
            (subst (Linked 0 (opening config app)) split_is (stages_linked config app 0 (opening config app) up))).2

        no_ticks : (at : ℕ) (x : System) (es : List Stamped) → AllByRecursion (λ (e : Stamped). is_number t.counter (ticking_counter e.event) ≡ false) es
            → AllByRecursion (λ x. is_number t.counter (ticking_counter x.stamped.event) ≡ false) (stages config app at x es)
        no_ticks at x [] none = tt
        no_ticks at x (e ∷ es) none = (none.0, no_ticks (end_of (stage config app at x e)) (state_behind config app e.event x) es none.1)

        near_arrival : (comes_at h arrival ≡ true → end_of begun.first ≤ t.arrival.stamp.at + lead) → end_of begun.first ≤ t.arrival.stamp.at + lead
        near_arrival soon = soon (or_right (makes_ready h arrival) (is_counter t.arrival.event) (ap is_counter t.arrives))

        calm_begin : (is_quiet config h begun.first.found ≡ true) ⊎ ((once ≡ true) × IsLeaving config h begun.first begun.behind) → Calm config h once begun.first.found
        calm_begin (inl quiet) = quiet_calm config h once begun.first.found quiet
        calm_begin (inr (on, leaving)) = subst (λ b. Calm config h b begun.first.found) (sym on) (leaving_calm config h begun.first.found leaving.alone leaving.active)

        by : Cut earlier arrival (later ++ making ∷ []) begun.before begun.first begun.behind → end_of begun.first ≤ t.arrival.stamp.at + lead
        by (at_one same) = near_arrival (subst (λ x. comes_at h x ≡ true → end_of begun.first ≤ x.stamped.stamp.at + lead) (sym same) soon.0)
        by (behind_it mid is rest) =
            near_arrival
            (each_append (λ x. comes_at h x ≡ true → end_of begun.first ≤ x.stamped.stamp.at + lead) mid (arrival ∷ (later ++ making ∷ []))
            (subst (AllByRecursion (λ x. comes_at h x ≡ true → end_of begun.first ≤ x.stamped.stamp.at + lead)) rest soon.1)).1.0
        by (in_front mid is rest) =
            let due = arrived config app t.counter arrival known_on.0 t.arrives in
            let none = prefix (λ x. is_number t.counter (ticking_counter x.stamped.event) ≡ false) mid begun.first begun.behind later making rest
            (no_ticks (end_of arrival) arrival.next t.rest t.none) in
            let links = subst (Linked (end_of arrival) arrival.next) rest links_on in
            let there = (each_append (Known config app) mid (begun.first ∷ begun.behind) (subst (AllByRecursion (Known config app)) rest known_on.1)).0 in
            let on = on_along config app t.counter (end_of arrival) arrival.next mid (linked_front (end_of arrival) arrival.next mid (begun.first ∷ begun.behind) links) there none due.0 in
            let found_so = (linked_behind (end_of arrival) arrival.next mid (begun.first ∷ begun.behind) links).1 in
            let zero = (calm_begin begun.begins).counters t.counter due.1 in
            let one = ap {B = ℕ} (λ b. cond b 1 0) (subst (λ (x : System). (counter x t.counter).due ≡ true) (sym found_so) on) in
            absurd (omega (arith, zero, one))

    -- the last count of the events up to the making is that of the first and those behind it
    at_is : at ≡ last_end (end_of begun.first) begun.behind
    at_is = ap (last_end 0) begun.parts ∙ last_end-append 0 begun.before (begun.first ∷ begun.behind)

    -- from the first event on the period goes on as long as the task does not leave
    goes_on : (edge : ℕ) → IsEdge before made edge → (period further : List Stage) → stages config app at s behind ≡ period ++ further → AllByRecursion (IsBusy config h) period
        → (once ≡ true → LeavesOnce h begun.first (begun.behind ++ period)) → (last_end at period ≤ edge + r) × (last_end at period ≤ end_of begun.first + r) × (0 < r)
    goes_on edge has period further same busy low =
        let acts = has_making (activated h) in
        let sets = has_making (was_set h) in
        let one = makes_one in
        let more_acts = total-append (activated h) begun.behind period in
        let more_sets = total-append (was_set h) begun.behind period in
        let here = ends_by begun.before begun.first (begun.behind ++ period) further part (begins begun.begins)
        (each_joined (IsBusy config h) begun.behind period begun.busy busy) low counts_so makes.declared (omega (arith, acts, sets, one, more_acts, more_sets)) in
        let joined = last_end-append (end_of begun.first) begun.behind period ∙ ap (λ k. last_end k period) (sym at_is) in
        let IsSoon : Stage → Type 0 = λ x. comes_at h x ≡ true → end_of begun.first ≤ x.stamped.stamp.at + here.0 in
        let near = near_edge edge here.0 has (each_append IsSoon (begun.first ∷ begun.behind) period here.1).0 in
        let ends = here.2 in
        (omega (arith, ends, joined, near), omega (arith, ends, joined), here.3)
      where
        part : run_stages config app events ≡ begun.before ++ ((begun.first ∷ (begun.behind ++ period)) ++ further)
        part =
            all ∙ ap (λ xs. front ++ xs) same ∙ ap (λ xs. xs ++ (period ++ further)) begun.parts
            ∙ append_assoc begun.before (begun.first ∷ begun.behind) (period ++ further)
            ∙ ap (λ xs. begun.before ++ begun.first ∷ xs) (sym (append_assoc begun.behind period further))

        longer : (xs : List Stage) → LeavesFirst h xs → LeavesFirst h (xs ++ period)
        longer [] beginning = absurd beginning
        longer (x ∷ xs) (inl is) = inl is
        longer (x ∷ xs) (inr (admits, beginning)) = inr (admits, longer xs beginning)

        begins : (is_quiet config h begun.first.found ≡ true) ⊎ ((once ≡ true) × IsLeaving config h begun.first begun.behind)
            → (is_quiet config h begun.first.found ≡ true) ⊎ ((once ≡ true) × IsLeaving config h begun.first (begun.behind ++ period))
        begins (inl quiet) = inl quiet
        begins (inr (on, leaving)) =
            inr (on, record { active = leaving.active; alone = leaving.alone; leaves = longer (begun.first ∷ begun.behind) leaving.leaves })

    -- how often h leaves in parts of these
    prefix_few : (ys : List Stage) (z : Stage) (front rest : List Stage) (last : Stage) → ys ++ z ∷ [] ≡ front ++ last ∷ rest → lefts h front ≤ lefts h ys
    prefix_few ys z [] rest last e = omega arith
    prefix_few [] z (f ∷ fs) rest last e = absurd (none fs (ap tail_of e))
      where
        tail_of : List Stage → List Stage
        tail_of [] = []
        tail_of (x ∷ xs) = xs

        none : (fs : List Stage) → [] ≡ fs ++ last ∷ rest → ⊥
        none [] e = cc
        none (f ∷ fs) e = cc
    prefix_few (y ∷ ys) z (f ∷ fs) rest last e =
        let further = prefix_few ys z fs rest last (ap tail_of e) in
        let same = ap first_left e in
        omega (arith, further, same)
      where
        tail_of : List Stage → List Stage
        tail_of [] = []
        tail_of (x ∷ xs) = xs

        first_left : List Stage → ℕ
        first_left [] = 0
        first_left (x ∷ xs) = cond (is_left h x.stamped.event) 1 0

    whole_few : (front rest : List Stage) (last : Stage) (ys : List Stage) → ys ≡ front ++ last ∷ rest → lefts h front ≤ lefts h ys
    whole_few front rest last ys e =
        let same = ap (lefts h) e in
        let both = total-append (λ x. cond (is_left h x.stamped.event) 1 0) front (last ∷ rest) in
        omega (arith, same, both)

    none_left : (at : ℕ) (x : System) (es : List Stamped) → AllByRecursion (λ e. is_left h e.event ≡ false) es → lefts h (stages config app at x es) ≤ 0
    none_left at x [] none = omega arith
    none_left at x (e ∷ es) none =
        let here = ap {B = ℕ} (λ b. cond b 1 0) none.0 in
        let rest = none_left (end_of (stage config app at x e)) (state_behind config app e.event x) es none.1 in
        omega (arith, here, rest)

    some_events : (xs : List Stamped) → 1 ≤ length (xs ++ made ∷ behind)
    some_events [] = omega arith
    some_events (x ∷ xs) = omega arith

    -- an event begins behind the end of the period's first one
    begins_behind : (first : List Stamped) (e : Stamped) (rest : List Stamped) → behind ≡ first ++ e ∷ rest → is_admit e ≡ false → end_of begun.first ≤ e.stamp.from
    begins_behind first e rest parts other =
        let placed = subst (AllPairs IsOrdered) (is ∙ ap (λ es. before ++ made ∷ es) parts ∙ sym (append_assoc before (made ∷ first) (e ∷ rest))) in_time.placed in
        let ended = each_so (λ x. IsOrdered x e) (λ x. is_admit x ≡ false → x.stamp.at < e.stamp.from) (λ x ordered. ends_before x e ordered other) (before ++ made ∷ first)
        (ordered_front (before ++ made ∷ first) e rest placed) in
        let up_ended = (each_append (λ x. is_admit x ≡ false → x.stamp.at < e.stamp.from) up first
        (subst (AllByRecursion (λ x. is_admit x ≡ false → x.stamp.at < e.stamp.from)) (sym (append_assoc before (made ∷ []) first)) ended)).0 in
        let all = all_end config app e.stamp.from 0 (opening config app) up (omega arith) up_ended in
        (each_append (λ x. end_of x ≤ e.stamp.from) begun.before (begun.first ∷ begun.behind) (subst (AllByRecursion (λ x. end_of x ≤ e.stamp.from)) begun.parts all)).1.0

    -- an event in front of which the task has not left
    pub pends : (edge : ℕ) → IsEdge before made edge → (first : List Stamped) (e : Stamped) (rest : List Stamped) → behind ≡ first ++ e ∷ rest → AllByRecursion (λ x. is_left h x.event ≡ false) first
        → is_admit e ≡ false → EndsWithin r edge e
    pends edge has first e rest parts none other =
        let halves = leads-parts config app first (e ∷ rest) s run.0 (subst (λ es. AreStepsTo config app es s run.0) parts behind_leads) in
        let due = due_on config app late h makes.declared at s halves.0 first halves.1 (inl makes.behind) none in
        let xs = stages config app at s first in
        let reached = leads_to config app at s halves.0 first halves.1 in
        let last : Stage = stage config app (last_end at xs) (last_state s xs) e in
        let busy_last : IsBusy config h last = due_busy config h (last_state s xs) makes.declared (subst (λ x. IsDue x h) (sym reached) due.1) in
        let there = ap (stages config app at s) parts ∙ stages-append config app at s first (e ∷ rest)
        ∙ sym (append_assoc xs (last ∷ []) (stages config app (end_of last) last.next rest)) in
        let le = goes_on edge has (xs ++ last ∷ []) (stages config app (end_of last) last.next rest) there
        (each_joined (IsBusy config h) xs (last ∷ []) due.0 (busy_last, tt))
        (λ on ahead further end same.
        let le = prefix_few (begun.first ∷ (begun.behind ++ xs)) last ahead further end
        (ap (λ zs. begun.first ∷ zs) (append_assoc begun.behind xs (last ∷ [])) ∙ same) in
        let own = begun.few on in
        let zero = none_left at s first none in
        let both = total-append (λ x. cond (is_left h x.stamped.event) 1 0) begun.behind xs in
        omega (arith, le, own, zero, both)) in
        let ends = last_end-append at xs (last ∷ []) ∙ ap {B = ℕ} (λ b. cond b (last_end at xs) (e.stamp.at + 1)) other in
        let from = begins_behind first e rest parts other in
        let soon = le.0 in
        let short = le.1 in
        record { ends = omega (arith, soon, ends); spans = omega (arith, short, ends, from) }

    pub some : 0 < r
    some =
        (goes_on made.stamp.at (inl refl) [] (stages config app at s behind) refl tt
        (λ on ahead further end same.
        let le = whole_few ahead further end (begun.first ∷ (begun.behind ++ [])) same in
        let own = begun.few on in
        let both = total-append (λ x. cond (is_left h x.stamped.event) 1 0) begun.behind [] in
        omega (arith, le, own, both))).2

    pub responds : (edge : ℕ) → IsEdge before made edge → edge + r + more ≤ n → LeavesBefore h (edge + r) behind
    responds edge has many = by (leaving config app late h behind)
      where
        by : Leaving config app late h behind → LeavesBefore h (edge + r) behind
        by (leaves first left rest parts none leaves_h) = record {
          front = first;
          left = left;
          rest = rest;
          parts = parts;
          first = none;
          leaves = leaves_h;
          in_time = (pends edge has first left rest parts none (left_no_admit h left leaves_h)).ends;
        }
        by (leaves_not none) =
            let due = due_on config app late h makes.declared at s run.0 behind behind_leads (inl makes.behind) none in
            let le = (goes_on edge has (stages config app at s behind) [] (sym (append-nil (stages config app at s behind))) due.0
            (λ on ahead further end e.
            let le = whole_few ahead further end (begun.first ∷ (begun.behind ++ stages config app at s behind)) e in
            let own = begun.few on in
            let zero = none_left at s behind none in
            let both = total-append (λ x. cond (is_left h x.stamped.event) 1 0) begun.behind (stages config app at s behind) in
            omega (arith, le, own, zero, both))).0 in
            let some = subst (λ es. 1 ≤ length es) (sym is) (some_events before) in
            let end = pace.reaches some in
            let last = sym (ap (last_end 0) all ∙ last_end-append 0 front (stages config app at s behind)) in
            let no_less = run_no_less config app late run.0 events some whole in
            let enough_counts = many in
            absurd (omega (arith, le, end, last, no_less, enough_counts))

pub respond_in_time : RespondsInTime
respond_in_time config app n late more arrivals events h r cuts costs once boot starts start enters wf run in_time pace shared bounds ways joining enough lasts = record {
  some = λ before behind made found s is leads makes asked.
      some config app n late more arrivals events h r cuts costs once boot starts start enters wf run in_time pace shared bounds ways joining enough lasts before behind made found s is leads makes asked;
  leaves = λ before behind made found s edge is leads makes asked has many.
      responds config app n late more arrivals events h r cuts costs once boot starts start enters wf run in_time pace shared bounds ways joining enough lasts before behind made found s is leads makes asked edge has many;
  pends = λ before front rest made e found s edge is leads makes asked has none other.
      pends config app n late more arrivals events h r cuts costs once boot starts start enters wf run in_time pace shared bounds ways joining enough lasts before (front ++ e ∷ rest) made found s is leads makes asked edge has front e rest refl none other;
}
