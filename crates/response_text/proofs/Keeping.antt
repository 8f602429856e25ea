-- Runs keep what is told.
use Rattle.std.proofs.Common.{◌≡◌, ◌∙◌, ℕ, ◌+◌, ◌<◌, ◌≤◌, Bool, true, false, List, length, Option, Some, sym, ap, subst, arith}
use Rattle.std.proofs.lemmas.Bool.{and_parts, leb-true}
use Rattle.std.proofs.lemmas.List.{length-map}
use Rattle.sloth_base.specs.declared.config.Config.{Config}
use Rattle.sloth_base.specs.declared.config.TaskDecl.{TaskDecl}
use Rattle.sloth_base.specs.declared.config.CounterDecl.{CounterDecl}
use Rattle.sloth_base.specs.declared.app.App.{App}
use Rattle.sloth_base.specs.DeclaredNames.{task_names, counter_names}
use Rattle.sloth_base.specs.declared.numbers.Owners.{Owners}
use Rattle.sloth_base.specs.Owners.{owners_in}
use Rattle.code_rules.specs.WellFormed.{WellFormed}
use Rattle.load_text.specs.declared.load_line.Entry.{Entry}
use Rattle.load_text.specs.declared.load_line.Form.TheVariants as form
use Rattle.load_text.specs.Loads.{distance, IsLoad}
use Rattle.trace_text.specs.ArrivalsText.{owners_read}
use Rattle.sloth_base.specs.declared.image.Image.{Image}
use Rattle.sim_induction.specs.Paced.{InPace}
use Rattle.sim_induction.specs.Weighed.{Weighed}
use Rattle.sim_induction.specs.Sound.{Sound, events_of}
use Rattle.run_windows.specs.RunWindows.{IsRunResponse}
use Rattle.response_laws.specs.Made.{is_made_by_arrivals}
use Rattle.response_laws.specs.SoundRuns.{IsLongestItem, NoStretchIsAbove}
use Rattle.response_laws.proofs.Admissions.{admissions_find_suspended}
use Rattle.response_laws.specs.Ticking.{HasRoomForTicks}
use Rattle.response_laws.proofs.ImageTicks.{keeps_pace, images_tick_in_time}
use Rattle.response_laws.proofs.Undue.{arrivals_are_served}
use Rattle.run_responses.proofs.Meeting.{some_said, images_meet_bounds}
use Rattle.run_windows.specs.declared.costs.RunCosts.{RunCosts}
use Rattle.run_costs.specs.RunRecord.{IsRunRecord}
use Rattle.run_responses.proofs.Sizes.{longest_is, late_is}
use Rattle.run_responses.proofs.TickTimes.{room_for}
use Rattle.run_responses.specs.TickWindows.{IsTickNumber}
use Rattle.response_text.specs.Lines.{is_within_limit, keeps_arrivals, response_at}
use Rattle.response_text.specs.declared.task_text.Response.{Response}
use Rattle.response_text.proofs.Expecting.{expiries_kept}
use Rattle.response_text.specs.ResponseText.{ImageKeepsNumbers, ImageLosesNone, ImageKeepsTicks, ImageServesArrivals, AreResponses, RunsKeepResponses}

-- the owners of lines are those whose names are read
pub owned : (config : Config) (load : List Entry) → IsLoad (owners_read (task_names config) (counter_names config)) load → IsLoad (owners_in config) load
owned config load is =
    let tasks : length (task_names config) ≡ length config.tasks = length-map config.tasks (λ (t : TaskDecl). t.name) in
    let counters : length (counter_names config) ≡ length config.counters = length-map config.counters (λ (c : CounterDecl). c.name) in
    let O : ℕ → ℕ → Owners = λ t c. record { tasks = t; counters = c } in
    subst (λ o. IsLoad o load) (ap (λ t. O t (length (counter_names config))) tasks ∙ ap (O (length config.tasks)) counters) is

module _ (config : Config) (app : App) (load : List Entry) (code : WellFormed config app) (in_load : IsLoad (owners_in config) load) where
  numbers_kept : (costs : RunCosts) → IsRunRecord config app load costs → (boot : Bool) (number : ℕ → Option ℕ)
      → ((t : ℕ) → t < length config.tasks → IsRunResponse costs.longest costs.late costs.costs t boot (number t))
      → (image : Image) → Sound config app image → Weighed config app image → InPace config app image
      → ImageKeepsNumbers config app image load costs.longest costs.late boot number
  numbers_kept costs are boot number all image sound weighed pace arrivals n h r cuts come keeps cut works there told =
      let is : IsRunResponse costs.longest costs.late costs.costs h boot (Some r) = subst (IsRunResponse costs.longest costs.late costs.costs h boot) told (all h there) in
      let item : IsLongestItem app costs.longest = subst (IsLongestItem app) (sym are.longest.2) (longest_is app are.longest.0 are.longest.1) in
      let stretch : NoStretchIsAbove config app costs.late = subst (NoStretchIsAbove config app) (sym are.late.2) (late_is config app are.late.0 code are.late.1) in
      images_meet_bounds config app image load arrivals n costs.late costs.longest h r boot cuts costs.costs code (config, code.in_range) sound weighed pace item stretch come in_load keeps cut
      works are.costs there is.0.told is.0.within

  -- and so no arrival is lost of a task that keeps its arrivals
  none_lost : (longest late : ℕ) (number : ℕ → Option ℕ) (image : Image) → Sound config app image → ImageKeepsNumbers config app image load longest late true number
      → ImageLosesNone config app image load longest late number
  none_lost longest late number image sound respond arrivals n t r d cuts come keeps cut works there told is_distance kept =
      let run = sound.each arrivals n come in
      let said = subst (λ (o : Option ℕ). keeps_arrivals config app load t o ≡ true) told kept in
      let both = and_parts (is_made_by_arrivals config app t) (is_within_limit (Some r) (distance load t)) said in
      admissions_find_suspended config app load n (longest + late) t r d arrivals (events_of image arrivals n) code run.osek run.in_time
      (λ line. some_said form.Every line load in_load.numbers) keeps (respond arrivals n t r cuts come keeps cut works there told)
      both.0 is_distance (leb-true r d (subst (λ (o : Option ℕ). is_within_limit (Some r) o ≡ true) is_distance both.1))

  -- ---- ticks

  module _ (costs : RunCosts) (are : IsRunRecord config app load costs) (tick : Option ℕ) (is : IsTickNumber costs.longest costs.late costs.costs tick) (image : Image)
      (sound : Sound config app image) (weighed : Weighed config app image) (pace : InPace config app image) where
    item : IsLongestItem app costs.longest
    item = subst (IsLongestItem app) (sym are.longest.2) (longest_is app are.longest.0 are.longest.1)

    stretch : NoStretchIsAbove config app costs.late
    stretch = subst (NoStretchIsAbove config app) (sym are.late.2) (late_is config app are.late.0 code are.late.1)

    room : (r : ℕ) → tick ≡ Some r → (counts : ℕ) × HasRoomForTicks config load costs.longest costs.late counts × (counts + costs.late ≤ r)
    room r told = room_for config app load costs.longest costs.late costs.costs are.costs r (subst (IsTickNumber costs.longest costs.late costs.costs) told is)

    positive : (line : ℕ) → (distance load line ≡ Some 0) → ⊥
    positive line = some_said form.Every line load in_load.numbers

    -- each ends in time
    ticks_kept : ImageKeepsTicks config image load costs.longest costs.late tick
    ticks_kept arrivals n r come keeps told before behind arrival c at due many =
        let has = room r told in
        let le = has.2 in
        let ended = images_tick_in_time config app image are.costs.weights load arrivals n costs.late costs.longest has.0 code sound weighed pace are.costs.are_counts item come stretch
        positive keeps has.1 before behind arrival c at due (omega (arith, many, le)) in
        let soon = ended.in_time in
        record { front = ended.front; tick = ended.tick; rest = ended.rest; parts = ended.parts; first = ended.first; ticks = ended.ticks; in_time = omega (arith, soon, le) }

    -- so no arrival of a counter is lost, where that is soon enough
    arrivals_served : ImageServesArrivals config app image load costs.longest costs.late tick
    arrivals_served arrivals n r c d come keeps told is_distance short =
        let has = room r told in
        let le = has.2 in
        let run = sound.each arrivals n come in
        arrivals_are_served config app load n costs.late (costs.longest + costs.late) r c d arrivals (events_of image arrivals n) code run.osek run.in_time
        (keeps_pace config app image are.costs.weights load arrivals n costs.late costs.longest has.0 code sound weighed pace are.costs.are_counts item come stretch)
        positive keeps (ticks_kept arrivals n r come keeps told) is_distance (omega (arith, le)) short

  pub runs_keep : (costs : RunCosts) → IsRunRecord config app load costs → (responses : List Response)
      → AreResponses costs.longest costs.late costs.costs (length config.tasks) responses → (tick : Option ℕ) → IsTickNumber costs.longest costs.late costs.costs tick
      → RunsKeepResponses config app load costs.longest costs.late responses tick
  runs_keep costs are responses all tick is image sound weighed pace =
      let anywhere = numbers_kept costs are true (λ t. (response_at responses t).anywhere) (λ t lt. (all.each t lt).anywhere) image sound weighed pace in
      record {
        anywhere = anywhere;
        behind = numbers_kept costs are false (λ t. (response_at responses t).behind) (λ t lt. (all.each t lt).behind) image sound weighed pace;
        lossless = none_lost costs.longest costs.late (λ t. (response_at responses t).anywhere) image sound anywhere;
        expiries = expiries_kept config app load code in_load costs are image sound weighed (λ t. (response_at responses t).anywhere) (λ t lt. (all.each t lt).anywhere) anywhere;
        ticks = ticks_kept costs are tick is image sound weighed pace;
        served = arrivals_served costs are tick is image sound weighed pace;
      }
