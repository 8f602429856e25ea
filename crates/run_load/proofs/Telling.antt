-- What is told says that a run keeps its load exactly where it does.
use Rattle.std.proofs.Common.{◌≡◌, ◌∙◌, ◌+◌, ◌<◌, ◌≤◌, ℕ, suc, Bool, true, false, List, [], ◌∷◌, length, Option, Some, None, is_none, refl, sym, ap, subst, arith}
use Rattle.std.specs.Prelude.{IfSome, Decides}
use Rattle.std.specs.List.{All, AllByRecursion}
use Rattle.std.proofs.lemmas.Bool.{false≢true}
use Rattle.std.proofs.lemmas.Bool.Decides.{Decides-and}
use Rattle.std.proofs.lemmas.List.{length-map}
use Rattle.sloth_base.specs.Arrivals.{AreArrivals}
use Rattle.sloth_base.specs.MemoryMap.{line_count}
use Rattle.sloth_base.specs.Owners.{owners_in, owners_named}
use Rattle.sloth_base.specs.declared.config.Config.{Config}
use Rattle.sloth_base.specs.declared.config.TaskDecl.{TaskDecl}
use Rattle.sloth_base.specs.declared.config.CounterDecl.{CounterDecl}
use Rattle.sloth_base.specs.declared.app.App.{App}
use Rattle.sloth_base.specs.declared.service.Arrival.{Arrival}
use Rattle.sloth_base.specs.declared.service.Stamped.{Stamped}
use Rattle.sloth_base.specs.declared.image.Image.{Image}
use Rattle.sloth_base.specs.declared.numbers.Owners.{Owners}
use Rattle.code_rules.specs.WellFormed.{WellFormed}
use Rattle.load_text.specs.declared.load_line.Entry.{Entry}
use Rattle.load_text.specs.declared.load_line.Form.TheVariants as form
use Rattle.load_text.specs.Loads.{IsLoad, KeepDistances}
use Rattle.osek_scheduler.specs.Runs.{OsekRun}
use Rattle.osek_scheduler.specs.State.{opening}
use Rattle.osek_scheduler.proofs.Leading.{follows_leads}
use Rattle.response_text.specs.declared.task_text.Response.{Response}
use Rattle.response_text.specs.Lines.{response_at}
use Rattle.response_text.specs.ResponseText.{AreResponses}
use Rattle.response_text.proofs.Keeping.{runs_keep}
use Rattle.run_windows.specs.declared.costs.RunCosts.{RunCosts}
use Rattle.run_costs.specs.RunCosts.{AreRunCosts}
use Rattle.run_costs.specs.RunRecord.{IsRunRecord}
use Rattle.run_responses.specs.Meeting.{AreCutTasks}
use Rattle.run_responses.specs.TickWindows.{IsTickNumber}
use Rattle.sloth_base.specs.Named.{declaration}
use Rattle.walk_sums.specs.Rounds.{IsClean}
use Rattle.run_load.specs.Seen.{longest_seen}
use Rattle.run_load.specs.Ticks.{longest_tick_seen}
use Rattle.run_load.specs.Watched.{no_moments}
use Rattle.run_counts.specs.Stages.{run_stages}
use Rattle.response_laws.specs.Works.{KeepsWork}
use Rattle.response_laws.specs.SoundRuns.{IsLongestItem, NoStretchIsAbove}
use Rattle.run_responses.proofs.Meeting.{some_said, images_meet_bounds}
use Rattle.run_responses.proofs.Sizes.{longest_is, late_is}
use Rattle.run_windows.specs.RunWindows.{IsRunResponse}
use Rattle.run_windows.specs.declared.costs.Costs.{Costs}
use Rattle.sim_induction.specs.Paced.{InPace}
use Rattle.sim_induction.specs.Sound.{AreComing, Sound, events_of}
use Rattle.sim_induction.specs.Weighed.{Weighed}
use Rattle.sim_laws.specs.TaskStates.{HasTaskStates}
use Rattle.rv32_expand.specs.InPlace.{ItemsInPlace}
use Rattle.sloth_base.specs.DeclaredNames.{task_names, counter_names}
use Rattle.sloth_base.specs.ImageRange.{InFormat}
use Rattle.sloth_base.specs.declared.limits.Bounds.{Bounds}
use Rattle.sloth_build.specs.ImageOf.{IsOfPlannedMap}
use Rattle.stack_bounds.specs.Bounds.{AreBounds}
use Rattle.sloth_runner.proofs.Turning.{controller-lines}
use Rattle.symbol_build.specs.SymbolFiles.{IsBuilt}
use Rattle.run_load.specs.RunLines.{cuts_of, told_run}
use Rattle.run_load.specs.RunText.{KeepsLoad, IsSeenWithin}
use Rattle.run_load.specs.Soon.{no_lasts, first_soon}
use Rattle.run_load.specs.Work.{above_among}
use Rattle.run_load.proofs.Keeping.{keeps-exactly}
use Rattle.run_load.proofs.KeptWork.{keeps-work, work-kept}
use Rattle.run_load.proofs.TicksSeen.{are-served, longest-tick-within}
use Rattle.run_load.proofs.SeenWithin.{longest_within, none_since}

by_recursion : (arrivals : List Arrival) → All (λ a. a.line < line_count) arrivals → AllByRecursion (λ a. a.line < line_count) arrivals
by_recursion [] all = tt
by_recursion (a ∷ rest) all = (all 0 a (omega arith), by_recursion rest (λ k d l. all (suc k) d (omega (arith, l))))

none_decides : {X : Type 0} → (o : Option X) (P : Type 0) → (o ≡ None → P) → (P → o ≡ None) → Decides (is_none o) P
none_decides (Some x) P to from = ((λ e. absurd (false≢true e)), λ p. let wrong : Some x ≡ None = from p in absurd cc)
none_decides None P to from = ((λ e. to refl), λ p. refl)

-- an image as it is built
pub is-built : (config : Config) (app : App) (bounds : Bounds) (image : Image) → AreBounds config app bounds → Sound config app image → Weighed config app image → InPace config app image
    → HasTaskStates config app image → ItemsInPlace image config app → InFormat image → image.tasks ≡ task_names config → image.counters ≡ counter_names config
    → IsOfPlannedMap config app bounds image → IsBuilt config app image
is-built config app bounds image are sound weighed paced shows items format tasks counters planned = record {
  sound = sound;
  weighed = weighed;
  paced = paced;
  shows = shows;
  items = items;
  format = format;
  names = tasks;
  counters = counters;
  planned = record { bounds = bounds; are_bounds = are; by_map = planned };
}

-- the owners of a configuration are those that its image names
pub named-owners : (config : Config) (app : App) (image : Image) → IsBuilt config app image → owners_named image ≡ owners_in config
named-owners config app image built =
    let O : ℕ → ℕ → Owners = λ t c. record { tasks = t; counters = c } in
    let tasks : length image.tasks ≡ length config.tasks = ap length built.names ∙ length-map config.tasks (λ (t : TaskDecl). t.name) in
    let counters : length image.counters ≡ length config.counters = ap length built.counters ∙ length-map config.counters (λ (c : CounterDecl). c.name) in
    ap (λ t. O t (length image.counters)) tasks ∙ ap (λ c. O (length config.tasks) c) counters

pub arrivals-named : (config : Config) (app : App) (image : Image) (arrivals : List Arrival) → IsBuilt config app image → AreArrivals (owners_in config) arrivals
    → AreArrivals (owners_named image) arrivals
arrivals-named config app image arrivals built are = subst (λ (o : Owners). AreArrivals o arrivals) (sym (named-owners config app image built)) are

-- these come in a run
coming : (config : Config) (arrivals : List Arrival) → AreArrivals (owners_in config) arrivals → AreComing (owners_in config) arrivals
coming config arrivals are = record { ordered = are.ordered; lines_owned = are.lines_owned }

pub exactly : (config : Config) (app : App) (load : List Entry) (costs : Costs) (arr : List ℕ) (arrivals : List Arrival) (image : Image) (n : ℕ) (responses : List Response) (tick : Option ℕ)
    → WellFormed config app → IsLoad (owners_in config) load → AreArrivals (owners_in config) arrivals → IsBuilt config app image
    → Decides (told_run config app load costs arr arrivals (events_of image arrivals n) responses tick).keeps (KeepsLoad config app load (cuts_of costs) arrivals (events_of image arrivals n))
exactly config app load costs arr arrivals image n responses tick code in_load are built =
    let events : List Stamped = events_of image arrivals n in
    let run : OsekRun config app events = (built.sound.each arrivals n (coming config arrivals are)).osek in
    let inside = by_recursion arrivals (controller-lines (owners_in config) arrivals code.in_range.configuration.few_tasks code.in_range.configuration.few_counters are.lines_owned) in
    let distances = keeps-exactly load (λ line. some_said form.Every line load in_load.numbers) arrivals inside in
    Decides-and (is_none (first_soon load no_lasts 0 arrivals)) (is_none (above_among config app load (cuts_of costs) events (length config.tasks)))
    (none_decides (first_soon load no_lasts 0 arrivals) (KeepDistances load arrivals) distances.0 distances.1)
    (none_decides (above_among config app load (cuts_of costs) events (length config.tasks)) (KeepsWork config load (cuts_of costs) (run_stages config app events))
    (keeps-work config app load (cuts_of costs) events run) (work-kept config app load (cuts_of costs) events))

-- ---- responses

-- the turns that are cut are those of extended tasks which clear what they wait for
cut_tasks : (config : Config) (app : App) (load : List Entry) (costs : Costs) → AreRunCosts config app load costs → AreCutTasks config app (cuts_of costs)
cut_tasks config app load costs are t lt =
    let is = are.tasks.each t lt in
    let both = Decides-and is.clean (declaration config t).extended is.clears ((λ e. e), λ e. e) in
    subst (λ b. Decides b (IsClean app t × ((declaration config t).extended ≡ true))) (sym is.is_cut) both

module _ (config : Config) (app : App) (load : List Entry) (costs : RunCosts) (arrivals : List Arrival) (image : Image) (n : ℕ) (code : WellFormed config app)
    (in_load : IsLoad (owners_in config) load) (are : AreArrivals (owners_in config) arrivals) (built : IsBuilt config app image) (record_is : IsRunRecord config app load costs)
    (keeps : KeepsLoad config app load (cuts_of costs.costs) arrivals (events_of image arrivals n)) where
  item : IsLongestItem app costs.longest
  item = subst (IsLongestItem app) (sym record_is.longest.2) (longest_is app record_is.longest.0 record_is.longest.1)

  stretch : NoStretchIsAbove config app costs.late
  stretch = subst (NoStretchIsAbove config app) (sym record_is.late.2) (late_is config app record_is.late.0 code record_is.late.1)

  one_within : (all : Bool) (t : ℕ) → t < length config.tasks → (o : Option ℕ) → IsRunResponse costs.longest costs.late costs.costs t all o
      → IfSome o (λ most. longest_seen config app t all (events_of image arrivals n) ≤ most)
  one_within all t lt None is = tt
  one_within all t lt (Some most) is =
      let come = coming config arrivals are in
      let run = (built.sound.each arrivals n come).osek in
      let responds =
      images_meet_bounds config app image load arrivals n costs.late costs.longest t most all (cuts_of costs.costs) costs.costs code (config, code.in_range) built.sound built.weighed built.paced
      item stretch come in_load keeps.0 (cut_tasks config app load costs.costs record_is.costs) keeps.1 record_is.costs lt is.0.told is.0.within in
      longest_within config app t most lt all (events_of image arrivals n) responds.pends [] (events_of image arrivals n) 0 no_moments false (opening config app) run.0 refl refl
      (follows_leads config app [] (opening config app) (events_of image arrivals n) run.0 run.1) none_since (λ e. absurd (false≢true e))

  pub seen-within : (responses : List Response) → AreResponses costs.longest costs.late costs.costs (length config.tasks) responses → (t : ℕ) → t < length config.tasks
      → IsSeenWithin config app (events_of image arrivals n) t (response_at responses t)
  seen-within responses all t lt = record {
    anywhere = one_within true t lt (response_at responses t).anywhere (all.each t lt).anywhere;
    behind = one_within false t lt (response_at responses t).behind (all.each t lt).behind;
  }

  pub ticks-seen-within : (responses : List Response) → AreResponses costs.longest costs.late costs.costs (length config.tasks) responses → (tick : Option ℕ)
      → IsTickNumber costs.longest costs.late costs.costs tick → (c : ℕ) → IfSome tick (λ most. longest_tick_seen c (events_of image arrivals n) ≤ most)
  ticks-seen-within responses all None is c = tt
  ticks-seen-within responses all (Some most) is c =
      let come = coming config arrivals are in
      let kept = runs_keep config app load code in_load costs record_is responses all (Some most) is image built.sound built.weighed built.paced in
      longest-tick-within c most (events_of image arrivals n)
      (are-served config image arrivals n (costs.longest + costs.late) most c (λ m. (built.sound.each arrivals m come).in_time)
      (λ m. kept.ticks arrivals m most come keeps.0 refl))
