-- What the command `response` tells.
use Rattle.std.specs.Prelude.{ℕ, ◌+◌, ◌<◌, ◌≤◌, ◌≡◌, Bool, true, false, List, ◌++◌, length, Option, Some}
use Rattle.sloth_base.specs.declared.config.Config.{Config}
use Rattle.sloth_base.specs.declared.app.App.{App}
use Rattle.sloth_base.specs.declared.service.Arrival.{Arrival}
use Rattle.sloth_base.specs.declared.image.Image.{Image}
use Rattle.sloth_base.specs.Named.{alarm_declaration}
use Rattle.sloth_base.specs.Owners.{counter_line, owners_in}
use Rattle.sloth_source.specs.Texts.{AreAccepted}
use Rattle.load_text.specs.declared.load_line.Entry.{Entry}
use Rattle.load_text.specs.Loads.{distance, KeepDistances}
use Rattle.sim_induction.specs.Paced.{InPace}
use Rattle.sim_induction.specs.Sound.{AreComing, Sound, events_of}
use Rattle.sim_induction.specs.Weighed.{Weighed}
use Rattle.run_counts.specs.Stages.{run_stages}
use Rattle.run_windows.specs.declared.costs.Costs.{Costs}
use Rattle.run_windows.specs.Costs.{comes}
use Rattle.run_windows.specs.RunWindows.{IsRunResponse}
use Rattle.run_windows.specs.Demand.{IsDemand}
use Rattle.run_responses.specs.TickWindows.{IsTickNumber}
use Rattle.response_laws.specs.SoundRuns.{KeepsWork}
use Rattle.response_laws.specs.Response.{RespondsWithin}
use Rattle.response_laws.specs.Admissions.{FindSuspended}
use Rattle.response_laws.specs.Expected.{ExpiriesFindSuspended}
use Rattle.response_laws.specs.Ticks.{activates}
use Rattle.response_laws.specs.Ticking.{TicksWithin, ArrivalsFindUndue}
use Rattle.run_windows.specs.declared.costs.RunCosts.{RunCosts}
use Rattle.run_costs.specs.RunRecord.{IsRunRecord}
use Rattle.run_responses.specs.Meeting.{AreCutTasks}
use Rattle.response_text.specs.declared.task_text.Told.{Told}
use Rattle.response_text.specs.declared.task_text.Response.{Response}
use Rattle.response_reasons.specs.declared.reasons.Reason.{Reason}
use Rattle.response_text.specs.Inputs.{IsLoadOf}
use Rattle.response_text.specs.Lines.{keeps_arrivals, keeps_expiries, response_at, response_lines, counter_rows, demand_line, has_open}
use Rattle.response_text.specs.Reasons.{AreReasons}

-- ---- numbers

-- whether task t comes, and the least number within which its windows are, and all but boot's; none where there is none
pub record IsTaskResponse (longest late : ℕ) (costs : Costs) (t : ℕ) (r : Response) : Type 0 where
  pub comes : r.comes ≡ comes costs t
  pub anywhere : IsRunResponse longest late costs t true r.anywhere
  pub behind : IsRunResponse longest late costs t false r.behind

-- those of so many tasks
pub record AreResponses (longest late : ℕ) (costs : Costs) (count : ℕ) (responses : List Response) : Type 0 where
  pub count_is : length responses ≡ count
  pub each : (t : ℕ) → t < count → IsTaskResponse longest late costs t (response_at responses t)

-- the lines of these responses and reasons, this number of ticks and this demand, and whether a deadline is open
abbrev pub told_of : Config → App → List Entry → List Response → List (Option Reason) → (tick demand : Option ℕ) → Told
told_of config app load responses reasons tick demand =
    record {
      text = (response_lines config app load responses reasons (length config.tasks) ++ counter_rows config load tick (length config.counters)) ++ demand_line demand;
      is_open = has_open load responses (length config.tasks);
    }

-- ---- runs

-- In every run of an image whose arrivals keep the load, and which keeps its `work` lines, each task of which a number is told responds within it, where it is
-- made behind boot, or anywhere; it has left if the run has so many instructions, an item and a stretch.
abbrev pub ImageKeepsNumbers : Config → App → Image → List Entry → (longest late : ℕ) → (boot : Bool) → (number : ℕ → Option ℕ) → Type 0
ImageKeepsNumbers config app image load longest late boot number =
    (arrivals : List Arrival) (n h r : ℕ) (cuts : ℕ → Bool) → AreComing (owners_in config) arrivals → KeepDistances load arrivals
    → AreCutTasks config app cuts → KeepsWork config load cuts (run_stages config app (events_of image arrivals n)) → h < length config.tasks → number h ≡ Some r
    → RespondsWithin config app n (longest + late) h r boot (events_of image arrivals n)

-- In every such run each arrival of a task whose line says that it is lossless, and which has arrivals, finds it Suspended, so none is lost: where an event that is no arrival
-- follows, or the run has an item and a stretch more, or the distance is that much above the number.
abbrev pub ImageLosesNone : Config → App → Image → List Entry → (longest late : ℕ) → (number : ℕ → Option ℕ) → Type 0
ImageLosesNone config app image load longest late number =
    (arrivals : List Arrival) (n t r d : ℕ) (cuts : ℕ → Bool) → AreComing (owners_in config) arrivals → KeepDistances load arrivals
    → AreCutTasks config app cuts → KeepsWork config load cuts (run_stages config app (events_of image arrivals n)) → t < length config.tasks → number t ≡ Some r
    → distance load t ≡ Some d → keeps_arrivals config app load t (number t) ≡ true
    → FindSuspended config app n (longest + late) t r d (events_of image arrivals n)

-- In every such run each expiry of the only alarm that activates a task finds it Suspended, where its line says that it is lossless and it has no arrivals: so none
-- is lost, however long the run is.
abbrev pub ImageKeepsExpiries : Config → App → Image → List Entry → (number : ℕ → Option ℕ) → Type 0
ImageKeepsExpiries config app image load number =
    (arrivals : List Arrival) (n t a : ℕ) (cuts : ℕ → Bool) → AreComing (owners_in config) arrivals → KeepDistances load arrivals
    → AreCutTasks config app cuts → KeepsWork config load cuts (run_stages config app (events_of image arrivals n)) → t < length config.tasks
    → keeps_expiries config app load t (number t) ≡ true → a < length config.alarms → activates t (alarm_declaration config a).action ≡ true
    → ExpiriesFindSuspended config app t a (events_of image arrivals n)

-- In every such run, whether or not it keeps the `work` lines, a tick has ended so many counts after each arrival of its counter, if the run has so many
-- instructions, an item and a stretch.
abbrev pub ImageKeepsTicks : Config → Image → List Entry → (longest late : ℕ) → (tick : Option ℕ) → Type 0
ImageKeepsTicks config image load longest late tick =
    (arrivals : List Arrival) (n r : ℕ) → AreComing (owners_in config) arrivals → KeepDistances load arrivals → tick ≡ Some r
    → TicksWithin n (longest + late) r (events_of image arrivals n)

-- Where that number is at most the distance of a counter's arrivals, each of them finds the counter not due, so none is lost, if the run has an item and a stretch more.
abbrev pub ImageServesArrivals : Config → App → Image → List Entry → (longest late : ℕ) → (tick : Option ℕ) → Type 0
ImageServesArrivals config app image load longest late tick =
    (arrivals : List Arrival) (n r c d : ℕ) → AreComing (owners_in config) arrivals → KeepDistances load arrivals → tick ≡ Some r
    → distance load (counter_line c) ≡ Some d → r ≤ d → ArrivalsFindUndue config app n (longest + late) c (events_of image arrivals n)

-- what an image keeps
pub record KeepsResponses (config : Config) (app : App) (load : List Entry) (longest late : ℕ) (responses : List Response) (tick : Option ℕ) (image : Image) : Type 0 where
  pub anywhere : ImageKeepsNumbers config app image load longest late true (λ t. (response_at responses t).anywhere)
  pub behind : ImageKeepsNumbers config app image load longest late false (λ t. (response_at responses t).behind)
  pub lossless : ImageLosesNone config app image load longest late (λ t. (response_at responses t).anywhere)
  pub expiries : ImageKeepsExpiries config app image load (λ t. (response_at responses t).anywhere)
  pub ticks : ImageKeepsTicks config image load longest late tick
  pub served : ImageServesArrivals config app image load longest late tick

-- each image does whose builder promises that its runs are sound, weighed and in pace
abbrev pub RunsKeepResponses : Config → App → List Entry → (longest late : ℕ) → List Response → (tick : Option ℕ) → Type 0
RunsKeepResponses config app load longest late responses tick =
    (image : Image) → Sound config app image → Weighed config app image → InPace config app image → KeepsResponses config app load longest late responses tick image

-- ---- what is told

-- This is told of the responses of all tasks, why some have no number, and of ticks, by the costs of the task code under the load, its longest item and its longest stretch, and of the load's demand;
-- and runs keep it.
pub record HasResponses (config : Config) (app : App) (load : List Entry) (told : Told) : Type 0 where
  pub costs : RunCosts
  pub are_costs : IsRunRecord config app load costs
  pub responses : List Response
  pub are_responses : AreResponses costs.longest costs.late costs.costs (length config.tasks) responses
  pub reasons : List (Option Reason)
  pub are_reasons : AreReasons config app costs.costs responses (length config.tasks) reasons
  pub tick : Option ℕ
  pub is_tick : IsTickNumber costs.longest costs.late costs.costs tick
  pub demand : Option ℕ
  pub is_demand : IsDemand costs.costs demand
  pub kept : RunsKeepResponses config app load costs.longest costs.late responses tick
  pub is : told ≡ told_of config app load responses reasons tick demand

-- the text is a load for the configuration, and this is told of it
pub record HasLoadResponses (config : Config) (app : App) (text : List ℕ) (told : Told) : Type 0 where
  pub load : List Entry
  pub is_load : IsLoadOf config text load
  pub has : HasResponses config app load told

-- the texts are accepted, and this is told of what they mean
pub record IsResponseText (oil src load : List ℕ) (told : Told) : Type 0 where
  pub config : Config
  pub app : App
  pub accepted : AreAccepted oil src config app
  pub has : HasLoadResponses config app load told

-- texts have one such answer at most
abbrev pub OneText : Type 0
OneText = (oil src load : List ℕ) (one other : Told) → IsResponseText oil src load one → IsResponseText oil src load other → one ≡ other
