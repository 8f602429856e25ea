-- What the command `response` tells of a run.
use Rattle.std.specs.Prelude.{ℕ, ◌<◌, ◌≤◌, ◌≡◌, ◌⊎◌, Bool, true, false, List, length, IfSome, Option, Decides}
use Rattle.sloth_base.specs.declared.config.Config.{Config}
use Rattle.sloth_base.specs.declared.app.App.{App}
use Rattle.sloth_base.specs.declared.service.Arrival.{Arrival}
use Rattle.sloth_base.specs.declared.service.Stamped.{Stamped}
use Rattle.sloth_base.specs.declared.image.Image.{Image}
use Rattle.sloth_base.specs.declared.refusal.BuildError.{BuildError}
use Rattle.sloth_base.specs.declared.refusal.BuildError.TheVariants as error
use Rattle.sloth_base.specs.declared.refusal.Refusal.{Refusal}
use Rattle.sloth_base.specs.DeclaredNames.{task_names, counter_names}
use Rattle.sloth_base.specs.Order.{IsLeast}
use Rattle.sloth_source.specs.Texts.{AreAccepted}
use Rattle.trace_text.specs.ArrivalsText.{ArrivalsFault}
use Rattle.run_inputs.specs.Inputs.{AreArrivalsOf}
use Rattle.load_text.specs.declared.load_line.Entry.{Entry}
use Rattle.load_text.specs.Loads.{KeepDistances}
use Rattle.sim_induction.specs.Sound.{events_of}
use Rattle.run_counts.specs.Stages.{run_stages}
use Rattle.response_laws.specs.Works.{KeepsWork}
use Rattle.run_windows.specs.declared.costs.RunCosts.{RunCosts}
use Rattle.run_costs.specs.RunRecord.{IsRunRecord}
use Rattle.response_text.specs.declared.task_text.Response.{Response}
use Rattle.response_text.specs.Inputs as inputs
use Rattle.response_text.specs.Inputs.{IsLoadOf}
use Rattle.response_text.specs.Lines.{response_at}
use Rattle.response_text.specs.ResponseText.{AreResponses}
use Rattle.run_responses.specs.TickWindows.{IsTickNumber}
use Rattle.symbol_build.specs.SymbolFiles.{IsBuilt}
use Rattle.run_load.specs.declared.lines.ToldRun.{ToldRun}
use Rattle.run_load.specs.RunLines.{cuts_of, told_run}
use Rattle.run_load.specs.Seen.{longest_seen}
use Rattle.run_load.specs.Ticks.{longest_tick_seen}

-- ---- what is told

-- The run keeps the load: its arrivals the distances, and its rounds the `work` lines. These are the premises under which runs keep the numbers of `response`.
abbrev pub KeepsLoad : Config → App → List Entry → (cuts : ℕ → Bool) → List Arrival → List Stamped → Type 0
KeepsLoad config app load cuts arrivals events = KeepDistances load arrivals × KeepsWork config load cuts (run_stages config app events)

-- the longest responses of a task that are seen are within its numbers
pub record IsSeenWithin (config : Config) (app : App) (events : List Stamped) (t : ℕ) (r : Response) : Type 0 where
  pub anywhere : IfSome r.anywhere (λ most. longest_seen config app t true events ≤ most)
  pub behind : IfSome r.behind (λ most. longest_seen config app t false events ≤ most)

-- This is told of a run of n instructions of an image: by the responses of all tasks and the number of ticks, and it says that the run keeps the load exactly
-- where it does. Where it does, no response and no tick that is seen is longer than its number.
pub record HasToldRun (config : Config) (app : App) (load : List Entry) (arr : List ℕ) (arrivals : List Arrival) (image : Image) (n : ℕ) (told : ToldRun) : Type 0 where
  pub costs : RunCosts
  pub are_costs : IsRunRecord config app load costs
  pub responses : List Response
  pub are_responses : AreResponses costs.longest costs.late costs.costs (length config.tasks) responses
  pub tick : Option ℕ
  pub is_tick : IsTickNumber costs.longest costs.late costs.costs tick
  pub is : told ≡ told_run config app load costs.costs arr arrivals (events_of image arrivals n) responses tick
  pub exact : Decides told.keeps (KeepsLoad config app load (cuts_of costs.costs) arrivals (events_of image arrivals n))
  pub within : told.keeps ≡ true → (t : ℕ) → t < length config.tasks → IsSeenWithin config app (events_of image arrivals n) t (response_at responses t)
  pub ticks_within : told.keeps ≡ true → (c : ℕ) → IfSome tick (λ most. longest_tick_seen c (events_of image arrivals n) ≤ most)

-- the texts are accepted, and this is told of n instructions of an image which is built of what they mean, with these arrivals under this load
pub record IsRunText (oil src load arr : List ℕ) (n : ℕ) (told : ToldRun) : Type 0 where
  pub config : Config
  pub app : App
  pub accepted : AreAccepted oil src config app
  pub image : Image
  pub built : IsBuilt config app image
  pub entries : List Entry
  pub is_load : IsLoadOf config load entries
  pub arrivals : List Arrival
  pub are_arrivals : AreArrivalsOf (task_names config) (counter_names config) arr arrivals
  pub has : HasToldRun config app entries arr arrivals image n told

-- ---- refusals

-- the configuration, the task code and the load are accepted, and this is the least fault of the arrivals
pub record IsArrivalsRefusal (oil src load arr : List ℕ) (refusal : Refusal) : Type 0 where
  pub config : Config
  pub app : App
  pub accepted : AreAccepted oil src config app
  pub entries : List Entry
  pub is_load : IsLoadOf config load entries
  pub least : IsLeast (ArrivalsFault (task_names config) (counter_names config) arr) refusal

-- The texts are refused so: the configuration, the task code or the load, or else the arrivals.
abbrev pub IsRefusal : (oil src load arr : List ℕ) → Refusal → Type 0
IsRefusal oil src load arr refusal = inputs.IsRefusal oil src load refusal ⊎ IsArrivalsRefusal oil src load arr refusal

-- why the texts were not read: want of memory, or the refusal
abbrev pub RunErrorIs : (oil src load arr : List ℕ) → BuildError → Type 0
RunErrorIs oil src load arr (error.Refused refusal) = IsRefusal oil src load arr refusal
RunErrorIs oil src load arr error.Memory = Unit {0}
