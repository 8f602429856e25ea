-- What the command `response` tells of one task.
use Rattle.std.specs.Prelude.{ℕ, ◌==◌, ◌&&◌, ◌≡◌, not, Bool, true, false, List, ◌++◌, Option, Some, None}
use Rattle.sloth_base.specs.declared.config.Config.{Config}
use Rattle.sloth_base.specs.declared.app.App.{App}
use Rattle.sloth_source.specs.Texts.{AreAccepted}
use Rattle.sloth_source.specs.TaskNames.{task_named}
use Rattle.load_text.specs.declared.load_line.Entry.{Entry}
use Rattle.load_text.specs.Loads.{deadline}
use Rattle.run_windows.specs.declared.costs.Longest.{Longest}
use Rattle.run_windows.specs.Costs.{comes}
use Rattle.run_windows.specs.Longest.{number_of, IsLongest}
use Rattle.run_windows.specs.declared.costs.RunCosts.{RunCosts}
use Rattle.run_costs.specs.RunRecord.{IsRunRecord}
use Rattle.response_text.specs.declared.task_text.Told.{Told}
use Rattle.response_text.specs.declared.task_text.Response.{Response}
use Rattle.response_reasons.specs.declared.reasons.Reason.{Reason}
use Rattle.response_text.specs.Inputs.{IsLoadOf}
use Rattle.response_text.specs.Lines.{is_open, response_line}
use Rattle.response_text.specs.declared.part_lines.PartNames.{PartNames}
use Rattle.response_text.specs.PartNames.{ArePartNames}
use Rattle.response_text.specs.Parts.{has_parts, IsPartText}
use Rattle.response_text.specs.Reasons.{IsReason}

-- the response that these windows tell, of a task that comes or never does
abbrev pub response_of : (comes : Bool) → (anywhere behind : Option Longest) → Response
response_of comes anywhere behind = record { comes = comes; anywhere = number_of anywhere; behind = number_of behind }

abbrev pub same_number : Option ℕ → Option ℕ → Bool
same_number (Some n) (Some m) = n == m
same_number None None = true
same_number n m = false

-- behind boot parts are shown where that number is another one
abbrev pub shows_behind : (anywhere behind : Option Longest) → Bool
shows_behind anywhere behind = has_parts behind && not (same_number (number_of anywhere) (number_of behind))

-- the parts of a longest window of all, and those of one of all but boot's
pub record AreBothParts (config : Config) (app : App) (costs : RunCosts) (names : PartNames) (t : ℕ) (anywhere behind : Option Longest) (text : List ℕ) : Type 0 where
  pub parts : List ℕ
  pub are_parts : IsPartText config app costs names t (has_parts anywhere) anywhere parts
  pub further : List ℕ
  pub are_further : IsPartText config app costs names t (shows_behind anywhere behind) behind further
  pub is : text ≡ parts ++ further

-- the line of a task, and such parts
abbrev pub task_lines : Config → App → List Entry → (t : ℕ) → Response → Option Reason → (parts : List ℕ) → Told
task_lines config app load t r why parts = record { text = response_line config app load t r why ++ parts; is_open = is_open r (deadline load t) }

-- This is told of the response of task t: its line, with the reason where it has no number, and the parts of longest windows, which add up to its numbers,
-- with what each of them is.
pub record HasParts (config : Config) (app : App) (load : List Entry) (t : ℕ) (told : Told) : Type 0 where
  pub costs : RunCosts
  pub are_costs : IsRunRecord config app load costs
  pub anywhere : Option Longest
  pub is_longest : IsLongest costs.longest costs.late costs.costs t true anywhere
  pub behind : Option Longest
  pub is_behind : IsLongest costs.longest costs.late costs.costs t false behind
  pub why : Option Reason
  pub is_why : IsReason config app costs.costs t (response_of (comes costs.costs t) anywhere behind) why
  pub names : PartNames
  pub are_names : ArePartNames config app load costs names
  pub parts : List ℕ
  pub are_parts : AreBothParts config app costs names t anywhere behind parts
  pub is : told ≡ task_lines config app load t (response_of (comes costs.costs t) anywhere behind) why parts

-- it is told of the task, if there is one
abbrev pub HasPartsOf : Config → App → List Entry → (task : Option ℕ) → Option Told → Type 0
HasPartsOf config app load (Some t) (Some told) = HasParts config app load t told
HasPartsOf config app load (Some t) None = ⊥
HasPartsOf config app load None (Some told) = ⊥
HasPartsOf config app load None None = Unit {0}

-- the text is a load for the configuration, and this is told of it
pub record HasLoadParts (config : Config) (app : App) (text name : List ℕ) (told : Option Told) : Type 0 where
  pub load : List Entry
  pub is_load : IsLoadOf config text load
  pub has : HasPartsOf config app load (task_named config name) told

-- the texts are accepted, and this is told of the task of this name; nothing where no task has it
pub record IsTaskText (oil src load name : List ℕ) (told : Option Told) : Type 0 where
  pub config : Config
  pub app : App
  pub accepted : AreAccepted oil src config app
  pub has : HasLoadParts config app load name told

-- texts have one such answer at most
abbrev pub OneTaskText : Type 0
OneTaskText = (oil src load name : List ℕ) (one other : Option Told) → IsTaskText oil src load name one → IsTaskText oil src load name other → one ≡ other
