-- The state of the abstract scheduler: tasks, their registers, frames, events and resources, the data, counters and alarms.
use Rattle.std.specs.Prelude.{ℕ, ◌<◌, List, [], Bool, false, length, get_or, set, map, replicate}
use Rattle.sloth_base.specs.declared.config.Config.{Config}
use Rattle.sloth_base.specs.declared.app.App.{App}
use Rattle.sloth_base.specs.Named.{body_of, function}
use Rattle.osek_scheduler.specs.declared.state.Alarm.{Alarm}
use Rattle.osek_scheduler.specs.declared.state.Counter.{Counter}
use Rattle.osek_scheduler.specs.declared.state.TaskState.{TaskState}
use Rattle.osek_scheduler.specs.declared.state.TaskState.TheVariants as mode

-- a function that was entered: its number, the number of its next item, and the words of its frame
pub record Frame : Type 0 where
  pub func : ℕ
  pub item : ℕ
  pub words : List ℕ

-- a task as it stands
pub record Task : Type 0 where
  pub state : TaskState
  -- the 25 words x5 to x29
  pub registers : List ℕ
  -- the innermost first; with none the next entry starts the task anew
  pub frames : List Frame
  -- the mask of the events that are set
  pub events : ℕ
  -- the resources that it holds, in the order taken
  pub held : List ℕ
  -- it has its internal resource, so it runs at the highest task priority
  pub raised : Bool
  -- its Schedule has not come back yet
  pub owed : Bool

-- the counters and the alarms as they stand, each by its number
pub record Clock : Type 0 where
  pub counters : List Counter
  pub alarms : List Alarm

-- the system as it stands
pub record System : Type 0 where
  -- by task number
  pub tasks : List Task
  -- by symbol number: the bytes of the data
  pub symbols : List (List ℕ)
  pub booted : Bool
  -- the tasks that admitted arrivals made Ready since the last event of another kind
  pub fresh : List ℕ
  pub clock : Clock

-- the registers of a task that starts
abbrev pub zero_registers : List ℕ
zero_registers = replicate 25 0

-- a task that was not activated yet
abbrev pub sleeping_task : Task
sleeping_task = record { state = mode.Suspended; registers = zero_registers; frames = []; events = 0; held = []; raised = false; owed = false }

-- a task by its number
abbrev pub task : System → ℕ → Task
task s t = get_or s.tasks t sleeping_task

-- the system with a task replaced
abbrev pub with_task : System → ℕ → Task → System
with_task s t new = record s { tasks = set s.tasks t new }

-- ---- counters and alarms

-- what stands in the place of a counter that is not there; each counter is so as the system starts
abbrev pub no_counter : Counter
no_counter = record { value = 0; due = false }

-- a counter by its number
abbrev pub counter : System → ℕ → Counter
counter s c = get_or s.clock.counters c no_counter

-- the system with a counter replaced
abbrev pub with_counter : System → ℕ → Counter → System
with_counter s c new = record s { clock = record s.clock { counters = set s.clock.counters c new } }

-- what stands in the place of an alarm that is not there
abbrev pub no_alarm : Alarm
no_alarm = record { left = 0; cycle = 0 }

-- an alarm by its number
abbrev pub alarm : System → ℕ → Alarm
alarm s a = get_or s.clock.alarms a no_alarm

-- the system with an alarm replaced
abbrev pub with_alarm : System → ℕ → Alarm → System
with_alarm s a new = record s { clock = record s.clock { alarms = set s.clock.alarms a new } }

-- as the system starts: no counter has counted, and each alarm has its declared ticks
abbrev pub opening_clock : Config → Clock
opening_clock config = record {
  counters = map (λ _. no_counter) config.counters;
  alarms = map (λ d. record { left = d.time; cycle = d.cycle }) config.alarms;
}

-- ---- the opening

-- a task has a body
abbrev pub HasBody : App → ℕ → Type 0
HasBody app t = body_of app.funcs t < length app.funcs

-- a function as it is entered
abbrev pub entry_frame : App → ℕ → Frame
entry_frame app f = record { func = f; item = 0; words = replicate (function app f).frame_words 0 }

-- before the system has started
abbrev pub opening : Config → App → System
opening config app = record {
  tasks = map (λ _. sleeping_task) config.tasks;
  symbols = map (λ s. s.bytes) app.symbols;
  booted = false;
  fresh = [];
  clock = opening_clock config;
}
