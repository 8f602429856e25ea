-- What is printed of a whole system at a count of a run.
use Rattle.std.specs.Prelude.{ℕ, zero, suc, ◌+◌, ◌==◌, Bool, if◌then◌else◌, List, [], ◌++◌, codes, decimal, get_or, length}
use Rattle.sloth_base.specs.Limits.{alarm_limit}
use Rattle.sloth_base.specs.declared.image.Image.{Image}
use Rattle.osek_scheduler.specs.declared.state.TaskState.{TaskState}
use Rattle.osek_scheduler.specs.declared.state.TaskState.TheVariants as mode
use Rattle.sloth_inspect.specs.declared.service_words.ServiceWords.{ServiceWords}
use Rattle.sloth_runner.specs.declared.task_states.Seen.{Seen}

-- the word of an Active task
abbrev pub active_text : (runs : Bool) → List ℕ
active_text runs = if runs then codes "running" else codes "active"

-- the word of a state; that of the running task, the first of the Active ones, is `running`
abbrev pub shown_state : (runs : Bool) → TaskState → List ℕ
shown_state runs mode.Suspended = codes "suspended"
shown_state runs mode.Ready = codes "ready"
shown_state runs mode.Active = active_text runs
shown_state runs (mode.Waiting mask) = codes "waiting " ++ decimal mask

-- the line of a task, by its name
unfoldable pub state_line : (name : List ℕ) → (runs : Bool) → TaskState → List ℕ
state_line name runs state = name ++ codes " " ++ shown_state runs state ++ codes "\n"

-- the line of the events that are set, if some are
unfoldable pub events_line : (mask : ℕ) → List ℕ
events_line mask = if mask == 0 then [] else codes "  events " ++ decimal mask ++ codes "\n"

-- both
unfoldable pub task_part : Image → Seen → ServiceWords → ℕ → List ℕ
task_part image seen words task =
    state_line (get_or image.tasks task []) (seen.running == task + 1) (get_or seen.tasks task mode.Suspended) ++ events_line (get_or words.events task 0)

-- those of the first tasks, so many of them
unfoldable pub task_parts : Image → Seen → ServiceWords → ℕ → List ℕ
task_parts image seen words zero = []
task_parts image seen words (suc k) = task_parts image seen words k ++ task_part image seen words k

-- the line of a counter: its name and its value
unfoldable pub counter_line : (name : List ℕ) → (value : ℕ) → List ℕ
counter_line name value = codes "counter " ++ name ++ codes " " ++ decimal value ++ codes "\n"

-- those of the first counters
unfoldable pub counter_lines : Image → ServiceWords → ℕ → List ℕ
counter_lines image words zero = []
counter_lines image words (suc k) = counter_lines image words k ++ counter_line (get_or image.counters k []) (get_or words.counters k 0)

-- the line of an alarm that is in use: its number and the ticks that it has left
unfoldable pub alarm_line : (alarm left : ℕ) → List ℕ
alarm_line alarm left = if left == 0 then [] else codes "alarm " ++ decimal alarm ++ codes " " ++ decimal left ++ codes "\n"

-- those of the first alarms
unfoldable pub alarm_lines : ServiceWords → ℕ → List ℕ
alarm_lines words zero = []
alarm_lines words (suc k) = alarm_lines words k ++ alarm_line k (get_or words.alarms k 0)

-- each task with its events, each counter, and each alarm that is in use
abbrev pub system_text : Image → Seen → ServiceWords → List ℕ
system_text image seen words =
    task_parts image seen words (length image.tasks) ++ counter_lines image words (length image.counters) ++ alarm_lines words alarm_limit
