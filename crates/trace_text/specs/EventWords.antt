-- The words of events, as they are printed and as they are read.
use Rattle.std.specs.Prelude.{ℕ, List, ◌++◌, decimal, codes, slice_get, unwrap_or, bytes_eq, if◌then◌else◌, Option, Some, None}
use Rattle.sloth_base.specs.declared.service.Event.{Event}
use Rattle.sloth_base.specs.declared.service.Event.TheVariants as event
use Rattle.sloth_base.specs.ServiceCodes.{service_name}

-- the name of a number, or `-` where it names nothing, as 4,294,967,295
abbrev pub name_of : List (List ℕ) → ℕ → List ℕ
name_of names number = unwrap_or (slice_get names number) (codes "-")

-- an event, with the names of tasks, functions and counters
abbrev pub event_text : (tasks functions counters : List (List ℕ)) → Event → List ℕ
event_text tasks functions counters event.Boot = codes "boot"
event_text tasks functions counters (event.Admit task) = codes "admit " ++ name_of tasks task
event_text tasks functions counters (event.Enter task) = codes "enter " ++ name_of tasks task
event_text tasks functions counters (event.Run task function item result) =
    codes "run " ++ name_of tasks task ++ codes " " ++ name_of functions function ++ codes " " ++ decimal item ++ codes " " ++ decimal result
event_text tasks functions counters (event.Call task called status) =
    codes "call " ++ name_of tasks task ++ codes " " ++ service_name called ++ codes " " ++ decimal status
event_text tasks functions counters (event.Left task called) = codes "left " ++ name_of tasks task ++ codes " " ++ service_name called
event_text tasks functions counters (event.Back task) = codes "back " ++ name_of tasks task
event_text tasks functions counters event.Idle = codes "idle"
event_text tasks functions counters event.Stray = codes "stray"
event_text tasks functions counters (event.Due counter) = codes "admit " ++ name_of counters counter
event_text tasks functions counters (event.Tick counter) = codes "tick " ++ name_of counters counter

-- the number of an event's kind, in the order of the summary; a counter that becomes due is admitted as a task is
abbrev pub kind_of : Event → ℕ
kind_of event.Boot = 0
kind_of (event.Admit task) = 1
kind_of (event.Due counter) = 1
kind_of (event.Enter task) = 2
kind_of (event.Run task function item result) = 3
kind_of (event.Call task service status) = 4
kind_of (event.Left task service) = 5
kind_of (event.Back task) = 6
kind_of event.Idle = 7
kind_of event.Stray = 8
kind_of (event.Tick counter) = 9

-- an event that is one word
unfoldable pub bare_in : List ℕ → Option Event
bare_in text =
    if bytes_eq text (codes "boot") then Some event.Boot
    else if bytes_eq text (codes "idle") then Some event.Idle
    else if bytes_eq text (codes "stray") then Some event.Stray
    else None

-- an event of a task alone, by its first word
unfoldable pub single_in : List ℕ → ℕ → Option Event
single_in kind task =
    if bytes_eq kind (codes "enter") then Some (event.Enter task)
    else if bytes_eq kind (codes "back") then Some (event.Back task)
    else None
