-- What each event of a run is to the definitions over events.
use Rattle.std.specs.Prelude.{ℕ, Bool, true, false, Option, Some, None}
use Rattle.sloth_base.specs.declared.service.Event.{Event}
use Rattle.sloth_base.specs.declared.service.Event.TheVariants as event
use Rattle.sloth_base.specs.Owners.{counter_line}

-- the start of the system
abbrev pub is_boot : Event → Bool
is_boot event.Boot = true
is_boot _ = false

-- the line whose arrival an event admits: a task's, or that of a counter that it makes due
abbrev pub admitted_line : Event → Option ℕ
admitted_line (event.Admit t) = Some t
admitted_line (event.Due c) = Some (counter_line c)
admitted_line _ = None

-- the task that an event enters
abbrev pub entered_task : Event → Option ℕ
entered_task (event.Enter t) = Some t
entered_task _ = None

-- the task of a `run` or `call` event
abbrev pub working_task : Event → Option ℕ
working_task (event.Run t func item result) = Some t
working_task (event.Call t served status) = Some t
working_task _ = None

-- the event is a `call`
abbrev pub is_call : Event → Bool
is_call (event.Call t served status) = true
is_call _ = false

-- the task whose service an event is: one that goes on, or leaves
abbrev pub served_task : Event → Option ℕ
served_task (event.Call t served status) = Some t
served_task (event.Left t served) = Some t
served_task _ = None

-- the task that an event names
abbrev pub named_task : Event → Option ℕ
named_task event.Boot = None
named_task event.Idle = None
named_task event.Stray = None
named_task (event.Due c) = None
named_task (event.Tick c) = None
named_task (event.Admit t) = Some t
named_task (event.Enter t) = Some t
named_task (event.Run t func item result) = Some t
named_task (event.Call t served status) = Some t
named_task (event.Left t served) = Some t
named_task (event.Back t) = Some t

-- an event of one instruction alone; each other may span several
abbrev pub is_single : Event → Bool
is_single event.Idle = true
is_single (event.Run t func item result) = true
is_single (event.Admit t) = true
is_single (event.Due c) = true
is_single _ = false
