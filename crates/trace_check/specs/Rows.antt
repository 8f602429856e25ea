-- The rows of the events that may come next behind a walk, found one after the other.
use Rattle.std.specs.Prelude.{ℕ, zero, suc, ◌==◌, ◌&&◌, List, [], ◌++◌, Bool, true, not, cond, is_some, length, get_or, ltb, option_to_list, Option, Some, None}
use Rattle.sloth_base.specs.declared.service.Event.{Event}
use Rattle.sloth_base.specs.declared.service.Event.TheVariants as event
use Rattle.sloth_base.specs.Events.{served_task}
use Rattle.sloth_base.specs.MemoryMap.{line_count}
use Rattle.osek_scheduler.specs.State.{task}
use Rattle.osek_scheduler.specs.Priority.{is_active}
use Rattle.osek_scheduler.specs.Meaning.{on_some, if_true}
use Rattle.osek_scheduler.specs.Next.{next_state}
use Rattle.osek_machine.specs.Above.{is_line_above}
use Rattle.trace_check.specs.Walk.{Walk}
use Rattle.trace_check.specs.MachineEvents.{item_event, service_event}
use Rattle.trace_check.specs.declared.rows.NextEvent.{NextEvent}
use Rattle.trace_check.specs.declared.rows.Kind.{Kind}
use Rattle.trace_check.specs.declared.rows.Kind.TheVariants as kind

-- ---- limits

-- the lesser of a limit, if there is one, and a moment
abbrev pub lesser_limit : Option ℕ → ℕ → Option ℕ
lesser_limit None moment = Some moment
lesser_limit (Some limit) moment = Some (cond (ltb moment limit) moment limit)

-- the least moment of the lines of a row, of the first n lines
unfoldable pub least_moment : ℕ → (ℕ → Bool) → List ℕ → Option ℕ
least_moment zero row moments = None
least_moment (suc n) row moments = cond (row n) (lesser_limit (least_moment n row moments) (get_or moments n 0)) (least_moment n row moments)

-- The limit of a service of task t: it passes over what stands above t, which must have come behind its first count.
abbrev pub task_limit : Walk → ℕ → Option ℕ
task_limit w t =
    cond (ltb t (length w.machine.config.tasks) && is_active (task w.machine.system t).state)
    (least_moment line_count (is_line_above w.machine.config w.machine.system t) w.moments)
    None

abbrev pub served_limit : Walk → Option ℕ → Option ℕ
served_limit w None = None
served_limit w (Some t) = task_limit w t

-- the limit of an event
abbrev pub event_limit : Walk → Event → Option ℕ
event_limit w e = served_limit w (served_task e)

-- ---- rows

-- there is a count before the limit
abbrev pub leaves_count : Option ℕ → Bool
leaves_count None = true
leaves_count (Some limit) = not (limit == 0)

-- the row of an event that has a next state
abbrev pub next_event : Walk → Event → Option NextEvent
next_event w e =
    if_true (is_some (next_state w.machine.config w.machine.app e w.machine.system) && leaves_count (event_limit w e))
    (Some (record { event = e; limit = event_limit w e }))

-- its rows, one or none
abbrev pub rows_of : Walk → Option Event → List NextEvent
rows_of w e = option_to_list (on_some e (next_event w))

-- those of task t, admissions aside
abbrev pub task_rows : Walk → ℕ → List NextEvent
task_rows w t =
    rows_of w (Some (event.Enter t)) ++ (rows_of w (Some (event.Back t))
    ++ (rows_of w (item_event w.machine.app t w.machine.system) ++ rows_of w (service_event w.machine.config w.machine.app t w.machine.system)))

-- the rows of the first numbers, so many of them
unfoldable pub rows_below : ℕ → (ℕ → List NextEvent) → List NextEvent
rows_below zero rows = []
rows_below (suc n) rows = rows_below n rows ++ rows n

-- an event that tells of nothing but a task or a counter
abbrev pub event_of : Kind → ℕ → Event
event_of kind.Tick k = event.Tick k
event_of kind.Admit k = event.Admit k
event_of kind.Due k = event.Due k

-- all rows: the start, tasks, ticks, idle, and last the admissions
abbrev pub all_rows : Walk → List NextEvent
all_rows w =
    let tasks = length w.machine.config.tasks in
    let counters = length w.machine.config.counters in
    rows_of w (Some event.Boot) ++ (rows_below tasks (task_rows w) ++ (rows_below counters (λ c. rows_of w (Some (event.Tick c)))
    ++ (rows_of w (Some event.Idle) ++ (rows_below tasks (λ t. rows_of w (Some (event.Admit t))) ++ rows_below counters (λ c. rows_of w (Some (event.Due c)))))))
