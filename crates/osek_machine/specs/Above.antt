-- Who stands above a task in the order of the tasks and counters that are due.
use Rattle.std.specs.Prelude.{ℕ, ◌-◌, ◌&&◌, ◌||◌, Bool, length, ltb}
use Rattle.sloth_base.specs.Owners.{first_counter_line, is_counter_line, owners_in}
use Rattle.sloth_base.specs.declared.config.Config.{Config}
use Rattle.osek_scheduler.specs.State.{System, task, counter}
use Rattle.osek_scheduler.specs.Priority.{rank}
use Rattle.osek_scheduler.specs.Next.{is_ready}

-- task u is Ready and stands above task t in the order of the tasks that are due
abbrev pub is_above : Config → System → (t u : ℕ) → Bool
is_above config s t u = ltb u (length config.tasks) && (is_ready (task s u).state && ltb (rank config s t) (rank config s u))

-- the line is that of a due counter, which stands above all tasks
abbrev pub is_due_line : Config → System → ℕ → Bool
is_due_line config s line = is_counter_line (owners_in config) line && (counter s (line - first_counter_line)).due

-- what stands above task t has this line: it is a task's, or a counter's
abbrev pub is_line_above : Config → System → (t line : ℕ) → Bool
is_line_above config s t line = is_above config s t line || is_due_line config s line
