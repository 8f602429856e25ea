-- What a count of a run shows of threads.
use Rattle.std.specs.Prelude.{ℕ, ◌==◌, nat_lt, Option, None, Some, if◌then◌else◌}
use Rattle.std.specs.Option.{unwrap_or}
use Rattle.debug_ways.specs.Runs.{Run}
use Rattle.debug_ways.specs.Causes.{running_thread}
use Rattle.debug_ways.specs.declared.standing.Seen.{Seen}
use Rattle.debug_ways.specs.declared.standing.View.{View}
use Rattle.debug_ways.specs.declared.standing.Standing.{Standing}

-- the lesser one
abbrev pub lesser : ℕ → ℕ → ℕ
lesser one other = if nat_lt other one then other else one

-- what the last count of the run shows of tasks that finds interrupts open
abbrev pub open_seen : Run → Option ℕ → Option Seen
open_seen run None = None
open_seen run (Some count) =
    if nat_lt run.end count then None else Some (record { count = count; running = (run.look count).running; states = run.states count })

abbrev pub last_seen : Run → ℕ → Option Seen
last_seen run count = open_seen run (run.look count).open_count

-- what a count shows of threads: of the machine its level and mstatus
abbrev pub count_view : Run → ℕ → View
count_view run count = record {
  count = count;
  level = unwrap_or (run.register count 1 36) 0;
  mstatus = unwrap_or (run.register count 1 33) 0;
  seen = last_seen run count;
}

-- the thread whose registers are shown
abbrev pub shown_thread : Run → Standing → ℕ
shown_thread run standing = if standing.general == 0 then running_thread (run.look standing.count) else standing.general
