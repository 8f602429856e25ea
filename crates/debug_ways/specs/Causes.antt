-- Where a way through a run ends, and why.
use Rattle.std.specs.Prelude.{ℕ, zero, suc, ◌+◌, ◌==◌, ◌&&◌, ◌||◌, nat_le, nat_lt, not, List, Option, None, Some, Bool, true, false, is_some, if◌then◌else◌}
use Rattle.std.specs.Option.{unwrap_or}
use Rattle.debug_ways.specs.declared.standing.Look.{Look}
use Rattle.debug_ways.specs.Runs.{Run}
use Rattle.debug_ways.specs.Ways.{Tests, ahead, back}
use Rattle.debug_ways.specs.declared.points.Point.{Point}
use Rattle.debug_ways.specs.declared.points.Watch.{Watch}
use Rattle.debug_ways.specs.declared.standing.Target.{Target}
use Rattle.debug_ways.specs.declared.standing.Target.TheVariants as targets
use Rattle.debug_ways.specs.declared.standing.Cause.{Cause}
use Rattle.debug_ways.specs.declared.standing.Cause.TheVariants as causes
use Rattle.debug_ways.specs.declared.standing.Passage.{Passage}
use Rattle.debug_ways.specs.Points.{breakpoint_kind, watched}

-- what a way stops at: points, a target, and addresses at which the target is none
pub record Wish : Type 0 where
  pub points : List Point
  pub target : Target
  pub from : ℕ
  pub to : ℕ

-- the thread that runs at a count: 1 is the machine itself, and a task's is its number and 2 more
abbrev pub running_thread : Look → ℕ
running_thread look = look.running + 1

-- the count is one of a thread's own: in no stretch, and the thread runs
abbrev pub is_own : ℕ → Look → Bool
is_own thread look = not look.masked && running_thread look == thread

-- a count is the target: none, each one, the own ones of a thread, those that are not in the idle loop, or those at which a service of a thread is over or its address is met again
abbrev pub is_target : Target → Look → Bool
is_target targets.Nothing look = false
is_target targets.Each look = true
is_target (targets.Own thread) look = is_own thread look
is_target targets.Busy look = not (is_own 1 look)
is_target (targets.Behind thread pc) look = is_own thread look || look.pc == pc

-- a way reaches its target
abbrev pub is_reached : Wish → Look → Bool
is_reached wish look = is_target wish.target look && not (nat_le wish.from look.pc && nat_lt look.pc wish.to)

abbrev pub is_stop : Wish → Look → Bool
is_stop wish look = is_some (breakpoint_kind wish.points look.pc) || is_reached wish look

abbrev pub is_guard : Wish → Look → Bool
is_guard wish look = is_some (watched wish.points look.access)

-- the tests of a way
abbrev pub wish_tests : Wish → Tests
wish_tests wish = record { stops = is_stop wish; guards = is_guard wish }

-- ---- why it ends

-- a watchpoint's cause
abbrev pub watch_cause : Watch → Cause
watch_cause watch = causes.Watch watch.kind watch.address

-- the watchpoint that is met, or else another cause
abbrev pub cause_by_watch : Option Watch → Cause → Cause
cause_by_watch None cause = cause
cause_by_watch (Some watch) cause = watch_cause watch

-- a breakpoint goes before the target
abbrev pub cause_by_break : Option ℕ → (reached : Bool) → Option Cause
cause_by_break (Some kind) reached = Some (causes.Break kind)
cause_by_break None reached = if reached then Some causes.Step else None

-- why a way ends at a count but for watchpoints, if it does
abbrev pub stop_cause : Wish → Look → Option Cause
stop_cause wish look = cause_by_break (breakpoint_kind wish.points look.pc) (is_reached wish look)

-- the watchpoint that the access of the count before meets
abbrev pub watched_before : Wish → Run → ℕ → Option Watch
watched_before wish run zero = None
watched_before wish run (suc count) = watched wish.points (run.look count).access

-- why a way forward ends that crosses its first access: a breakpoint, the target, a watchpoint, or the end of the run
abbrev pub cause_forward : Wish → Run → (from to : ℕ) → Cause
cause_forward wish run from to =
    if to == from then causes.End
    else unwrap_or (stop_cause wish (run.look to)) (cause_by_watch (watched wish.points (run.look to).access) causes.End)

-- why a way back ends that crosses its first access
abbrev pub cause_backward : Wish → Run → (from to : ℕ) → Cause
cause_backward wish run from to =
    if from == 0 then causes.Begin
    else unwrap_or (stop_cause wish (run.look to)) (cause_by_watch (watched_before wish run to) causes.Begin)

-- the way forward from a count
abbrev pub passage_ahead : Wish → Run → ℕ → Passage
passage_ahead wish run from = record {
  count = ahead run (wish_tests wish) from;
  cause = cause_by_watch (watched wish.points (run.look from).access) (cause_forward wish run from (ahead run (wish_tests wish) from));
}

-- the way back from a count
abbrev pub passage_back : Wish → Run → ℕ → Passage
passage_back wish run from = record {
  count = back run (wish_tests wish) from;
  cause = cause_by_watch (watched_before wish run from) (cause_backward wish run from (back run (wish_tests wish) from));
}

-- the way from a count
abbrev pub passage : (backwards : Bool) → Wish → Run → ℕ → Passage
passage backwards wish run from = if backwards then passage_back wish run from else passage_ahead wish run from
