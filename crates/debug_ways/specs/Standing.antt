-- Where a session stands but for its points, and what steps and continues make of it.
use Rattle.std.specs.Prelude.{ℕ, ◌==◌, ◌&&◌, ◌||◌, nat_le, nat_lt, not, List, Bool, true, false, is_some, is_none, if◌then◌else◌}
use Rattle.debug_ways.specs.declared.standing.Look.{Look}
use Rattle.debug_ways.specs.Runs.{Run}
use Rattle.debug_ways.specs.Ways.{ahead}
use Rattle.debug_ways.specs.declared.points.Point.{Point}
use Rattle.debug_ways.specs.declared.standing.Told.{Told}
use Rattle.debug_ways.specs.declared.standing.Standing.{Standing}
use Rattle.debug_ways.specs.declared.standing.Step.{Step}
use Rattle.debug_ways.specs.declared.standing.Target.{Target}
use Rattle.debug_ways.specs.declared.standing.Target.TheVariants as targets
use Rattle.debug_ways.specs.declared.standing.Cause.{Cause}
use Rattle.debug_ways.specs.declared.standing.Cause.TheVariants as causes
use Rattle.debug_ways.specs.declared.standing.Passage.{Passage}
use Rattle.debug_ways.specs.Points.{breakpoint_kind}
use Rattle.debug_ways.specs.Causes.{Wish, running_thread, is_own, wish_tests, passage}

-- a session that has begun
abbrev pub begun : Standing
begun = record {
  count = 0;
  general = 0;
  step = 0;
  stopped = 1;
  told = record { cause = causes.Step; thread = 0; other = false };
  interrupted = false;
  met = false;
  over = false;
}

-- the thread that a stop reply names, where this is seen of the count
abbrev pub told_thread : Told → Look → ℕ
told_thread told look = if told.thread == 0 then running_thread look else told.thread

-- it becomes the one that is shown and the one that stopped
abbrev pub selected : Standing → Look → Standing
selected standing look = record standing { general = told_thread standing.told look; stopped = told_thread standing.told look }

-- at its count the thread that is told is selected
abbrev pub selected_in : Run → Standing → Standing
selected_in run standing = selected standing (run.look standing.count)

-- the interrupt is told, of this thread, or of the one that runs
abbrev pub interrupted : Standing → ℕ → Standing
interrupted standing thread = record standing { told = record { cause = causes.Interrupt; thread = thread; other = false }; interrupted = false }

-- ---- steps

-- a step that is alone stays where it is: its thread is a task that does not run
abbrev pub stays : Step → Look → Bool
stays step look = step.alone && (nat_le 2 step.thread && not (running_thread look == step.thread))

-- What a step goes to. A task is stepped by its own instructions, but for one in whose service the kernel works; the idle loop is one step.
abbrev pub step_target : Step → Look → Target
step_target step look =
    if step.alone || step.thread == 0 then targets.Each
    else if step.thread == 1 then (if is_own 1 look then targets.Busy else targets.Each)
    else if is_own step.thread look || not (running_thread look == step.thread) then targets.Own step.thread
    else targets.Each

abbrev pub is_told_anywhere : Cause → Bool
is_told_anywhere (causes.Watch kind address) = true
is_told_anywhere causes.Begin = true
is_told_anywhere causes.End = true
is_told_anywhere causes.Interrupt = false
is_told_anywhere causes.Step = false
is_told_anywhere (causes.Break kind) = false

abbrev pub is_step : Cause → Bool
is_step causes.Step = true
is_step (causes.Watch kind address) = false
is_step causes.Begin = false
is_step causes.End = false
is_step causes.Interrupt = false
is_step (causes.Break kind) = false

abbrev pub is_end : Cause → Bool
is_end causes.End = true
is_end causes.Step = false
is_end (causes.Watch kind address) = false
is_end causes.Begin = false
is_end causes.Interrupt = false
is_end (causes.Break kind) = false

-- a step was of one thread, and ended on another
abbrev pub is_elsewhere : Step → ℕ → Bool
is_elsewhere step thread = not (step.thread == 0) && not (thread == step.thread)

-- what is told of a step that ended so on this thread
abbrev pub step_told : Step → ℕ → Cause → Told
step_told step thread cause =
    if step.alone && (is_elsewhere step thread && not (is_told_anywhere cause)) then record { cause = causes.Step; thread = step.thread; other = false }
    else if is_step cause then record { cause = cause; thread = 0; other = not step.alone && is_elsewhere step thread }
    else record { cause = cause; thread = if step.alone then step.thread else 0; other = false }

-- the points and the target of a step; one that is alone or goes back goes through no addresses
abbrev pub step_wish : List Point → Step → Look → Wish
step_wish points step look = record {
  points = points;
  target = step_target step look;
  from = if step.alone || step.backwards then 0 else step.from;
  to = if step.alone || step.backwards then 0 else step.to;
}

-- behind a way the machine was seen to stop at its count: the way ended there, or none was gone
abbrev pub has_met : (stops : Bool) → Standing → (backwards : Bool) → Cause → Bool
has_met stops standing backwards cause = if is_end cause then stops else standing.met && (not backwards || standing.count == 0)

-- a step that is alone is not told of the end of a run that the machine does not stop
abbrev pub told_cause : (stops : Bool) → Step → Cause → Cause
told_cause stops step cause = if step.alone && (is_end cause && not stops) then causes.Step else cause

-- ---- a service that is stepped over

-- a step forward, alone, of a thread at an instruction of its own ends where a service begins
abbrev pub is_served : Run → Step → (first : Look) → Passage → Bool
is_served run step first there =
    step.alone && (not step.backwards && (is_own step.thread first && (is_step there.cause && (run.look there.count).serves)))

-- points, the thread's own instructions, and the address that it comes from
abbrev pub service_wish : List Point → (thread pc : ℕ) → Wish
service_wish points thread pc = record { points = points; target = targets.Behind thread pc; from = 0; to = 0 }

-- a way from the first count of a service on leads to where the thread goes on, and no point and not the address lies between
abbrev pub service_end : Run → List Point → (thread start found : ℕ) → ℕ
service_end run points thread start found =
    if not (found == start) && (is_none (breakpoint_kind points (run.look found).pc) && is_own thread (run.look found)) then found else start

abbrev pub service_count : Run → List Point → (thread pc start : ℕ) → ℕ
service_count run points thread pc start =
    service_end run points thread start (ahead run (wish_tests (service_wish points thread pc)) start)

-- the count that a step leads to
abbrev pub stepped_count : Run → List Point → Step → (first : Look) → Passage → ℕ
stepped_count run points step first there =
    if is_served run step first there then service_count run points step.thread first.pc there.count else there.count

-- ---- all of it

-- behind the way of a step
abbrev pub arrived : Run → List Point → Step → Standing → (first : Look) → Passage → Standing
arrived run points step standing first there = record standing {
  count = stepped_count run points step first there;
  told = step_told step (running_thread (run.look (stepped_count run points step first there))) (told_cause (is_some run.stop) step there.cause);
  met = has_met (is_some run.stop) standing step.backwards there.cause;
}

-- behind a step that no interrupt stops
abbrev pub stepped_on : Run → List Point → Step → Standing → Standing
stepped_on run points step standing =
    if stays step (run.look standing.count)
    then record standing { told = record { cause = causes.Step; thread = step.thread; other = false } }
    else arrived run points step standing (run.look standing.count)
    (passage step.backwards (step_wish points step (run.look standing.count)) run standing.count)

-- behind a step, but for the thread that is shown
abbrev pub stepped : Run → List Point → Step → Standing → Standing
stepped run points step standing =
    if standing.interrupted then interrupted standing (if step.alone then step.thread else 0) else stepped_on run points step standing

-- points alone
abbrev pub points_wish : List Point → Wish
points_wish points = record { points = points; target = targets.Nothing; from = 0; to = 0 }

-- behind the way of a continue
abbrev pub passed : Run → (backwards : Bool) → Standing → Passage → Standing
passed run backwards standing there = record standing {
  count = there.count;
  told = record { cause = there.cause; thread = 0; other = false };
  met = has_met (is_some run.stop) standing backwards there.cause;
}

-- behind a continue, but for the thread that is shown
abbrev pub continued : Run → List Point → (backwards : Bool) → Standing → Standing
continued run points backwards standing =
    if standing.interrupted then interrupted standing 0
    else passed run backwards standing (passage backwards (points_wish points) run standing.count)

-- at a count, or at the end of the run where that comes before
abbrev pub moved : Run → ℕ → Standing → Standing
moved run count standing = record standing {
  count = if nat_lt run.end count then run.end else count;
  told = record { cause = causes.Step; thread = 0; other = false };
  met = if nat_lt run.end count then is_some run.stop else (standing.met && count == standing.count);
}

-- a thread is shown from now on
abbrev pub shown : ℕ → Standing → Standing
shown thread standing = record standing { general = thread }

-- plain steps step this thread alone
abbrev pub stepping : ℕ → Standing → Standing
stepping thread standing = record standing { step = thread }

-- an interrupt came
abbrev pub with_interrupt : Standing → Standing
with_interrupt standing = record standing { interrupted = true }

-- the session is over
abbrev pub ended : Standing → Standing
ended standing = record standing { over = true }

-- a plain step: of the thread of `Hc`, alone, or else of the one that stopped
abbrev pub plain_step : (backwards : Bool) → Standing → Step
plain_step backwards standing =
    if standing.step == 0
    then record { thread = standing.stopped; alone = false; backwards = backwards; from = 0; to = 0 }
    else record { thread = standing.step; alone = true; backwards = backwards; from = 0; to = 0 }
