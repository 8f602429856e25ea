-- What is asked of a piece of generated code, for each kind of piece of a run.
use Rattle.std.specs.Prelude.{ℕ, suc, ◌+◌, ◌==◌, ◌<◌, ◌≤◌, ◌≡◌, List, [], ◌∷◌, ◌++◌, map, length, true, false, cond, slice_index, Contains}
use Rattle.std.specs.List.{AllByRecursion}
use Rattle.sloth_base.specs.declared.service.Event.{Event}
use Rattle.sloth_base.specs.declared.service.Event.TheVariants as event
use Rattle.sloth_base.specs.declared.service.Stamped.{Stamped}
use Rattle.sloth_base.specs.declared.service.Service.{Service}
use Rattle.sloth_base.specs.declared.numbers.Step.{Step}
use Rattle.sloth_base.specs.Machine.{State}
use Rattle.sloth_base.specs.Stretches.{Beginning, Boots, later_beginning, stretch_limit, touch_limit}
use Rattle.sloth_base.specs.Take.{execution_state, line_to_take}
use Rattle.rv32_instr.specs.Ram.{word_at}
use Rattle.rv32_instr.specs.Execute.{Going, step}
use Rattle.rv32_machine.specs.Advance.{observed_step}
use Rattle.rv32_machine.specs.Run.{state_with_arrivals}
use Rattle.masked_code.specs.Masked.{Steps}
use Rattle.masked_code.specs.Trace.{Trace, touched_lines, early_arrivals, late_arrivals}
use Rattle.observe.specs.Pieces.{begins}
use Rattle.observe.specs.Observe.{stretch_event, outside_events, mark_at}
use Rattle.osek_scheduler.specs.State.{System, task, opening}
use Rattle.osek_scheduler.specs.Steps.{OsekStep}
use Rattle.osek_scheduler.specs.Runs.{AreStepsTo, PassesOverArrivals}
use Rattle.sim_induction.specs.Events.{stretch_counts}
use Rattle.sim_induction.specs.Pace.{ItemSizes, AreAtMost, next_size_of, single_counts}
use Rattle.sim_induction.specs.Short.{TouchesOnly}
use Rattle.sim_induction.specs.Admits.{Setting, lines_at, with_admits, admit_event, arrivals_before_event}

-- what is seen of the instruction of a count that leads from this state to the next
abbrev pub seen_step_at : Setting → ℕ → State → State → Step
seen_step_at given count state next = observed_step count (state_with_arrivals given.arrivals count state) next

-- how a stretch behind boot begins at a count
abbrev pub beginning_at : Setting → ℕ → State → Beginning
beginning_at given count state = later_beginning (line_to_take (state_with_arrivals given.arrivals count state))

-- the event of a service: a call with the status in a0, where its caller still runs; else the caller left
abbrev pub served_event : (task : ℕ) → Service → State → Event
served_event t served end =
    cond (t + 1 == word_at end.core.ram 0) (event.Call t served (slice_index end.core.registers 10)) (event.Left t served)

-- an event of a stretch behind boot: one of a task's turn is of the task that the word at 0x80000000 names
abbrev pub IsNamed : (current : ℕ) → Event → Type 0
IsNamed current (event.Call t served status) = current ≡ t + 1
IsNamed current (event.Left t served) = current ≡ t + 1
IsNamed current (event.Back t) = current ≡ t + 1
IsNamed current (event.Enter t) = Unit {0}
IsNamed current (event.Tick c) = Unit {0}
IsNamed current _ = ⊥

-- a bound for each task: so many instructions of its next item it has passed at least while it is preempted
abbrev pub Passed : Type 0
Passed = ℕ → ℕ

-- What a stretch with this event leaves of the bound, and who runs behind it, which the word at 0x80000000 names. What runs has passed `before`
-- instructions of its next item in front of the stretch, and `after` behind it.
abbrev pub GoesOn : (passed behind : Passed) (current now before after : ℕ) → Event → Type 0
-- the task itself goes on
GoesOn passed behind current now before after (event.Call t served status) = (now ≡ t + 1) × (behind ≡ passed)
GoesOn passed behind current now before after (event.Back t) = (now ≡ t + 1) × (behind ≡ passed)
-- a task that was preempted goes on where it stood
GoesOn passed behind current now before after (event.Left t served) = ((u : ℕ) → now ≡ u + 1 → passed u ≤ after) × (behind ≡ passed)
-- so does the one that ran
GoesOn passed behind current now before after (event.Tick c) = (now ≡ current) × (before ≤ after) × (behind ≡ passed)
-- the task that is entered runs, and the one that ran is preempted where it stood
GoesOn passed behind current now before after (event.Enter t) = (now ≡ t + 1) × ((u : ℕ) → cond (current == u + 1) before (passed u) ≤ behind u)
GoesOn passed behind current now before after _ = ⊥

-- A stretch that begins at a count which finds MIE 1: its first instruction, which leads to `next`, and the masked ones behind it,
-- which lead on to `end`. Its event is a step from the system with the arrivals of the count and the early ones, within its weight
-- there, and the states at its end are related with the late ones.
pub record StretchLaw (given : Setting) (R : State → System → Type 0) (progress : State → System → ℕ) (passed behind : Passed)
    (count : ℕ) (state : State) (s : System) (next : State) (trace : Trace) (end : State) : Type 0 where
  pub finds : state.core.mie ≡ true
  pub goes : step (execution_state (state_with_arrivals given.arrivals count state)) ≡ Going next
  pub starts : begins (seen_step_at given count state next) ≡ true
  pub more : ℕ
  pub few : suc more ≤ stretch_limit given.config (beginning_at given count state)
  pub steps : Steps more (count + 1) (lines_at given.arrivals) next trace end
  pub ends : end.core.mie ≡ true
  -- the lines that it may touch
  pub lines : List ℕ
  pub few_lines : length lines ≤ touch_limit given.config (beginning_at given count state)
  pub touches_first : TouchesOnly lines (seen_step_at given count state next)
  pub touches : AllByRecursion (Contains lines) (touched_lines trace)
  pub what : Event
  pub named : IsNamed (word_at state.core.ram 0) what
  pub what_is : (last : Step) → last.regs ≡ end.core.registers → last.cur_after ≡ word_at end.core.ram 0
      → stretch_event given.view (seen_step_at given count state next) last ≡ what
  pub after : System
  pub within : suc more ≤ stretch_counts given.config given.app (with_admits (early_arrivals trace) (with_admits (lines_at given.arrivals count) s)) what
  pub step_is : OsekStep given.config given.app what (with_admits (early_arrivals trace) (with_admits (lines_at given.arrivals count) s)) after
  pub passes : (past : List Stamped) → AreStepsTo given.config given.app past (opening given.config given.app) (with_admits (lines_at given.arrivals count) s)
      → PassesOverArrivals given.config given.app (past ++ map admit_event (arrivals_before_event (count + 1) trace))
      (with_admits (early_arrivals trace) (with_admits (lines_at given.arrivals count) s)) count what
  pub goes_on : GoesOn passed behind (word_at state.core.ram 0) (word_at end.core.ram 0) (progress state s)
      (progress end (with_admits (late_arrivals trace) after)) what
  pub related : R end (with_admits (late_arrivals trace) after)

-- what an instruction outside the stretches shows: nothing, or one event, which is a step
abbrev pub IsOutsideStep : Setting → List Event → System → System → Type 0
IsOutsideStep given [] s after = after ≡ s
IsOutsideStep given (what ∷ []) s after = OsekStep given.config given.app what s after
IsOutsideStep given (what ∷ other ∷ more) s after = ⊥

-- Where an instruction shows nothing, the measure grows; where it shows an event, the measure was below what that event may take.
abbrev pub MakesProgress : ItemSizes → List Event → (from to : ℕ) → Type 0
MakesProgress size [] from to = from < to
MakesProgress size (what ∷ more) from to = from < single_counts size what

-- who runs behind an instruction outside the stretches, which the word at 0x80000000 names
abbrev pub RunsOn : (current now : ℕ) → List Event → Type 0
RunsOn current now [] = now ≡ current
RunsOn current now (event.Run t func item result ∷ more) = (current ≡ t + 1) × (now ≡ t + 1)
RunsOn current now (what ∷ more) = (current ≡ 0) × (now ≡ 0)

-- The measure of the instructions that show nothing: of the task that runs it is at most its next item, whatever has arrived, and of any at most
-- the longest item; of the idle loop nothing.
pub record IsMeasure (given : Setting) (progress : State → System → ℕ) (state : State) (s : System) : Type 0 where
  pub turn : (t : ℕ) → word_at state.core.ram 0 ≡ t + 1 → (found early : List ℕ)
      → progress state s ≤ next_size_of given.size (task (with_admits early (with_admits found s)) t)
  pub few : (longest : ℕ) → AreAtMost given.size longest → progress state s ≤ longest
  pub idle : word_at state.core.ram 0 ≡ 0 → progress state s ≡ 0

-- an instruction outside the stretches, at a count that finds MIE 1
pub record OutsideLaw (given : Setting) (R : State → System → Type 0) (progress : State → System → ℕ)
    (count : ℕ) (state : State) (s : System) (next : State) : Type 0 where
  pub goes : step (execution_state (state_with_arrivals given.arrivals count state)) ≡ Going next
  pub outside : begins (seen_step_at given count state next) ≡ false
  pub untouched : TouchesOnly [] (seen_step_at given count state next)
  pub whats : List Event
  pub whats_are : outside_events (mark_at given.view (seen_step_at given count state next).pc) given.view (seen_step_at given count state next) ≡ whats
  pub after : System
  pub shows : IsOutsideStep given whats (with_admits (lines_at given.arrivals count) s) after
  pub progresses : MakesProgress given.size whats (progress state s) (progress next after)
  pub runs_on : RunsOn (word_at state.core.ram 0) (word_at next.core.ram 0) whats
  pub related : R next after

-- The first stretch, from count 0 on, touches no line, and its event is Boot.
pub record BootLaw (given : Setting) (R : State → System → Type 0) (state : State) : Type 0 where
  pub more : ℕ
  pub few : suc more ≤ stretch_limit given.config Boots
  pub within : suc more ≤ stretch_counts given.config given.app (opening given.config given.app) event.Boot
  pub trace : Trace
  pub end : State
  pub steps : Steps (suc more) 0 (lines_at given.arrivals) state trace end
  pub ends : end.core.mie ≡ true
  pub untouched : touched_lines trace ≡ []
  pub after : System
  pub step_is : OsekStep given.config given.app event.Boot (opening given.config given.app) after
  pub related : R end (with_admits (late_arrivals trace) after)
