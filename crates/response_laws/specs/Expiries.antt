-- How often the alarms of a counter expire within so many of its ticks, and so may make a task Ready or set its events.
use Rattle.std.specs.Prelude.{ℕ, ◌+◌, ◌-◌, ◌/◌, ◌≤◌, ◌≡◌, ◌==◌, ◌&&◌, ltb, min, cond, List, [], ◌∷◌, Bool, false}
use Rattle.sloth_base.specs.declared.config.Action.{Action}
use Rattle.sloth_base.specs.declared.config.AlarmDecl.{AlarmDecl}
use Rattle.sloth_base.specs.declared.config.Config.{Config}
use Rattle.sloth_base.specs.declared.app.App.{App}
use Rattle.sloth_base.specs.declared.app.Op.{Op}
use Rattle.sloth_base.specs.declared.service.Stamped.{Stamped}
use Rattle.sloth_base.specs.declared.service.Service.TheVariants as service
use Rattle.sloth_base.specs.Named.{operation}
use Rattle.sloth_base.specs.Owners.{counter_line}
use Rattle.code_rules.specs.WellFormed.{WellFormed}
use Rattle.osek_scheduler.specs.Runs.{OsekRun}
use Rattle.run_counts.specs.Stages.{run_stages}
use Rattle.response_laws.specs.Demand.{Start}
use Rattle.response_laws.specs.Loaded.{HasAlarms}
use Rattle.response_laws.specs.Ticks.{activates, sets_events}
use Rattle.response_laws.specs.Made.{calls_either}

-- ---- one alarm

-- the operation sets alarm a
abbrev pub sets_alarm : (a : ℕ) → Op → Bool
sets_alarm a o = calls_either service.SetRelAlarm service.SetAbsAlarm a o

-- where an alarm is not marked, no item sets it
abbrev pub MarksAlarms : App → (ℕ → Bool) → Type 0
MarksAlarms app is_set = (a : ℕ) → is_set a ≡ false → (f i : ℕ) → sets_alarm a (operation app f i) ≡ false

-- of an alarm with this cycle, or none, in any so many ticks
abbrev pub cyclic_expiries : (cycle ticks : ℕ) → ℕ
cyclic_expiries cycle ticks = cond (cycle == 0) (min ticks 1) ((ticks + cycle - 1) / cycle)

-- the first ones behind boot, where it starts with the system
abbrev pub booted_expiries : (time cycle ticks : ℕ) → ℕ
booted_expiries time cycle ticks = cond (ltb ticks time) 0 (cond (cycle == 0) 1 (1 + (ticks - time) / cycle))

-- Behind boot or anywhere: at most each tick, where items set it; else none, where it does not start with the system.
abbrev pub expiries : (boot is_set : Bool) → AlarmDecl → (ticks : ℕ) → ℕ
expiries boot is_set d ticks =
    cond is_set ticks (cond (d.time == 0) 0 (cond boot (booted_expiries d.time d.cycle ticks) (cyclic_expiries d.cycle ticks)))

-- ---- all of a counter

-- those of these alarms, of which the first has this number, that belong to counter c and do what passes the test
abbrev pub expiring : (boot : Bool) → (is_set : ℕ → Bool) → (c : ℕ) → (Action → Bool) → (ticks first : ℕ) → List AlarmDecl → ℕ
expiring boot is_set c test ticks first [] = 0
expiring boot is_set c test ticks first (d ∷ ds) =
    cond ((d.counter == c) && test d.action) (expiries boot (is_set first) d ticks) 0 + expiring boot is_set c test ticks (first + 1) ds

-- for the ticks that may come into a start as many makings as these, and as alarms expire within them
pub record HasExpiries (config : Config) (is_set : ℕ → Bool) (s : Start) : Type 0 where
  pub acts : (c j : ℕ) → let ticks = s.inflow.arrivals (counter_line c) in
      min ticks (expiring s.is_boot is_set c (activates j) ticks 0 config.alarms) ≤ s.inflow.alarm_acts c j
  pub sets : (c j : ℕ) → let ticks = s.inflow.arrivals (counter_line c) in
      min ticks (expiring s.is_boot is_set c (sets_events j) ticks 0 config.alarms) ≤ s.inflow.alarm_sets c j

-- In every run of well-formed task code ticks make a task Ready or set its events no more often than alarms of their counter expire.
abbrev pub TicksMakeAsAlarmsExpire : Type 0
TicksMakeAsAlarmsExpire = (config : Config) (app : App) (events : List Stamped) (is_set : ℕ → Bool) (s : Start) → WellFormed config app → OsekRun config app events
    → MarksAlarms app is_set → HasExpiries config is_set s → HasAlarms (run_stages config app events) s
