-- The services on alarms as steps of the abstract scheduler, said without arrivals and in a run.
use Rattle.std.specs.Prelude.{ℕ, ◌^◌, ◌<◌, List}
use Rattle.sloth_base.specs.ConfigRange.{InRange}
use Rattle.sloth_base.specs.Machine.{State}
use Rattle.sloth_base.specs.Named.{counter_of, alarm_declaration}
use Rattle.sloth_base.specs.declared.service.Arrival.{Arrival}
use Rattle.sloth_base.specs.declared.service.Service.{Service}
use Rattle.sloth_base.specs.declared.service.Service.TheVariants as service
use Rattle.rv32_machine.specs.Run.{state_with_arrivals}
use Rattle.observe.specs.Observe.{View}
use Rattle.service_gen.specs.AlarmBlock.{IsAlarmServiceBlock}
use Rattle.service_gen.specs.CancelAlarm.{CancelAlarmEffect}
use Rattle.service_gen.specs.GetAlarm.{GetAlarmEffect}
use Rattle.service_gen.specs.SetAlarm.{SetAlarmEffect, TicksFit, AlarmValueFits, first_operand, ticks_until}
use Rattle.osek_scheduler.specs.State.{Task, System}
use Rattle.sim_induction.specs.Admits.{IsSetting, lines_at, with_admits}
use Rattle.sim_relation.specs.Bounds.{AreBelow}
use Rattle.sim_relation.specs.Build.{Build, HasFittingPlaces}
use Rattle.sim_relation.specs.Placed.{setting_of}
use Rattle.sim_relation.specs.Stands.{Stands}
use Rattle.sim_routines.specs.Served.{IsServiceAnswer}
use Rattle.sim_routines.specs.ServiceSteps.{MayGoOn}
use Rattle.sim_routines.specs.Stretch.{OpensGoingOn, HasStretch}
use Rattle.sim_routines.specs.TickSteps.{HasCounterValue}

-- what holds where a service on an alarm begins: the machine's registers hold words
pub record MayUseAlarm (b : Build) (state : State) (s : System) (t : ℕ) (own : Task) (served : Service) (alarm : ℕ) : Type 0 where
  pub range : InRange b.config
  pub goes_on : MayGoOn b state s t own served alarm
  pub words : AreBelow (2 ^ 32) state.core.registers

-- The service answers by what the alarm is and by the operands, and the caller goes on.
abbrev pub AlarmLaw : Service → (Build → ℕ → List ℕ → State → State → Type 0) → Type 0
AlarmLaw served Effect = (b : Build) (state : State) (s : System) (t : ℕ) (own : Task) (alarm : ℕ) (touched : List ℕ) (end : State) → HasFittingPlaces b
    → MayUseAlarm b state s t own served alarm → Effect b alarm touched state end → IsServiceAnswer b s t served touched end

-- SetRelAlarm
abbrev pub SetRelAlarmGoesOn : Type 0
SetRelAlarmGoesOn =
    AlarmLaw service.SetRelAlarm (λ b alarm. SetAlarmEffect alarm (TicksFit (counter_of b.config alarm).max (counter_of b.config alarm).min_cycle) first_operand)

-- SetAbsAlarm
abbrev pub SetAbsAlarmGoesOn : Type 0
SetAbsAlarmGoesOn =
    AlarmLaw service.SetAbsAlarm (λ b alarm. SetAlarmEffect alarm (AlarmValueFits (counter_of b.config alarm).max (counter_of b.config alarm).min_cycle)
    (ticks_until (alarm_declaration b.config alarm).counter (counter_of b.config alarm).max))

-- CancelAlarm
abbrev pub CancelAlarmGoesOn : Type 0
CancelAlarmGoesOn = AlarmLaw service.CancelAlarm (λ b. CancelAlarmEffect)

-- GetAlarm
abbrev pub GetAlarmGoesOn : Type 0
GetAlarmGoesOn = AlarmLaw service.GetAlarm (λ b. GetAlarmEffect)

-- ---- in a run, whatever lines arrive

-- what holds at the opening mark of a service on an alarm: the registers hold words, and the counters' values are in range
pub record OpensAlarm (b : Build) (view : View) (state : State) (s : System) (t : ℕ) (served : Service) : Type 0 where
  pub range : InRange b.config
  pub goes_on : OpensGoingOn b view state s t served (IsAlarmServiceBlock b.config served)
  pub words : AreBelow (2 ^ 32) state.core.registers
  pub values : (c : ℕ) → HasCounterValue b s c

-- The stretch that begins there is the event Call of the service.
abbrev pub AlarmStretches : Service → Type 0
AlarmStretches served = (b : Build) (view : View) (arrivals : List Arrival) (count : ℕ) (state : State) (s : System) (t : ℕ)
    → HasFittingPlaces b → IsSetting (setting_of b view arrivals) → 0 < count → Stands b state s
    → OpensAlarm b view (state_with_arrivals arrivals count state) (with_admits (lines_at arrivals count) s) t served
    → HasStretch b view arrivals count state s
