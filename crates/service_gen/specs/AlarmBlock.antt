-- Blocks of services on alarms.
use Rattle.std.specs.Prelude.{ℕ, ◌<◌, List, length}
use Rattle.sloth_base.specs.declared.config.Config.{Config}
use Rattle.sloth_base.specs.declared.service.ObjectKind.{ObjectKind}
use Rattle.sloth_base.specs.declared.service.ObjectKind.TheVariants as object
use Rattle.sloth_base.specs.declared.service.Service.{Service}
use Rattle.sloth_base.specs.declared.service.Service.TheVariants.{SetRelAlarm, SetAbsAlarm, CancelAlarm, GetAlarm}
use Rattle.sloth_base.specs.Named.{alarm_declaration, counter_of}
use Rattle.sloth_base.specs.ServiceCodes.{object_kind}
use Rattle.rv32_instr.specs.declared.InstrKind.{InstrKind}
use Rattle.service_gen.specs.SetAlarm.{IsSetRelAlarmCode, IsSetAbsAlarmCode}
use Rattle.service_gen.specs.CancelAlarm.{IsCancelAlarmCode}
use Rattle.service_gen.specs.GetAlarm.{IsGetAlarmCode}

-- an object of this kind is an alarm of the configuration
abbrev pub IsAlarmOf : Config → ObjectKind → ℕ → Type 0
IsAlarmOf config object.Alarm number = number < length config.alarms
IsAlarmOf config kind number = ⊥

-- the services on alarms, each with an alarm
abbrev pub HasAlarmBlock : Config → Service → ℕ → Type 0
HasAlarmBlock config service object = IsAlarmOf config (object_kind service) object

-- the code of a service with its alarm has the service's effect
abbrev pub IsAlarmServiceBlock : Config → Service → ℕ → List InstrKind → Type 0
IsAlarmServiceBlock config SetRelAlarm a code = IsSetRelAlarmCode a (counter_of config a).max (counter_of config a).min_cycle code
IsAlarmServiceBlock config SetAbsAlarm a code =
    IsSetAbsAlarmCode a (alarm_declaration config a).counter (counter_of config a).max (counter_of config a).min_cycle code
IsAlarmServiceBlock config CancelAlarm a code = IsCancelAlarmCode a code
IsAlarmServiceBlock config GetAlarm a code = IsGetAlarmCode a code
IsAlarmServiceBlock config service a code = ⊥
