-- Blocks of all services.
use Rattle.std.specs.Prelude.{ℕ, ◌<◌, List, length}
use Rattle.sloth_base.specs.declared.config.Config.{Config}
use Rattle.sloth_base.specs.declared.limits.Levels.{Levels}
use Rattle.sloth_base.specs.declared.service.ObjectKind.{ObjectKind}
use Rattle.sloth_base.specs.declared.service.ObjectKind.TheVariants as object
use Rattle.sloth_base.specs.declared.service.Service.{Service}
use Rattle.sloth_base.specs.declared.service.Service.TheVariants.{SetEvent, ClearEvent, GetEvent, WaitEvent, SetRelAlarm, SetAbsAlarm, CancelAlarm, GetAlarm}
use Rattle.sloth_base.specs.ServiceCodes.{object_kind}
use Rattle.block_parts.specs.Objects.{HasServiceCode}
use Rattle.rv32_instr.specs.declared.InstrKind.{InstrKind}
use Rattle.service_gen.specs.AlarmBlock as alarms
use Rattle.service_gen.specs.TaskBlock as others
use Rattle.service_gen.specs.EventBlock as events

-- the objects of a kind with which services have generated code: an alarm is one of the configuration
abbrev pub IsOfKind : Config → ObjectKind → ℕ → Type 0
IsOfKind config object.Alarm number = number < length config.alarms
IsOfKind config object.Nothing number = HasServiceCode object.Nothing number
IsOfKind config object.Task number = HasServiceCode object.Task number
IsOfKind config object.Resource number = HasServiceCode object.Resource number

-- the objects with which a service may be called: a task, a resource, an alarm, or 0 where there is none
abbrev pub IsCalledWith : Config → Service → ℕ → Type 0
IsCalledWith config service object = IsOfKind config (object_kind service) object

-- the code of a service with its object has the service's effect
abbrev pub IsAnyServiceBlock : Config → Service → ℕ → Levels → List InstrKind → Type 0
IsAnyServiceBlock config SetEvent object levels code = events.IsEventServiceBlock SetEvent object code
IsAnyServiceBlock config ClearEvent object levels code = events.IsEventServiceBlock ClearEvent object code
IsAnyServiceBlock config GetEvent object levels code = events.IsEventServiceBlock GetEvent object code
IsAnyServiceBlock config WaitEvent object levels code = events.IsEventServiceBlock WaitEvent object code
IsAnyServiceBlock config SetRelAlarm object levels code = alarms.IsAlarmServiceBlock config SetRelAlarm object code
IsAnyServiceBlock config SetAbsAlarm object levels code = alarms.IsAlarmServiceBlock config SetAbsAlarm object code
IsAnyServiceBlock config CancelAlarm object levels code = alarms.IsAlarmServiceBlock config CancelAlarm object code
IsAnyServiceBlock config GetAlarm object levels code = alarms.IsAlarmServiceBlock config GetAlarm object code
IsAnyServiceBlock config service object levels code = others.IsTaskServiceBlock service object levels code
