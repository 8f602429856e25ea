-- The services (OSEK OS 2.2.3, section 13): their numbers, in marks and in addresses of their code, their names, and what they take.
use Rattle.std.specs.Prelude.{ℕ, ◌≡◌, ◌<◌, ◌≤◌, ◌==◌, Bool, true, false, if◌then◌else◌, List, [], ◌∷◌, codes, bytes_eq, Option, Some, None, slice_get}
use Rattle.sloth_base.specs.declared.service.ObjectKind.{ObjectKind}
use Rattle.sloth_base.specs.declared.service.ObjectKind.TheVariants as object
use Rattle.sloth_base.specs.declared.service.Service.{Service}
use Rattle.sloth_base.specs.declared.service.Service.TheVariants as service
use Rattle.sloth_base.specs.Limits.{task_limit, alarm_limit, resource_limit}

-- the number of a service
abbrev pub code_of : Service → ℕ
code_of service.ActivateTask = 0
code_of service.TerminateTask = 1
code_of service.ChainTask = 2
code_of service.Schedule = 3
code_of service.GetTaskID = 4
code_of service.GetTaskState = 5
code_of service.GetResource = 6
code_of service.ReleaseResource = 7
code_of service.SetEvent = 8
code_of service.ClearEvent = 9
code_of service.GetEvent = 10
code_of service.WaitEvent = 11
code_of service.SetRelAlarm = 12
code_of service.SetAbsAlarm = 13
code_of service.CancelAlarm = 14
code_of service.GetAlarm = 15

-- the services in the order of their numbers
abbrev pub services : List Service
services =
    service.ActivateTask ∷ service.TerminateTask ∷ service.ChainTask ∷ service.Schedule ∷ service.GetTaskID ∷ service.GetTaskState
    ∷ service.GetResource ∷ service.ReleaseResource ∷ service.SetEvent ∷ service.ClearEvent ∷ service.GetEvent ∷ service.WaitEvent
    ∷ service.SetRelAlarm ∷ service.SetAbsAlarm ∷ service.CancelAlarm ∷ service.GetAlarm ∷ []

-- the service of a number
abbrev pub service_of : ℕ → Option Service
service_of code = slice_get services code

-- two services are the same
abbrev pub is_service : Service → Service → Bool
is_service one other = code_of one == code_of other

-- ---- names

-- the name of a service
abbrev pub service_name : Service → List ℕ
service_name service.ActivateTask = codes "ActivateTask"
service_name service.TerminateTask = codes "TerminateTask"
service_name service.ChainTask = codes "ChainTask"
service_name service.Schedule = codes "Schedule"
service_name service.GetTaskID = codes "GetTaskID"
service_name service.GetTaskState = codes "GetTaskState"
service_name service.GetResource = codes "GetResource"
service_name service.ReleaseResource = codes "ReleaseResource"
service_name service.SetEvent = codes "SetEvent"
service_name service.ClearEvent = codes "ClearEvent"
service_name service.GetEvent = codes "GetEvent"
service_name service.WaitEvent = codes "WaitEvent"
service_name service.SetRelAlarm = codes "SetRelAlarm"
service_name service.SetAbsAlarm = codes "SetAbsAlarm"
service_name service.CancelAlarm = codes "CancelAlarm"
service_name service.GetAlarm = codes "GetAlarm"

-- the first of these services that has this name
abbrev pub service_among : List Service → List ℕ → Option Service
service_among [] word = None
service_among (s ∷ rest) word = if bytes_eq word (service_name s) then Some s else service_among rest word

-- the service of a name
unfoldable pub service_named : List ℕ → Option Service
service_named word = service_among services word

-- ---- what a service takes

-- what a service names
abbrev pub object_kind : Service → ObjectKind
object_kind service.ActivateTask = object.Task
object_kind service.ChainTask = object.Task
object_kind service.GetTaskState = object.Task
object_kind service.SetEvent = object.Task
object_kind service.GetEvent = object.Task
object_kind service.GetResource = object.Resource
object_kind service.ReleaseResource = object.Resource
object_kind service.SetRelAlarm = object.Alarm
object_kind service.SetAbsAlarm = object.Alarm
object_kind service.CancelAlarm = object.Alarm
object_kind service.GetAlarm = object.Alarm
object_kind _ = object.Nothing

-- it has a mask of events
abbrev pub has_mask : Service → Bool
has_mask service.SetEvent = true
has_mask service.ClearEvent = true
has_mask service.WaitEvent = true
has_mask _ = false

-- the numbers of the objects of a kind, in every configuration; where there is no object it is 0
abbrev pub IsObjectNumber : ObjectKind → ℕ → Type 0
IsObjectNumber object.Nothing number = number ≡ 0
IsObjectNumber object.Task number = number < task_limit
IsObjectNumber object.Resource number = number ≤ resource_limit
IsObjectNumber object.Alarm number = number < alarm_limit
