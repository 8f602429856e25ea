-- Service blocks.
use Rattle.std.specs.Prelude.{ℕ, List, [], ◌∷◌, slice_index}
use Rattle.sloth_base.specs.declared.image.Mark.{Mark}
use Rattle.sloth_base.specs.declared.service.Service.{Service}
use Rattle.sloth_base.specs.declared.service.Service.TheVariants.{ActivateTask, TerminateTask, ChainTask, Schedule, GetTaskID, GetTaskState, GetResource, ReleaseResource}
use Rattle.sloth_base.specs.declared.limits.Levels.{Levels}
use Rattle.rv32_instr.specs.declared.InstrKind.{InstrKind}
use Rattle.service_gen.specs.ActivateTask.{IsActivateTaskCode}
use Rattle.service_gen.specs.TerminateTask.{IsTerminateTaskCode}
use Rattle.service_gen.specs.ChainTask.{IsChainTaskCode}
use Rattle.service_gen.specs.GetResource.{IsGetResourceCode}
use Rattle.service_gen.specs.GetTaskID.{IsGetTaskIDCode}
use Rattle.service_gen.specs.GetTaskState.{IsGetTaskStateCode}
use Rattle.service_gen.specs.ReleaseResource.{IsReleaseResourceCode}
use Rattle.service_gen.specs.Schedule.{way_back, IsScheduleCode}
use Rattle.sloth_base.specs.Arithmetic.{sum32}
use Rattle.block_parts.specs.Marks.{back_mark}

-- the marks behind the opening in a block at this address: Schedule's has the way back
abbrev pub further_marks : Service → ℕ → List Mark
further_marks Schedule at = back_mark (sum32 at way_back) ∷ []
further_marks service at = []

-- the code of a service with its object has the service's effect
abbrev pub IsTaskServiceBlock : Service → ℕ → Levels → List InstrKind → Type 0
IsTaskServiceBlock ActivateTask object levels code = IsActivateTaskCode object code
IsTaskServiceBlock TerminateTask object levels code = IsTerminateTaskCode code
IsTaskServiceBlock ChainTask object levels code = IsChainTaskCode object code
IsTaskServiceBlock Schedule object levels code = IsScheduleCode code
IsTaskServiceBlock GetTaskID object levels code = IsGetTaskIDCode code
IsTaskServiceBlock GetTaskState object levels code = IsGetTaskStateCode object code
IsTaskServiceBlock GetResource object levels code = IsGetResourceCode object (slice_index levels.ceiling object) code
IsTaskServiceBlock ReleaseResource object levels code = IsReleaseResourceCode object code
IsTaskServiceBlock service object levels code = ⊥
