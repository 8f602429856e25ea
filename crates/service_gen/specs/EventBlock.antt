-- Blocks of services on events.
use Rattle.std.specs.Prelude.{ℕ, List}
use Rattle.sloth_base.specs.declared.service.Service.{Service}
use Rattle.sloth_base.specs.declared.service.Service.TheVariants.{SetEvent, ClearEvent, GetEvent, WaitEvent}
use Rattle.rv32_instr.specs.declared.InstrKind.{InstrKind}
use Rattle.service_gen.specs.SetEvent.{IsSetEventCode}
use Rattle.service_gen.specs.ClearEvent.{IsClearEventCode}
use Rattle.service_gen.specs.GetEvent.{IsGetEventCode}
use Rattle.service_gen.specs.WaitEvent.{IsWaitEventCode}

-- the code of a service with its object has the service's effect
abbrev pub IsEventServiceBlock : Service → ℕ → List InstrKind → Type 0
IsEventServiceBlock SetEvent object code = IsSetEventCode object code
IsEventServiceBlock ClearEvent object code = IsClearEventCode code
IsEventServiceBlock GetEvent object code = IsGetEventCode object code
IsEventServiceBlock WaitEvent object code = IsWaitEventCode code
IsEventServiceBlock service object code = ⊥
