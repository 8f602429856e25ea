-- What the contracts of service blocks ask of the machine.
use Rattle.std.specs.Prelude.{ℕ, ◌+◌, ◌<◌, ◌≡◌, List}
use Rattle.sloth_base.specs.Machine.{Core}
use Rattle.sloth_base.specs.Limits.{task_limit}
use Rattle.sloth_region.specs.Layout.{cur}
use Rattle.rv32_instr.specs.declared.InstrKind.{InstrKind}
use Rattle.rv32_instr.specs.Ram.{word_at}
use Rattle.masked_code.specs.Kernel.{IsContextBelow}
use Rattle.block_parts.specs.Back.{CanGoBack}

-- What the contracts of service blocks ask of the machine there: the code at an offset can run and go back to the running task,
-- below which the context at `place` is the next.
pub record CanServe (offset : ℕ) (code : List InstrKind) (t place : ℕ) (core : Core) : Type 0 where
  pub goes_back : CanGoBack offset code core
  pub level : core.ilevel < 256
  pub current : word_at core.ram cur ≡ t + 1
  pub is_task : t < task_limit
  pub below : IsContextBelow place core
