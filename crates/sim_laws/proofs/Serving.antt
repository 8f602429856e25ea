-- The code of a service.
use Rattle.std.proofs.Common.{◌<◌, ℕ, List, length, ap, arith}
use Rattle.sloth_base.specs.declared.config.Config.{Config}
use Rattle.sloth_base.specs.declared.limits.Levels.{Levels}
use Rattle.sloth_base.specs.declared.service.Service.{Service}
use Rattle.sloth_base.specs.declared.service.Service.TheVariants as service
use Rattle.rv32_instr.specs.declared.InstrKind.{InstrKind}
use Rattle.service_gen.specs.Calls.{IsAnyServiceBlock}

-- the code of a service has an instruction
pub some_code : (config : Config) (s : Service) (object : ℕ) (levels : Levels) (code : List InstrKind) → IsAnyServiceBlock config s object levels code → 0 < length code
some_code config service.Schedule object levels code h = let n = ap length h.masks.1 in omega (arith, n)
some_code config s object levels code h = let n = ap length h.masks.1 in omega (arith, n)
