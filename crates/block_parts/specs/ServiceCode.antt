-- What the code of every service promises.
use Rattle.std.specs.Prelude.{◌≡◌, List, ◌∷◌, length}
use Rattle.sloth_base.specs.declared.service.Service.{Service}
use Rattle.code_lengths.specs.CodeLengths.{service_length}
use Rattle.rv32_instr.specs.declared.InstrKind.{InstrKind}
use Rattle.masked_code.specs.Kernel.{masking}

-- Code of a service has as many instructions as the table of lengths says, the first of which masks interrupts; and it does what `Runs` says.
pub record IsServiceCode (service : Service) (code : List InstrKind) (Runs : Type 0) : Type 0 where
  pub size : length code ≡ service_length service
  pub masks : (rest : List InstrKind) × (code ≡ masking ∷ rest)
  pub runs : Runs
