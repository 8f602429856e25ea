-- The block of a service.
use Rattle.std.specs.Prelude.{ℕ, ◌≡◌, List, ◌∷◌, length, slice_index}
use Rattle.sloth_base.specs.Blocks.{block_number}
use Rattle.sloth_base.specs.ServiceCodes.{code_of}
use Rattle.sloth_base.specs.declared.image.Mark.{Mark}
use Rattle.sloth_base.specs.declared.service.Service.{Service}
use Rattle.code_lengths.specs.CodeLengths.{service_length}
use Rattle.rv32_instr.specs.declared.block.Block.{Block}
use Rattle.block_parts.specs.Marks.{opening}

-- A block of a service with its object: it stands at the service's address among these, its first instruction has the opening mark,
-- behind which these others stand, and it is as long as the table of lengths says.
pub record IsServiceBlock (service : Service) (object : ℕ) (addresses : List ℕ) (further : ℕ → List Mark) (block : Block) : Type 0 where
  pub at : block.at ≡ slice_index addresses (block_number service object)
  pub marks : block.marks ≡ opening block.at (code_of service) ∷ further block.at
  pub long : length block.code ≡ service_length service
