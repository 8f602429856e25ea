-- The code of the services that are wanted.
use Rattle.std.specs.Prelude.{ℕ, ◌+◌, ◌≡◌, Bool, true, false, List, [], ◌∷◌, length, Some, get_or, slice_index}
use Rattle.std.specs.List.{AllZip}
use Rattle.sloth_base.specs.ServiceCodes.{service_of}
use Rattle.sloth_base.specs.declared.config.Config.{Config}
use Rattle.sloth_base.specs.declared.limits.Levels.{Levels}
use Rattle.sloth_base.specs.declared.service.Service.{Service}
use Rattle.sloth_base.specs.Blocks.{block_code, block_object}
use Rattle.code_lengths.specs.CodeLengths.{block_length}
use Rattle.sloth_region.specs.declared.region.Map.{Map}
use Rattle.rv32_instr.specs.declared.block.Block.{Block}
use Rattle.service_gen.specs.TaskBlock.{further_marks}
use Rattle.block_parts.specs.Marks.{opening}
use Rattle.service_gen.specs.Calls.{IsCalledWith, IsAnyServiceBlock}

-- the wanted ones, the first of which has this number; a number is a place in the table of blocks
abbrev pub wanted_services_from : ℕ → List Bool → List ℕ
wanted_services_from number [] = []
wanted_services_from number (true ∷ wanted) = number ∷ wanted_services_from (number + 1) wanted
wanted_services_from number (false ∷ wanted) = wanted_services_from (number + 1) wanted

-- the number is that of a service with an object
pub record IsServiceNumber (config : Config) (number : ℕ) : Type 0 where
  pub service : Service
  pub is : service_of (block_code number) ≡ Some service
  pub called_with : IsCalledWith config service (block_object number)

-- so is that of each wanted one
abbrev pub AreServed : Config → List Bool → Type 0
AreServed config wanted = (number : ℕ) → get_or wanted number false ≡ true → IsServiceNumber config number

-- the code of a service by its number
pub record IsService (config : Config) (levels : Levels) (map : Map) (number : ℕ) (block : Block) : Type 0 where
  pub service : Service
  pub is : service_of (block_code number) ≡ Some service
  pub at : block.at ≡ slice_index map.places.blocks number
  pub marks : block.marks ≡ opening block.at (block_code number) ∷ further_marks service block.at
  pub long : length block.code ≡ block_length number
  pub called_with : IsCalledWith config service (block_object number)
  pub serves : IsAnyServiceBlock config service (block_object number) levels block.code

-- the code of the wanted ones, in the order of their numbers
abbrev pub AreServices : Config → Levels → Map → List Bool → List Block → Type 0
AreServices config levels map wanted blocks = AllZip (IsService config levels map) (wanted_services_from 0 wanted) blocks
