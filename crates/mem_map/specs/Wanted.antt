-- Which code of services task code needs.
use Rattle.std.specs.Prelude.{ℕ, ◌==◌, ◌≡◌, Bool, false, List, map, Some}
use Rattle.std.specs.List.{list_any, range_with_len}
use Rattle.sloth_base.specs.declared.app.App.{App}
use Rattle.sloth_base.specs.declared.app.Func.{Func}
use Rattle.sloth_base.specs.declared.app.Item.{Item}
use Rattle.sloth_base.specs.declared.app.Op.{Op}
use Rattle.sloth_base.specs.declared.app.Op.TheVariants as op
use Rattle.sloth_base.specs.declared.service.Service.{Service}
use Rattle.sloth_base.specs.Blocks.{block_count, block_number, block_service, block_object}
use Rattle.sloth_base.specs.ServiceCodes.{object_kind, IsObjectNumber}

-- the place in the table of blocks is that of a service with an object that it may have
pub record IsServicePlace (number : ℕ) : Type 0 where
  pub service : Service
  pub is : block_service number ≡ Some service
  pub object : IsObjectNumber (object_kind service) (block_object number)

-- an operation calls the service with its object that has this place in the table of blocks
abbrev pub is_call_of : ℕ → Op → Bool
is_call_of number (op.Serve call) = block_number call.service call.object == number
is_call_of number (op.Alu kind rd rs1 rs2) = false
is_call_of number (op.AluImm kind rd rs1 imm) = false
is_call_of number (op.Lui rd imm) = false
is_call_of number (op.Li rd value) = false
is_call_of number (op.FrameLoad rd word) = false
is_call_of number (op.FrameStore rs word) = false
is_call_of number (op.Load width rd symbol offset) = false
is_call_of number (op.Store width rs symbol offset) = false
is_call_of number (op.LoadAt width rd symbol index mask) = false
is_call_of number (op.StoreAt width rs symbol index mask) = false
is_call_of number (op.Branch kind rs1 rs2 label) = false
is_call_of number (op.Jump label) = false
is_call_of number (op.Invoke callee) = false
is_call_of number op.Return = false

-- an item of the function does
abbrev pub is_called_by : ℕ → Func → Bool
is_called_by number func = list_any (λ (item : Item). is_call_of number item.op) func.items

-- an item of the task code does
abbrev pub is_wanted : ℕ → App → Bool
is_wanted number app = list_any (is_called_by number) app.funcs

-- whether one does, for each place in the table of blocks
unfoldable pub wanted_blocks : App → List Bool
wanted_blocks app = map (λ number. is_wanted number app) (range_with_len 0 block_count)
