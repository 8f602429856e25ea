-- Where a run stands at a count.
use Rattle.std.specs.Prelude.{ℕ, List, Option, Some, None}
use Rattle.sloth_base.specs.declared.service.Arrival.{Arrival}
use Rattle.sloth_base.specs.declared.image.Image.{Image}
use Rattle.sloth_base.specs.Machine.{State}
use Rattle.rv32_machine.specs.Start.{start}
use Rattle.rv32_machine.specs.Run.{state_after}

-- the address in a state that a run gets to
abbrev pub address_in : Option State → ℕ
address_in None = 0
address_in (Some state) = state.pc

-- that behind so many instructions: of the next one, where no line is taken
abbrev pub address_behind : Image → List Arrival → ℕ → ℕ
address_behind image arrivals n = address_in (state_after n arrivals (start image))
