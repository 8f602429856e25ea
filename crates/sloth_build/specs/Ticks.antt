-- The ticks of all counters.
use Rattle.std.specs.Prelude.{ℕ, ◌≡◌, [], slice_index}
use Rattle.sloth_base.specs.declared.config.Config.{Config}
use Rattle.sloth_base.specs.Owners.{counter_line}
use Rattle.sloth_region.specs.declared.region.Map.{Map}
use Rattle.rv32_instr.specs.declared.block.Block.{Block}
use Rattle.sim_routines.specs.TickSteps.{IsTick}

-- the tick of one counter
pub record IsTickBlock (config : Config) (map : Map) (c : ℕ) (block : Block) : Type 0 where
  pub at : block.at ≡ slice_index map.handlers (counter_line c)
  pub marks : block.marks ≡ []
  pub is_tick : IsTick config c block.code
