-- The instructions of an item in their 36 places.
use Rattle.std.specs.Prelude.{◌-◌, ◌≡◌, List, ◌++◌, length}
use Rattle.std.proofs.Math.ListN.{replicate}
use Rattle.rv32_instr.specs.declared.InstrKind.{InstrKind}
use Rattle.rv32_expand.specs.Nothing.{nop}
use Rattle.rv32_expand.specs.declared.lengths.Expansion.{Expansion}

-- these instructions, and behind them ones that do nothing
pub record IsCode (kinds : List InstrKind) (expansion : Expansion) : Type 0 where
  pub len : expansion.len ≡ length kinds
  pub code : expansion.code ≡ kinds ++ replicate (36 - length kinds) nop
