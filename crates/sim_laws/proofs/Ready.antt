-- Every block that was linked can run.
use Rattle.std.specs.Prelude.{slice_index_or}
use Rattle.std.proofs.Common.{◌-◌}
use Rattle.sloth_base.specs.MemoryMap.{memory_base}
use Rattle.rv32_instr.specs.declared.block.Block.{Block}
use Rattle.sim_relation.proofs.Placed.{placed_in, code_behind}
use Rattle.sim_laws.specs.Zones.{build_of, BlocksCanRun}
use Rattle.sim_laws.proofs.Fitting.{zones_fit, blocks_are_placed}

pub blocks_can_run : BlocksCanRun
blocks_can_run config app map bounds back memory blocks core z few parts calls y ba r c s some controller registers zero lines same = λ k d l.
    let block : Block = slice_index_or blocks k d in
    let b = build_of config app map bounds back memory in
    let p = blocks_are_placed config app map bounds back memory blocks z r c s k d l in
    record {
      controller = controller;
      registers = registers;
      zero = zero;
      lines = lines;
      aligned = p.aligned;
      behind = code_behind b (block.at - memory_base) block.code (zones_fit config app map bounds back memory z few parts calls y ba) (some k d l) p;
      inside = p.inside;
      placed = placed_in b core.ram (block.at - memory_base) block.code same p;
    }
