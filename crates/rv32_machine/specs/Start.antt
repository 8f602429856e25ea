-- The machine as it starts: the image's bytes and then zeros in RAM, and zero in all else.
use Rattle.std.specs.Prelude.{replicate, false}
use Rattle.sloth_base.specs.declared.image.Image.{Image}
use Rattle.sloth_base.specs.Machine.{State}
use Rattle.sloth_base.specs.MemoryMap.{boot_base}
use Rattle.irq_ctrl.specs.Fresh.{fresh_lines}
use Rattle.rv32_instr.specs.Memory.{Memory}
use Rattle.machine_memory.specs.Fresh.{ram_of}
use Rattle.machine_memory.specs.Fresh.{sloth_start}

-- what a bus without a controller starts with
abbrev pub flat_start : Image → Memory
flat_start image = record { ram = ram_of image.memory; lines = fresh_lines; controller = false }

-- the hart over a memory
abbrev pub start_over : Memory → State
start_over memory = record {
  pc = boot_base;
  core = record {
    registers = replicate 32 0;
    mie = false;
    mpie = false;
    mscratch = 0;
    mepc = 0;
    ilevel = 0;
    plevel = 0;
    ram = memory.ram;
    pending = memory.lines.pending;
    enabled = memory.lines.enabled;
    levels = memory.lines.levels;
    controller = memory.controller;
  };
}

-- the state in which an image starts
abbrev pub start : Image → State
start image = start_over (sloth_start image)
