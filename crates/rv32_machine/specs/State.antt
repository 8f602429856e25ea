-- The state of a machine: its hart's registers, and the memory that its bus shows.
use Rattle.std.specs.Prelude.{ℕ, slice_set}
use Rattle.sloth_base.specs.Machine.{Core, State}
use Rattle.rv32_instr.specs.Memory.{Memory}
use Rattle.rv32_machine.specs.declared.machine.Hart.{Hart}
use Rattle.rv32_machine.specs.declared.machine.Machine.{Machine}

-- the machine of a hart and its memory, without the pc
abbrev pub core_of : Hart → Memory → Core
core_of hart memory = record {
  registers = hart.registers;
  mie = hart.mie;
  mpie = hart.mpie;
  mscratch = hart.mscratch;
  mepc = hart.mepc;
  ilevel = hart.ilevel;
  plevel = hart.plevel;
  ram = memory.ram;
  pending = memory.lines.pending;
  enabled = memory.lines.enabled;
  levels = memory.lines.levels;
  controller = memory.controller;
}

-- the same with the pc
abbrev pub state_of : Hart → Memory → State
state_of hart memory = record { pc = hart.pc; core = core_of hart memory }

-- `memory` says what a bus shows
abbrev pub state : {B : Type 0} → (B → Memory) → Machine B → State
state memory machine = state_of machine.hart (memory machine.bus)

-- the memory with a line pending
abbrev pub pending_memory : ℕ → Memory → Memory
pending_memory line memory =
    record memory { lines = record memory.lines { pending = slice_set memory.lines.pending line 1 } }
