-- The memory of a bus without a controller.
use Rattle.std.specs.Prelude.{false}
use Rattle.irq_ctrl.specs.Fresh.{fresh_lines}
use Rattle.rv32_instr.specs.Memory.{Memory}
use Rattle.rv32_machine.specs.declared.effect.FlatBus.{FlatBus}

-- what an access to RAM alone sees
abbrev pub flat_memory : FlatBus → Memory
flat_memory bus = record { ram = bus.ram; lines = fresh_lines; controller = false }
