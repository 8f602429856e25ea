-- One instruction of the machine: what it leaves, or why it stops, which changes nothing.
use Rattle.std.specs.Prelude.{ℕ, zero, suc, ◌+◌, ◌-◌, ◌/◌, ◌%◌, ◌^◌, Option, Some, None, true, if◌then◌else◌, ◌==◌, ◌&&◌, nat_le, nat_lt, bit_and, bit_or, slice_set}
use Rattle.sloth_base.specs.Machine.{Core, State}
use Rattle.rv32_instr.specs.declared.encoding.Bad.{Bad}
use Rattle.rv32_instr.specs.declared.encoding.Bad.TheVariants as bad
use Rattle.rv32_instr.specs.declared.encoding.Stop.{Stop}
use Rattle.rv32_instr.specs.declared.encoding.Stop.TheVariants as stop
use Rattle.rv32_instr.specs.declared.csr.TheConstants.{MSTATUS, MSCRATCH, MEPC, ILEVEL, PLEVEL}
use Rattle.rv32_instr.specs.declared.encoding.Change.{Change}
use Rattle.rv32_instr.specs.declared.encoding.Change.TheVariants.{Keep, Replace, Set, Clear}
use Rattle.rv32_instr.specs.declared.encoding.Effect.{Effect}
use Rattle.rv32_instr.specs.declared.encoding.Effect.TheVariants.{Nothing, Write, Branch, Jump, Load, Store, Csr, Environment, Return}
use Rattle.rv32_instr.specs.declared.InstrKind.{InstrKind}
use Rattle.rv32_instr.specs.Encode.{Encode}
use Rattle.rv32_instr.specs.Table.{Decode}
use Rattle.rv32_instr.specs.Ram.{word_at}
use Rattle.rv32_instr.specs.Memory.{memory_of, with_memory, in_ram, refusal, loaded_number, stored_memory}
use Rattle.rv32_instr.specs.Effect.{effect}
use Rattle.sloth_base.specs.Arithmetic.{sum32}
use Rattle.sloth_base.specs.MemoryMap.{memory_base, controller_base, line_count}

-- the state after an instruction, or why there is none
pub data Next : Type 0 where
  Going : State → Next
  Stopped : Stop → Next

-- a register's new value; x0 stays zero
abbrev pub with_register : Core → ℕ → ℕ → Core
with_register core zero value = core
with_register core (suc number) value = record core { registers = slice_set core.registers (suc number) value }

-- mstatus: MIE in bit 3 and MPIE in bit 7; other bits read zero
abbrev pub mstatus_of : Core → ℕ
mstatus_of core = (if core.mie then 8 else 0) + (if core.mpie then 128 else 0)

-- the value of a CSR, where it is there
abbrev pub csr_value : Core → ℕ → Option ℕ
csr_value core csr =
    if csr == MSTATUS then Some (mstatus_of core)
    else if csr == MSCRATCH then Some core.mscratch
    else if csr == MEPC then Some core.mepc
    else if csr == ILEVEL then Some core.ilevel
    else if csr == PLEVEL then Some core.plevel
    else None

-- what a write leaves: mepc ends in two zero bits, ilevel and plevel keep the low 8
abbrev pub with_csr : Core → ℕ → ℕ → Core
with_csr core csr value =
    if csr == MSTATUS then record core { mie = value / 8 % 2 == 1; mpie = value / 128 % 2 == 1 }
    else if csr == MSCRATCH then record core { mscratch = value }
    else if csr == MEPC then record core { mepc = value - value % 4 }
    else if csr == ILEVEL then record core { ilevel = value % 256 }
    else if csr == PLEVEL then record core { plevel = value % 256 }
    else core

-- what a change of a CSR with this old value leaves
abbrev pub changed_core : Change → ℕ → ℕ → Core → Core
changed_core Keep csr old core = core
changed_core (Replace value) csr old core = with_csr core csr value
changed_core (Set bits) csr old core = with_csr core csr (bit_or old bits)
changed_core (Clear bits) csr old core = with_csr core csr (bit_and old (2 ^ 32 - 1 - bits))

-- the next instruction is the one behind
abbrev pub next_behind : ℕ → Core → Next
next_behind pc core = Going (record { pc = sum32 pc 4; core = core })

-- the next instruction is at the target, a multiple of 4
abbrev pub next_at_target : ℕ → Core → Next
next_at_target target core =
    if target % 4 == 0 then Going (record { pc = target; core = core }) else Stopped (stop.Misaligned target)

-- an access, unless it is refused
abbrev pub unless_refused : Option Bad → ℕ → Next → Next
unless_refused None address next = next
unless_refused (Some bad.Misaligned) address next = Stopped (stop.Misaligned address)
unless_refused (Some bad.Access) address next = Stopped (stop.Access address)

-- the old value goes to the register, whatever the change
abbrev pub csr_access : Option ℕ → ℕ → Change → ℕ → ℕ → ℕ → Core → Next
csr_access None rd change csr word pc core = Stopped (stop.Illegal word)
csr_access (Some old) rd change csr word pc core = next_behind pc (with_register (changed_core change csr old core) rd old)

-- an effect, of the instruction with this word at this address
unfoldable pub perform : Effect → ℕ → ℕ → Core → Next
perform Nothing word pc core = next_behind pc core
perform (Write rd value) word pc core = next_behind pc (with_register core rd value)
perform (Branch taken target) word pc core = if taken then next_at_target target core else next_behind pc core
perform (Jump rd target) word pc core = next_at_target target (with_register core rd (sum32 pc 4))
perform (Load width rd address) word pc core =
    unless_refused (refusal (memory_of core) address width) address
    (next_behind pc (with_register core rd (loaded_number (memory_of core) address width)))
perform (Store width address value) word pc core =
    unless_refused (refusal (memory_of core) address width) address
    (next_behind pc (with_memory core (stored_memory (memory_of core) address width value)))
perform (Csr rd csr change) word pc core = csr_access (csr_value core csr) rd change csr word pc core
perform Environment word pc core = Stopped stop.Environment
perform Return word pc core =
    Going (record { pc = core.mepc; core = record core { ilevel = core.plevel; mie = core.mpie; mpie = true } })

-- an instruction at an address
unfoldable pub execute : InstrKind → ℕ → Core → Next
execute kind pc core = perform (effect kind pc core.registers) (Encode kind) pc core

-- the word that pc points to
abbrev pub word_at_pc : State → ℕ
word_at_pc state = word_at state.core.ram (state.pc - memory_base)

-- a word that is an instruction, or that is none
abbrev pub execute_word : Option InstrKind → ℕ → State → Next
execute_word None word state = Stopped (stop.Illegal word)
execute_word (Some kind) word state = execute kind state.pc state.core

-- fetch, decode and execute
unfoldable pub step : State → Next
step state =
    if in_ram state.pc 4 then execute_word (Decode (word_at_pc state)) (word_at_pc state) state
    else Stopped (stop.Fetch state.pc)

-- the line that a controller address is the pending byte of
abbrev pub pending_line : ℕ → Option ℕ
pending_line address =
    if nat_le controller_base address && nat_lt address (controller_base + line_count) then Some (address - controller_base) else None

-- the line whose pending byte an effect loads, or sets to zero by a store
unfoldable pub touched_line_by : Effect → Option ℕ
touched_line_by (Load width rd address) = pending_line address
touched_line_by (Store width address value) = if value % 256 == 0 then pending_line address else None
touched_line_by effect = None

-- the line that the decoded instruction touches in this state
abbrev pub touched_line_on : Option InstrKind → State → Option ℕ
touched_line_on None state = None
touched_line_on (Some kind) state = touched_line_by (effect kind state.pc state.core.registers)

-- the line that the next instruction touches
unfoldable pub touched : State → Option ℕ
touched state = touched_line_on (Decode (word_at_pc state)) state
