-- The registers and bytes that a state of the machine shows: with a line taken before the next instruction, where one is chosen.
use Rattle.std.specs.Prelude.{ℕ, ◌+◌, ◌-◌, ◌==◌, ◌||◌, nat_lt, Option, None, Some, Bool, false, if◌then◌else◌, slice_index}
use Rattle.std.specs.Option.{unwrap_or}
use Rattle.sloth_base.specs.Machine.{Core, State}
use Rattle.sloth_base.specs.Take.{line_to_take, execution_state}
use Rattle.sloth_base.specs.MemoryMap.{controller_base}
use Rattle.sloth_base.specs.declared.app.Width.TheVariants as width
use Rattle.rv32_instr.specs.declared.csr.TheConstants.{MSTATUS, MSCRATCH, MEPC, ILEVEL, PLEVEL}
use Rattle.rv32_instr.specs.Execute.{csr_value}
use Rattle.rv32_instr.specs.Memory.{memory_of, refusal, loaded_number}
use Rattle.sloth_inspect.specs.States.{running_number_in}
use Rattle.debug_view.specs.Contexts.{unless_bad, kept_register}
use Rattle.debug_view.specs.Looks.{named, running_code}

-- the CSR of a register's number: 33 to 37
abbrev pub csr_number : ℕ → ℕ
csr_number number =
    if number == 33 then MSTATUS
    else if number == 34 then MSCRATCH
    else if number == 35 then MEPC
    else if number == 36 then ILEVEL
    else PLEVEL

-- its value
abbrev pub executed_csr : Core → ℕ → ℕ
executed_csr core number = unwrap_or (csr_value core (csr_number number)) 0

-- a register in the state in which an instruction is executed: x0 to x31, pc, and five CSRs
abbrev pub executed_register : State → ℕ → ℕ
executed_register state number =
    if nat_lt number 32 then slice_index state.core.registers number
    else if number == 32 then state.pc
    else executed_csr state.core number

-- a register of the machine
abbrev pub machine_register : State → ℕ → ℕ
machine_register state number = executed_register (execution_state state) number

-- the registers of a thread are those of the machine: it is the machine itself, or what runs, or the task that stands as the running one in memory
abbrev pub is_live : (tasks : ℕ) → (began : Option ℕ) → State → (thread : ℕ) → Bool
is_live tasks began state thread =
    thread == 1 || (named tasks (running_number_in (memory_of state.core)) + 1 == thread || running_code tasks began state + 1 == thread)

-- a register of a thread, where it is known
abbrev pub thread_register : (tasks : ℕ) → (began : Option ℕ) → State → (thread number : ℕ) → Option ℕ
thread_register tasks began state thread number =
    if is_live tasks began state thread
    then Some (machine_register state number)
    else kept_register (memory_of state.core) tasks (thread - 2) number

-- an address is the pending byte of a line
abbrev pub is_pending_byte : Option ℕ → ℕ → Bool
is_pending_byte None address = false
is_pending_byte (Some line) address = controller_base + line == address

-- the byte at an address; that of the line that is taken reads 0
abbrev pub shown_byte : State → ℕ → Option ℕ
shown_byte state address =
    if is_pending_byte (line_to_take state) address then Some 0
    else unless_bad (refusal (memory_of state.core) address width.ByteU) (loaded_number (memory_of state.core) address width.ByteU)
