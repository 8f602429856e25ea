-- What decides where a way through a run ends, as a state of the machine shows it: with the arrivals of its count, before a line is taken.
use Rattle.std.specs.Prelude.{ℕ, ◌/◌, ◌%◌, ◌==◌, ◌&&◌, nat_le, List, Option, None, Some, Bool, true, false, not, is_none, if◌then◌else◌}
use Rattle.std.specs.Option.{unwrap_or}
use Rattle.sloth_base.specs.Machine.{State}
use Rattle.sloth_base.specs.Take.{line_to_take, execution_state}
use Rattle.sloth_base.specs.Arithmetic.{size_of}
use Rattle.sloth_base.specs.declared.app.Width.TheVariants as width
use Rattle.rv32_instr.specs.declared.csr.TheConstants.{MSTATUS}
use Rattle.rv32_instr.specs.declared.encoding.Bad.{Bad}
use Rattle.rv32_instr.specs.declared.encoding.Change.{Change}
use Rattle.rv32_instr.specs.declared.encoding.Change.TheVariants.{Keep, Replace, Set, Clear}
use Rattle.rv32_instr.specs.declared.encoding.Effect.{Effect}
use Rattle.rv32_instr.specs.declared.encoding.Effect.TheVariants.{Load, Store, Csr, Return}
use Rattle.rv32_instr.specs.declared.InstrKind.{InstrKind}
use Rattle.rv32_instr.specs.Effect.{effect}
use Rattle.rv32_instr.specs.Table.{Decode}
use Rattle.rv32_instr.specs.Memory.{Memory, memory_of, refusal, loaded_number}
use Rattle.sloth_inspect.specs.States.{running_number_in}
use Rattle.debug_ways.specs.declared.standing.Access.{Access}
use Rattle.debug_ways.specs.declared.standing.Look.{Look}

-- ---- the instruction

-- what is there, unless it is refused
abbrev pub unless_refused : Option Bad → Option InstrKind → Option InstrKind
unless_refused None instr = instr
unless_refused (Some bad) instr = None

-- the instruction at an address, if the word there is one's
abbrev pub fetched_instr : Memory → ℕ → Option InstrKind
fetched_instr memory address = unless_refused (refusal memory address width.Word) (Decode (loaded_number memory address width.Word))

-- what an instruction does, if it is one
abbrev pub instr_effect : Option InstrKind → (pc : ℕ) → (registers : List ℕ) → Option Effect
instr_effect None pc registers = None
instr_effect (Some kind) pc registers = Some (effect kind pc registers)

-- what the next instruction does, which is a vector word where a line is taken before it
abbrev pub effect_of : State → Option Effect
effect_of state =
    instr_effect (fetched_instr (memory_of state.core) (execution_state state).pc) (execution_state state).pc state.core.registers

-- the load or store that an effect is
abbrev pub effect_access : Option Effect → Option Access
effect_access (Some (Load width rd address)) = Some (record { address = address; length = size_of width; stores = false })
effect_access (Some (Store width address value)) = Some (record { address = address; length = size_of width; stores = true })
effect_access _ = None

-- MIE, which is 1, stays so behind a change of mstatus
abbrev pub change_keeps_open : Change → Bool
change_keeps_open Keep = true
change_keeps_open (Replace value) = value / 8 % 2 == 1
change_keeps_open (Set bits) = true
change_keeps_open (Clear bits) = bits / 8 % 2 == 0

-- MIE, which is 1, stays so behind an effect; MRET makes it what MPIE is
abbrev pub keeps_open : Option Effect → (behind_return : Bool) → Bool
keeps_open (Some (Csr rd csr change)) behind_return = if csr == MSTATUS then change_keeps_open change else true
keeps_open (Some Return) behind_return = behind_return
keeps_open _ behind_return = true

-- ---- stretches

-- no line is taken before the next instruction, and MIE is 1 before and behind it: it is in no stretch
abbrev pub is_plain : State → Bool
is_plain state = state.core.mie && (is_none (line_to_take state) && keeps_open (effect_of state) state.core.mpie)

-- it begins the stretch of a service: MIE is 1 before it, and no line is taken, but it is not plain
abbrev pub is_opening : State → Bool
is_opening state = state.core.mie && (is_none (line_to_take state) && not (is_plain state))

-- ---- tasks

-- the number of a task and 1 more, or 0 where there are not so many
abbrev pub named : (tasks number : ℕ) → ℕ
named tasks number = if nat_le number tasks then number else 0

-- that of the one that runs; in a stretch that began before this count the number that stood at its beginning
abbrev pub running_code : (tasks : ℕ) → (began : Option ℕ) → State → ℕ
running_code tasks began state = named tasks (unwrap_or began (running_number_in (memory_of state.core)))

-- ---- all of it

abbrev pub machine_look : (tasks : ℕ) → (began open_count : Option ℕ) → State → Look
machine_look tasks began open_count state = record {
  pc = (execution_state state).pc;
  running = running_code tasks began state;
  masked = not (is_plain state);
  serves = is_opening state;
  access = effect_access (effect_of state);
  open_count = open_count;
}
