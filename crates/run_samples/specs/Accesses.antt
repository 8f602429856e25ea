-- What arrivals and masked code do with the pending bytes of lines.
use Rattle.std.specs.Prelude.{ℕ, ◌+◌, ◌-◌, ◌==◌, ◌&&◌, not, nat_lt, Bool, true, false, if◌then◌else◌, List, [], ◌∷◌, get_or, replicate, slice_index, slice_set, Option, Some, None}
use Rattle.sloth_base.specs.Arithmetic.{plus}
use Rattle.sloth_base.specs.Arrivals.{moments}
use Rattle.sloth_base.specs.Limits.{task_limit}
use Rattle.sloth_base.specs.Machine.{State}
use Rattle.sloth_base.specs.MemoryMap.{line_count}
use Rattle.sloth_base.specs.Owners.{first_counter_line}
use Rattle.sloth_base.specs.declared.app.Width.TheVariants as width
use Rattle.sloth_base.specs.declared.service.Arrival.{Arrival}
use Rattle.sloth_base.specs.declared.numbers.Step.{Step}
use Rattle.osek_scheduler.specs.declared.state.TaskState.{TaskState}
use Rattle.osek_scheduler.specs.declared.state.TaskState.TheVariants as mode
use Rattle.rv32_instr.specs.Execute.{pending_line}
use Rattle.rv32_instr.specs.Memory.{Memory, memory_of, refusal, loaded_number}
use Rattle.rv32_instr.specs.Table.{Decode}
use Rattle.rv32_instr.specs.declared.InstrKind.{InstrKind}
use Rattle.rv32_instr.specs.declared.InstrKind.TheVariants as instr
use Rattle.rv32_instr.specs.declared.encoding.Bad.{Bad}
use Rattle.sloth_inspect.specs.States.{states_in, is_pending_in}
use Rattle.run_samples.specs.declared.accesses.Access.{Access}
use Rattle.run_samples.specs.declared.accesses.AccessKind.{AccessKind}
use Rattle.run_samples.specs.declared.accesses.AccessKind.TheVariants as kind

-- ---- arrivals

-- A task waits for events. While boot runs no line is enabled, and no task waits for any.
abbrev pub is_waiting : TaskState → Bool
is_waiting mode.Suspended = false
is_waiting mode.Ready = false
is_waiting mode.Active = false
is_waiting (mode.Waiting mask) = not (mask == 0)

-- the line is that of a task that waits for events
abbrev pub is_waiting_line : Memory → ℕ → Bool
is_waiting_line memory line = nat_lt line first_counter_line && is_waiting (get_or (states_in memory task_limit) line mode.Suspended)

-- a line can be raised: it is not pending, and its task does not wait
abbrev pub can_raise : Memory → ℕ → Bool
can_raise memory line = not (is_pending_in memory line) && not (is_waiting_line memory line)

-- an arrival that raises its line, or that finds that it can't
abbrev pub arrival_kind : (raises : Bool) → AccessKind
arrival_kind raises = if raises then kind.Raises else kind.Finds

-- one that comes behind others of its moment, which have raised these lines; memory and controller are so in front of them all
abbrev pub arrival_access : Memory → (raised : List ℕ) → Arrival → Access
arrival_access memory raised arrival = record {
  arrival = arrival;
  kind = arrival_kind ((slice_index raised arrival.line == 0) && can_raise memory arrival.line);
}

-- those of a moment, each behind the ones before it
abbrev pub arrival_accesses : Memory → (raised : List ℕ) → List Arrival → List Access
arrival_accesses memory raised [] = []
arrival_accesses memory raised (arrival ∷ arrivals) =
    arrival_access memory raised arrival ∷ arrival_accesses memory (slice_set raised arrival.line 1) arrivals

-- those of a count whose state in front of them is known: the machine does not stop before it
abbrev pub accesses_at : List Arrival → (count : ℕ) → Option State → List Access
accesses_at arrivals count None = []
accesses_at arrivals count (Some state) = arrival_accesses (memory_of state.core) (replicate line_count 0) (moments count (count + 1) arrivals)

-- ---- code

-- the instruction at an address, if it may be fetched there and is one
abbrev pub fetched_unless : Option Bad → Memory → (address : ℕ) → Option InstrKind
fetched_unless None memory address = Decode (loaded_number memory address width.Word)
fetched_unless (Some bad) memory address = None

abbrev pub fetched : Memory → (address : ℕ) → Option InstrKind
fetched memory address = fetched_unless (refusal memory address width.Word) memory address

-- the line to whose pending byte an instruction stores; of the stores only that of a byte gets there
abbrev pub stored_line : InstrKind → (registers : List ℕ) → Option ℕ
stored_line (instr.Sb rs1 rs2 imm) registers = pending_line (plus (slice_index registers rs1) imm)
stored_line _ registers = None

abbrev pub stored_line_of : Option InstrKind → (registers : List ℕ) → Option ℕ
stored_line_of None registers = None
stored_line_of (Some kind) registers = stored_line kind registers

-- a store, or else a load of what a step touched
abbrev pub access_of : (count : ℕ) → (stored touched : Option ℕ) → Option Access
access_of count (Some line) touched = Some (record { arrival = record { at = count; line = line }; kind = kind.Stores })
access_of count None (Some line) = Some (record { arrival = record { at = count; line = line }; kind = kind.Loads })
access_of count None None = None

-- what a step that finds MIE 0 does with a pending byte, where it left this memory: a store leaves the registers, and its own word, as they were
abbrev pub code_access : Step → Memory → Option Access
code_access step memory =
    if step.enabled_before then None else access_of step.count (stored_line_of (fetched memory step.pc) step.regs) step.touched
