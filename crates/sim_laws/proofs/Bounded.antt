-- Each instruction of a run leaves numbers that have room.
use Rattle.std.proofs.Common.{◌≡◌, ℕ, zero, suc, ◌+◌, ◌-◌, ◌/◌, ◌%◌, ◌^◌, ◌<◌, List, [], ◌∷◌, refl, subst, arith, Bool, true, false, Option, Some, None}
use Rattle.std.specs.Prelude.{◌==◌, IfSome, if◌then◌else◌, bit_and, bit_or}
use Rattle.std.proofs.lemmas.Nat.{or_lt}
use Rattle.sloth_base.specs.declared.app.Width.{Width}
use Rattle.sloth_base.specs.declared.app.Width.TheVariants as width
use Rattle.sloth_base.specs.declared.service.Arrival.{Arrival}
use Rattle.sloth_base.specs.declared.numbers.Step.{Step}
use Rattle.sloth_base.specs.Machine.{Core, State}
use Rattle.sloth_base.specs.Lines.{Lines, controller_byte, with_controller_byte, flag_of}
use Rattle.sloth_base.specs.Arrive.{state_arrive}
use Rattle.sloth_base.specs.Take.{line_to_take, entry_state, execution_state}
use Rattle.sloth_base.specs.MemoryMap.{memory_base, controller_base}
use Rattle.rv32_instr.specs.declared.csr.TheConstants.{MSTATUS, MSCRATCH, MEPC, ILEVEL, PLEVEL}
use Rattle.rv32_instr.specs.declared.encoding.Bad.{Bad}
use Rattle.rv32_instr.specs.declared.encoding.Bad.TheVariants as bad
use Rattle.rv32_instr.specs.declared.encoding.Stop.TheVariants as stop
use Rattle.rv32_instr.specs.declared.encoding.Change.{Change}
use Rattle.rv32_instr.specs.declared.encoding.Change.TheVariants.{Keep, Replace, Set, Clear}
use Rattle.rv32_instr.specs.declared.encoding.Effect.{Effect}
use Rattle.rv32_instr.specs.declared.encoding.Effect.TheVariants.{Nothing, Write, Branch, Jump, Load, Store, Csr, Environment, Return}
use Rattle.rv32_instr.specs.declared.InstrKind.{InstrKind}
use Rattle.rv32_instr.specs.Encode.{Encode}
use Rattle.rv32_instr.specs.Table.{Decode}
use Rattle.rv32_instr.specs.Effect.{effect}
use Rattle.rv32_instr.specs.Ram.{half_at, with_byte, with_half, with_word}
use Rattle.rv32_instr.specs.Memory.{Memory, memory_of, with_memory, in_ram, refusal, loaded_byte, loaded_number, stored_byte, stored_memory}
use Rattle.rv32_instr.specs.Execute.{Next, Going, Stopped, with_register, mstatus_of, csr_value, with_csr, changed_core, next_behind, next_at_target, unless_refused, csr_access, perform, execute, execute_word, step, word_at_pc}
use Rattle.rv32_instr.proofs.Table.{decode_is}
use Rattle.masked_code.proofs.Words.{word_below}
use Rattle.rv32_machine.specs.Advance.{Goes, advance, outcome}
use Rattle.rv32_machine.specs.Run.{moment, state_with_arrivals}
use Rattle.sim_induction.specs.Admits.{lines_at}
use Rattle.sim_relation.specs.Bounds.{AreBelow}
use Rattle.sim_laws.specs.Bounded.{CoreBounded, IsBounded}
use Rattle.sim_laws.proofs.Results.{set_below, mod_fits, signed_fits, and_fits, ChangeFits, EffectFits, effect_fits}

-- ---- registers and memory

register_fits : (core : Core) (rd value : ℕ) → CoreBounded core → value < 4294967296 → CoreBounded (with_register core rd value)
register_fits core zero value h l = h
register_fits core (suc rd) value h l = record {
  registers = set_below 4294967296 core.registers (suc rd) value h.registers l;
  scratch = h.scratch;
  return_address = h.return_address;
  level = h.level;
  previous_level = h.previous_level;
  bytes = h.bytes;
  pending = h.pending;
  enabled = h.enabled;
  levels = h.levels;
}

record MemoryBounded (memory : Memory) : Type 0 where
  bytes : AreBelow 256 memory.ram
  pending : AreBelow 256 memory.lines.pending
  enabled : AreBelow 256 memory.lines.enabled
  levels : AreBelow 256 memory.lines.levels

pick_below : (bound : ℕ) (b : Bool) (x y : ℕ) → x < bound → y < bound → (if b then x else y) < bound
pick_below bound true x y h l = h
pick_below bound false x y h l = l

controller_fits : (m : Memory) (offset : ℕ) → MemoryBounded m → controller_byte m.lines offset < 256
unfolding controller_byte
controller_fits m offset h = pick_below 256 _ _ _ (h.pending offset) (pick_below 256 _ _ _ (h.enabled (offset - 32)) (h.levels (offset - 64)))

byte_fits : (m : Memory) (address : ℕ) → MemoryBounded m → loaded_byte m address < 256
byte_fits m address h = pick_below 256 _ _ _ (h.bytes (address - memory_base)) (controller_fits m (address - controller_base) h)

half_fits : (ram : List ℕ) (offset : ℕ) → AreBelow 256 ram → half_at ram offset < 65536
unfolding half_at
half_fits ram offset h = let a = h offset in let b = h (offset + 1) in omega arith

loaded_fits : (m : Memory) (address : ℕ) (w : Width) → MemoryBounded m → loaded_number m address w < 4294967296
unfolding loaded_number
loaded_fits m address width.Byte h = let a = byte_fits m address h in signed_fits 8 (loaded_byte m address) a (omega arith)
loaded_fits m address width.Half h = let a = half_fits m.ram (address - memory_base) h.bytes in signed_fits 16 (half_at m.ram (address - memory_base)) a (omega arith)
loaded_fits m address width.Word h = word_below m.ram (address - memory_base) h.bytes
loaded_fits m address width.ByteU h = let a = byte_fits m address h in omega arith
loaded_fits m address width.HalfU h = let a = half_fits m.ram (address - memory_base) h.bytes in omega arith

written_below : (ram : List ℕ) (offset value : ℕ) → AreBelow 256 ram → AreBelow 256 (with_byte ram offset value)
written_below ram offset value h = set_below 256 ram offset (value % 256) h (omega arith)

half_below : (ram : List ℕ) (offset value : ℕ) → AreBelow 256 ram → AreBelow 256 (with_half ram offset value)
unfolding with_half
half_below ram offset value h = written_below _ _ _ (written_below _ _ _ h)

whole_below : (ram : List ℕ) (offset value : ℕ) → AreBelow 256 ram → AreBelow 256 (with_word ram offset value)
unfolding with_word
whole_below ram offset value h = written_below _ _ _ (written_below _ _ _ (written_below _ _ _ (written_below _ _ _ h)))

ram_fits : (m : Memory) (ram : List ℕ) → MemoryBounded m → AreBelow 256 ram → MemoryBounded (record m { ram = ram })
ram_fits m ram h l = record { bytes = l; pending = h.pending; enabled = h.enabled; levels = h.levels }

pick_memory : (b : Bool) (x y : Memory) → MemoryBounded x → MemoryBounded y → MemoryBounded (if b then x else y)
pick_memory true x y h l = h
pick_memory false x y h l = l

pick_lines : (m : Memory) (b : Bool) (x y : Lines) → MemoryBounded (record m { lines = x }) → MemoryBounded (record m { lines = y }) → MemoryBounded (record m { lines = if b then x else y })
pick_lines m true x y h l = h
pick_lines m false x y h l = l

flag_fits : (value : ℕ) → flag_of value < 256
flag_fits value = pick_below 256 _ 0 1 (omega arith) (omega arith)

line_fits : (m : Memory) (offset value : ℕ) → MemoryBounded m → value < 256 → MemoryBounded (record m { lines = with_controller_byte m.lines offset value })
unfolding with_controller_byte
line_fits m offset value h l =
    pick_lines m _ _ _
    (record { bytes = h.bytes; pending = set_below 256 m.lines.pending offset (flag_of value) h.pending (flag_fits value); enabled = h.enabled; levels = h.levels })
    (pick_lines m _ _ _
    (record { bytes = h.bytes; pending = h.pending; enabled = set_below 256 m.lines.enabled (offset - 32) (flag_of value) h.enabled (flag_fits value); levels = h.levels })
    (record { bytes = h.bytes; pending = h.pending; enabled = h.enabled; levels = set_below 256 m.lines.levels (offset - 64) value h.levels l }))

stored_byte_fits : (m : Memory) (address value : ℕ) → MemoryBounded m → MemoryBounded (stored_byte m address value)
stored_byte_fits m address value h =
    pick_memory _ _ _ (ram_fits m _ h (written_below m.ram (address - memory_base) value h.bytes)) (line_fits m (address - controller_base) (value % 256) h (omega arith))

stored_fits : (m : Memory) (address : ℕ) (w : Width) (value : ℕ) → MemoryBounded m → MemoryBounded (stored_memory m address w value)
unfolding stored_memory
stored_fits m address width.Byte value h = stored_byte_fits m address value h
stored_fits m address width.Half value h = ram_fits m _ h (half_below m.ram (address - memory_base) value h.bytes)
stored_fits m address width.Word value h = ram_fits m _ h (whole_below m.ram (address - memory_base) value h.bytes)
stored_fits m address width.ByteU value h = stored_byte_fits m address value h
stored_fits m address width.HalfU value h = ram_fits m _ h (half_below m.ram (address - memory_base) value h.bytes)

memory_fits : (core : Core) → CoreBounded core → MemoryBounded (memory_of core)
memory_fits core h = record { bytes = h.bytes; pending = h.pending; enabled = h.enabled; levels = h.levels }

core_fits : (core : Core) (m : Memory) → CoreBounded core → MemoryBounded m → CoreBounded (with_memory core m)
core_fits core m h l = record {
  registers = h.registers;
  scratch = h.scratch;
  return_address = h.return_address;
  level = h.level;
  previous_level = h.previous_level;
  bytes = l.bytes;
  pending = l.pending;
  enabled = l.enabled;
  levels = l.levels;
}

-- ---- CSRs

status_fits : (core : Core) → mstatus_of core < 4294967296
status_fits core = by core.mie core.mpie
  where
    by : (a b : Bool) → (if a then 8 else 0) + (if b then 128 else 0) < 4294967296
    by true true = omega arith
    by true false = omega arith
    by false true = omega arith
    by false false = omega arith

byte_word : (v : ℕ) → v < 256 → v < 4294967296
byte_word v h = omega arith

csr_fits : (core : Core) (csr : ℕ) → CoreBounded core → IfSome (csr_value core csr) (λ v. v < 4294967296)
csr_fits core csr h = by (csr == MSTATUS) (csr == MSCRATCH) (csr == MEPC) (csr == ILEVEL) (csr == PLEVEL)
  where
    by : (a b c d e : Bool) → IfSome (if a then Some (mstatus_of core) else if b then Some core.mscratch else if c then Some core.mepc else if d then Some core.ilevel else if e then Some core.plevel else None) (λ v. v < 4294967296)
    by true b c d e = status_fits core
    by false true c d e = h.scratch
    by false false true d e = h.return_address
    by false false false true e = byte_word core.ilevel h.level
    by false false false false true = byte_word core.plevel h.previous_level
    by false false false false false = tt

aligned_fits : (v : ℕ) → v < 4294967296 → v - v % 4 < 4294967296
aligned_fits v h = omega arith

low_fits : (v : ℕ) → v % 256 < 256
low_fits v = omega arith

with_csr_fits : (core : Core) (csr value : ℕ) → CoreBounded core → value < 4294967296 → CoreBounded (with_csr core csr value)
with_csr_fits core csr value h l = by (csr == MSTATUS) (csr == MSCRATCH) (csr == MEPC) (csr == ILEVEL) (csr == PLEVEL)
  where
    by : (a b c d e : Bool) → CoreBounded (
        if a then record core { mie = value / 8 % 2 == 1; mpie = value / 128 % 2 == 1 }
        else if b then record core { mscratch = value }
        else if c then record core { mepc = value - value % 4 }
        else if d then record core { ilevel = value % 256 }
        else if e then record core { plevel = value % 256 }
        else core)
    by true b c d e = record { registers = h.registers; scratch = h.scratch; return_address = h.return_address; level = h.level; previous_level = h.previous_level; bytes = h.bytes; pending = h.pending; enabled = h.enabled; levels = h.levels }
    by false true c d e = record { registers = h.registers; scratch = l; return_address = h.return_address; level = h.level; previous_level = h.previous_level; bytes = h.bytes; pending = h.pending; enabled = h.enabled; levels = h.levels }
    by false false true d e = record { registers = h.registers; scratch = h.scratch; return_address = aligned_fits value l; level = h.level; previous_level = h.previous_level; bytes = h.bytes; pending = h.pending; enabled = h.enabled; levels = h.levels }
    by false false false true e = record { registers = h.registers; scratch = h.scratch; return_address = h.return_address; level = low_fits value; previous_level = h.previous_level; bytes = h.bytes; pending = h.pending; enabled = h.enabled; levels = h.levels }
    by false false false false true = record { registers = h.registers; scratch = h.scratch; return_address = h.return_address; level = h.level; previous_level = low_fits value; bytes = h.bytes; pending = h.pending; enabled = h.enabled; levels = h.levels }
    by false false false false false = h

changed_fits : (change : Change) (csr old : ℕ) (core : Core) → ChangeFits change → old < 4294967296 → CoreBounded core → CoreBounded (changed_core change csr old core)
changed_fits Keep csr old core c l h = h
changed_fits (Replace value) csr old core c l h = with_csr_fits core csr value h c
changed_fits (Set bits) csr old core c l h = with_csr_fits core csr (bit_or old bits) h (or_lt 32 old bits l c)
changed_fits (Clear bits) csr old core c l h = with_csr_fits core csr (bit_and old (2 ^ 32 - 1 - bits)) h (and_fits old (2 ^ 32 - 1 - bits) l)

-- ---- one instruction

abbrev NextBounded : Next → Type 0
NextBounded (Going next) = IsBounded next
NextBounded (Stopped why) = Unit {0}

on_fits : (pc : ℕ) (core : Core) → CoreBounded core → NextBounded (next_behind pc core)
on_fits pc core h = record { pc = mod_fits (pc + 4); core = h }

pick_next : (b : Bool) (x y : Next) → NextBounded x → NextBounded y → NextBounded (if b then x else y)
pick_next true x y h l = h
pick_next false x y h l = l

jump_fits : (target : ℕ) (core : Core) → target < 4294967296 → CoreBounded core → NextBounded (next_at_target target core)
jump_fits target core l h = pick_next (target % 4 == 0) (Going (record { pc = target; core = core })) (Stopped (stop.Misaligned target)) (record { pc = l; core = h }) tt

unless_fits : (o : Option Bad) (address : ℕ) (next : Next) → NextBounded next → NextBounded (unless_refused o address next)
unless_fits None address next h = h
unless_fits (Some bad.Misaligned) address next h = tt
unless_fits (Some bad.Access) address next h = tt

access_fits : (o : Option ℕ) (rd : ℕ) (change : Change) (csr word pc : ℕ) (core : Core) → IfSome o (λ v. v < 4294967296) → ChangeFits change → CoreBounded core
    → NextBounded (csr_access o rd change csr word pc core)
access_fits None rd change csr word pc core o c h = tt
access_fits (Some old) rd change csr word pc core o c h = on_fits pc _ (register_fits _ rd old (changed_fits change csr old core c o h) o)

perform_fits : (e : Effect) (word pc : ℕ) (core : Core) → EffectFits e → CoreBounded core → NextBounded (perform e word pc core)
unfolding perform
perform_fits Nothing word pc core e h = on_fits pc core h
perform_fits (Write rd value) word pc core e h = on_fits pc _ (register_fits core rd value h e)
perform_fits (Branch taken target) word pc core e h = pick_next taken _ _ (jump_fits target core e h) (on_fits pc core h)
perform_fits (Jump rd target) word pc core e h = jump_fits target _ e (register_fits core rd _ h (mod_fits (pc + 4)))
perform_fits (Load w rd address) word pc core e h =
    unless_fits (refusal (memory_of core) address w) address _
    (on_fits pc _ (register_fits core rd _ h (loaded_fits (memory_of core) address w (memory_fits core h))))
perform_fits (Store w address value) word pc core e h =
    unless_fits (refusal (memory_of core) address w) address _
    (on_fits pc _ (core_fits core _ h (stored_fits (memory_of core) address w value (memory_fits core h))))
perform_fits (Csr rd csr change) word pc core e h = access_fits (csr_value core csr) rd change csr word pc core (csr_fits core csr h) e h
perform_fits Environment word pc core e h = tt
perform_fits Return word pc core e h = record {
  pc = h.return_address;
  core = record {
    registers = h.registers;
    scratch = h.scratch;
    return_address = h.return_address;
    level = h.previous_level;
    previous_level = h.previous_level;
    bytes = h.bytes;
    pending = h.pending;
    enabled = h.enabled;
    levels = h.levels;
  };
}

executed_fits : (o : Option InstrKind) (w : ℕ) (state : State) → w < 4294967296 → Decode w ≡ o → CoreBounded state.core → NextBounded (execute_word o w state)
unfolding execute
executed_fits None w state l d h = tt
executed_fits (Some kind) w state l d h =
    perform_fits (effect kind state.pc state.core.registers) (Encode kind) state.pc state.core
    (effect_fits kind state.pc state.core.registers (decode_is w kind l d).0 h.registers) h

step_fits : (state : State) → CoreBounded state.core → NextBounded (step state)
unfolding step
step_fits state h =
    pick_next (in_ram state.pc 4) _ _
    (executed_fits (Decode (word_at_pc state)) (word_at_pc state) state (word_below state.core.ram (state.pc - memory_base) h.bytes) refl h) tt

-- ---- arrivals, and lines that are taken

-- arrivals keep the bounds
pub arrive_fits : (lines : List ℕ) (state : State) → IsBounded state → IsBounded (state_arrive lines state)
arrive_fits [] state h = h
arrive_fits (line ∷ lines) state h =
    let c = h.core in
    arrive_fits lines (state_arrive (line ∷ []) state) (record {
      pc = h.pc;
      core = record {
        registers = c.registers;
        scratch = c.scratch;
        return_address = c.return_address;
        level = c.level;
        previous_level = c.previous_level;
        bytes = c.bytes;
        pending = set_below 256 state.core.pending line 1 c.pending (omega arith);
        enabled = c.enabled;
        levels = c.levels;
      };
    })

enter_fits : (o : Option ℕ) (state : State) → IsBounded state → CoreBounded (entry_state o state).core
enter_fits None state h = h.core
enter_fits (Some line) state h =
    let c = h.core in
    record {
      registers = c.registers;
      scratch = c.scratch;
      return_address = h.pc;
      level = c.levels line;
      previous_level = c.level;
      bytes = c.bytes;
      pending = set_below 256 state.core.pending line 0 c.pending (omega arith);
      enabled = c.enabled;
      levels = c.levels;
    }

goes_fits : (o : Next) (count : ℕ) (before next : State) (seen : Step) → outcome count before o ≡ Goes seen next → NextBounded o → IsBounded next
goes_fits (Going after) count before next seen e h = let g : after ≡ next = cc in subst IsBounded g h
goes_fits (Stopped why) count before next seen e h = cc

-- a step keeps them
pub bounds_stay : (arrivals : List Arrival) (count : ℕ) (state next : State) (seen : Step) → moment arrivals count state ≡ Goes seen next → IsBounded state → IsBounded next
unfolding advance
bounds_stay arrivals count state next seen e h =
    let n = state_with_arrivals arrivals count state in
    goes_fits (step (execution_state n)) count n next seen e (step_fits (execution_state n) (enter_fits (line_to_take n) n (arrive_fits (lines_at arrivals count) state h)))
