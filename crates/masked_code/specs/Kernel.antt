-- The code that ends a stretch by going back to what runs below, and the state that this leaves.
use Rattle.std.specs.Prelude.{ℕ, ◌+◌, ◌*◌, ◌%◌, ◌≡◌, ◌<◌, ◌≤◌, true, pos, List, [], ◌∷◌, ◌++◌, length, slice_index}
use Rattle.sloth_base.specs.Machine.{Core}
use Rattle.sloth_base.specs.MemoryMap.{memory_base, memory_bytes, controller_base, line_count}
use Rattle.sloth_region.specs.Layout.{cur, below_word, idle_context, context_bytes, context_pc, context_level, context_cur, context_below}
use Rattle.rv32_instr.specs.declared.csr.TheConstants.{MSTATUS, MEPC, PLEVEL}
use Rattle.rv32_instr.specs.declared.InstrKind.{InstrKind}
use Rattle.rv32_instr.specs.declared.InstrKind.TheVariants.{Addi, Beq, Lw, Sw, Csrrw, Csrrci, Mret}
use Rattle.rv32_instr.specs.Ram.{word_at}
use Rattle.masked_code.specs.Place.{InPlace}
use Rattle.masked_code.specs.Pieces.{past, restoring_code}

-- x3 and x4 hold the addresses of the controller and of memory: so they do wherever interrupts are open
abbrev pub HasBases : List ℕ → Type 0
HasBases registers = (slice_index registers 3 ≡ controller_base) × (slice_index registers 4 ≡ memory_base)

-- the code at an offset can run: it stands behind the service words, and the machine is whole
pub record CanRun (offset : ℕ) (code : List InstrKind) (core : Core) : Type 0 where
  pub controller : core.controller ≡ true
  pub registers : length core.registers ≡ 32
  pub zero : slice_index core.registers 0 ≡ 0
  pub lines : length core.pending ≡ line_count
  pub aligned : offset % 4 ≡ 0
  pub behind : 1024 ≤ offset
  pub inside : offset + 4 * length code ≤ memory_bytes
  pub placed : InPlace core.ram offset code

-- the context of what runs below stands at this offset
pub record IsContextBelow (place : ℕ) (core : Core) : Type 0 where
  pub is : word_at core.ram below_word ≡ memory_base + place
  pub aligned : place % 4 ≡ 0
  pub behind : idle_context ≤ place
  pub inside : place + context_bytes ≤ memory_bytes
  pub returns : word_at core.ram place % 4 ≡ 0
  pub level : word_at core.ram (place + context_level) < 256

-- the instruction that masks interrupts
abbrev pub masking : InstrKind
masking = Csrrci 0 8 MSTATUS

-- x1 := the address of the context of what runs below; what it says goes to mepc, plevel, the service words and x2; its `cur` stays in x5
abbrev pub taking_up_code : List InstrKind
taking_up_code =
    Lw 1 4 (pos below_word) ∷ Lw 2 1 (pos context_pc) ∷ Csrrw 0 2 MEPC ∷ Lw 2 1 (pos context_level) ∷ Csrrw 0 2 PLEVEL
    ∷ Lw 5 1 (pos context_cur) ∷ Sw 4 5 (pos cur) ∷ Lw 2 1 (pos context_below) ∷ Sw 4 2 (pos below_word)
    ∷ Addi 2 1 (pos context_bytes) ∷ []

-- passes what restores the registers where the idle loop runs below: `cur` in x5 is 0
abbrev pub idle_loop_test : List InstrKind
idle_loop_test = Beq 5 0 (past (restoring_code 27 5 1)) ∷ []

-- back to what runs below
abbrev pub leaving_code : List InstrKind
leaving_code = taking_up_code ++ (idle_loop_test ++ (restoring_code 27 5 1 ++ Mret ∷ []))

-- The machine is left as in this core, with interrupts open, and plevel is the level that runs; of the registers and mepc it says nothing but
-- that x0 is zero and that x3 and x4 hold the bases.
pub record IsOpenedCore (core end : Core) : Type 0 where
  pub zero : slice_index end.registers 0 ≡ 0
  pub registers : length end.registers ≡ 32
  pub bases : HasBases end.registers
  pub opened : end.mie ≡ true
  pub previous : end.mpie ≡ true
  pub running : end.ilevel ≡ core.ilevel
  pub same_level : end.plevel ≡ end.ilevel
  pub pending : end.pending ≡ core.pending
  pub enabled : end.enabled ≡ core.enabled
  pub levels : end.levels ≡ core.levels
  pub ram : end.ram ≡ core.ram
  pub scratch : end.mscratch ≡ core.mscratch
  pub controller : end.controller ≡ core.controller
