-- The machine's step at an offset in RAM, and what loads and stores do at the places that routines use.
use Rattle.std.proofs.Common.{◌≡◌, ℕ, ◌+◌, ◌-◌, ◌%◌, ◌<◌, ◌≤◌, List, get_or, ap, arith, Some, None}
use Rattle.std.specs.Prelude.{true, false, set}
use Rattle.std.proofs.lemmas.Bool.{le-leb, and_from, eq-eqb, lt-ltb, lt-leb, le-ltb, and_left}
use Rattle.sloth_base.specs.declared.app.Width.TheVariants as width
use Rattle.sloth_base.specs.Machine.{Core}
use Rattle.sloth_base.specs.Lines.{controller_byte, with_controller_byte, flag_of}
use Rattle.sloth_base.specs.MemoryMap.{memory_base, memory_end, memory_bytes, controller_base, controller_bytes, line_count}
use Rattle.rv32_instr.specs.declared.InstrKind.{InstrKind}
use Rattle.rv32_instr.specs.Encode.{Encode}
use Rattle.rv32_instr.specs.Table.{Decode}
use Rattle.rv32_instr.specs.Ram.{word_at, with_word}
use Rattle.rv32_instr.specs.Memory.{in_ram, in_controller, memory_of, with_memory, refusal, loaded_number, stored_memory}
use Rattle.rv32_instr.specs.Effect.{effect}
use Rattle.rv32_instr.specs.Execute.{Going, step, execute, perform, touched, touched_line_by, next_behind, next_at_target}
use Rattle.masked_code.specs.Place.{offset_state}

-- an instruction stands at an offset
abbrev pub Here : List ℕ → ℕ → InstrKind → Type 0
Here ram o kind = (Decode (word_at ram o) ≡ Some kind) × (o + 4 ≤ memory_bytes)

-- addresses of RAM, and those that are none
pub in_ram_at : (a n : ℕ) → memory_base ≤ a → a + n ≤ memory_end → in_ram a n ≡ true
in_ram_at a n h l = and_from _ _ (le-leb memory_base a h) (le-leb (a + n) memory_end l)

pub not_ram : (a n : ℕ) → a < memory_base → in_ram a n ≡ false
not_ram a n h = and_left _ _ (lt-leb memory_base a h)

-- the bytes of the controller that belong to lines
pub line_in : (k : ℕ) → k < controller_bytes → in_controller (controller_base + k) ≡ true
line_in k h = and_from _ _ (le-leb controller_base (controller_base + k) (omega arith)) (lt-ltb (controller_base + k) (controller_base + controller_bytes) (omega arith))

-- a step performs the instruction that stands there
pub step_at : (o : ℕ) (c : Core) (kind : InstrKind) → Here c.ram o kind → step (offset_state o c) ≡ perform (effect kind (memory_base + o) c.registers) (Encode kind) (memory_base + o) c
unfolding step execute
step_at o c kind h =
    let e : memory_base + o - memory_base ≡ o = omega arith in
    let f = in_ram_at (memory_base + o) 4 (omega arith) (omega arith) in
    rw (f, e, h.0)

-- and touches what the instruction's effect does
pub touched_at : (o : ℕ) (c : Core) (kind : InstrKind) → Decode (word_at c.ram o) ≡ Some kind → touched (offset_state o c) ≡ touched_line_by (effect kind (memory_base + o) c.registers)
unfolding touched
touched_at o c kind h =
    let e : memory_base + o - memory_base ≡ o = omega arith in
    rw (e, h)

-- the instruction behind it is next
pub next_at : (o : ℕ) (c : Core) → o + 4 ≤ memory_bytes → next_behind (memory_base + o) c ≡ Going (offset_state (o + 4) c)
next_at o c h =
    let e : (memory_base + o + 4) % 4294967296 ≡ memory_base + (o + 4) = omega arith in
    ap (λ p. Going (record { pc = p; core = c })) e

-- the instruction at the target is next
pub jump_at : (o : ℕ) (c : Core) → o % 4 ≡ 0 → next_at_target (memory_base + o) c ≡ Going (offset_state o c)
jump_at o c al =
    let g : (memory_base + o) % 4 ≡ 0 = omega arith in
    rw (eq-eqb ((memory_base + o) % 4) 0 g)

-- words of RAM
pub word_allowed : (c : Core) (place : ℕ) → place % 4 ≡ 0 → place + 4 ≤ memory_bytes → refusal (memory_of c) (memory_base + place) width.Word ≡ None
unfolding refusal
word_allowed c place al h =
    let g : (memory_base + place) % 4 ≡ 0 = omega arith in
    rw (eq-eqb ((memory_base + place) % 4) 0 g, in_ram_at (memory_base + place) 4 (omega arith) (omega arith))

-- a load from an offset gives the word there
pub word_loaded : (c : Core) (place : ℕ) → loaded_number (memory_of c) (memory_base + place) width.Word ≡ word_at c.ram place
unfolding loaded_number
word_loaded c place =
    let e : memory_base + place - memory_base ≡ place = omega arith in
    ap (word_at c.ram) e

-- and a store puts it there
pub word_stored : (c : Core) (place v : ℕ) → with_memory c (stored_memory (memory_of c) (memory_base + place) width.Word v) ≡ record c { ram = with_word c.ram place v }
unfolding stored_memory
word_stored c place v =
    let e : memory_base + place - memory_base ≡ place = omega arith in
    ap (λ p. record c { ram = with_word c.ram p v }) e

-- bytes of the controller
pub byte_allowed : (c : Core) (k : ℕ) → c.controller ≡ true → k < controller_bytes → refusal (memory_of c) (controller_base + k) width.ByteU ≡ None
unfolding refusal
byte_allowed c k there h =
    let g : (controller_base + k) % 1 ≡ 0 = omega arith in
    rw (eq-eqb ((controller_base + k) % 1) 0 g, not_ram (controller_base + k) 1 (omega arith), there, line_in k h)

pub store_allowed : (c : Core) (k : ℕ) → c.controller ≡ true → k < controller_bytes → refusal (memory_of c) (controller_base + k) width.Byte ≡ None
unfolding refusal
store_allowed c k there h =
    let g : (controller_base + k) % 1 ≡ 0 = omega arith in
    rw (eq-eqb ((controller_base + k) % 1) 0 g, not_ram (controller_base + k) 1 (omega arith), there, line_in k h)

-- loads of the three bytes of a line
pub pending_loaded : (c : Core) (l : ℕ) → l < line_count → loaded_number (memory_of c) (controller_base + l) width.ByteU ≡ get_or c.pending l 0
unfolding loaded_number controller_byte
pending_loaded c l h =
    let e : controller_base + l - controller_base ≡ l = omega arith in
    rw (not_ram (controller_base + l) 1 (omega arith), e, lt-ltb l 32 h)

pub enabled_loaded : (c : Core) (l : ℕ) → l < line_count → loaded_number (memory_of c) (controller_base + (32 + l)) width.ByteU ≡ get_or c.enabled l 0
unfolding loaded_number controller_byte
enabled_loaded c l h =
    let e : controller_base + (32 + l) - controller_base ≡ 32 + l = omega arith in
    let f : 32 + l - 32 ≡ l = omega arith in
    rw (not_ram (controller_base + (32 + l)) 1 (omega arith), e, le-ltb (32 + l) 32 (omega arith), lt-ltb (32 + l) 64 (omega arith), f)

pub level_loaded : (c : Core) (l : ℕ) → l < line_count → loaded_number (memory_of c) (controller_base + (64 + l)) width.ByteU ≡ get_or c.levels l 0
unfolding loaded_number controller_byte
level_loaded c l h =
    let e : controller_base + (64 + l) - controller_base ≡ 64 + l = omega arith in
    let f : 64 + l - 64 ≡ l = omega arith in
    rw (not_ram (controller_base + (64 + l)) 1 (omega arith), e, le-ltb (64 + l) 32 (omega arith), le-ltb (64 + l) 64 (omega arith), f)

-- stores to them: a flag for what is not 0, and of a level its low byte
pub pending_stored : (c : Core) (l v : ℕ) → l < line_count → with_memory c (stored_memory (memory_of c) (controller_base + l) width.Byte v) ≡ record c { pending = set c.pending l (flag_of (v % 256)) }
unfolding stored_memory with_controller_byte
pending_stored c l v h =
    let e : controller_base + l - controller_base ≡ l = omega arith in
    rw (not_ram (controller_base + l) 1 (omega arith), e, lt-ltb l 32 h)

pub enabled_stored : (c : Core) (l v : ℕ) → l < line_count → with_memory c (stored_memory (memory_of c) (controller_base + (32 + l)) width.Byte v) ≡ record c { enabled = set c.enabled l (flag_of (v % 256)) }
unfolding stored_memory with_controller_byte
enabled_stored c l v h =
    let e : controller_base + (32 + l) - controller_base ≡ 32 + l = omega arith in
    let f : 32 + l - 32 ≡ l = omega arith in
    rw (not_ram (controller_base + (32 + l)) 1 (omega arith), e, le-ltb (32 + l) 32 (omega arith), lt-ltb (32 + l) 64 (omega arith), f)

pub level_stored : (c : Core) (l v : ℕ) → l < line_count → with_memory c (stored_memory (memory_of c) (controller_base + (64 + l)) width.Byte v) ≡ record c { levels = set c.levels l (v % 256) }
unfolding stored_memory with_controller_byte
level_stored c l v h =
    let e : controller_base + (64 + l) - controller_base ≡ 64 + l = omega arith in
    let f : 64 + l - 64 ≡ l = omega arith in
    rw (not_ram (controller_base + (64 + l)) 1 (omega arith), e, le-ltb (64 + l) 32 (omega arith), le-ltb (64 + l) 64 (omega arith), f)
