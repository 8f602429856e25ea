-- A line is taken, and given back where the step stops.
use Rattle.std.proofs.Common.{◌≡◌, ℕ, ◌+◌, ◌-◌, ◌<◌, List, [], ◌∷◌, refl, ap, sym, ◌∙◌, arith, true, None, zero, suc, slice_index, slice_set}
use Rattle.sloth_base.specs.declared.app.Width.TheVariants as width
use Rattle.std.proofs.lemmas.Bool.Decides.{nat_tests}
use Rattle.sloth_base.specs.Lines.{controller_byte, with_controller_byte}
use Rattle.sloth_base.specs.Take.{take}
use Rattle.sloth_base.specs.MemoryMap.{memory_base, controller_base, levels_offset, line_count}
use Rattle.rv32_machine.specs.declared.machine.Hart.{Hart}
use Rattle.rv32_machine.specs.State.{state_of, pending_memory}
use Rattle.rv32_instr.specs.Ram.{word_at}
use Rattle.rv32_instr.specs.Memory.{Memory, memory_of, refusal, loaded_number, stored_memory}

-- a byte that is set and put back
pub put_back : (bytes : List ℕ) (place : ℕ) → slice_index bytes place ≡ 1 → slice_set (slice_set bytes place 0) place 1 ≡ bytes
put_back [] place h = refl
put_back (byte ∷ bytes) zero h = ap (λ b. b ∷ bytes) (sym h)
put_back (byte ∷ bytes) (suc place) h = ap (λ bs. byte ∷ bs) (put_back bytes place h)

-- the level byte of a line
pub level_loads
    : (memory : Memory) (line n : ℕ) → n ≡ line → line < line_count → memory.controller ≡ true
    → refusal memory (controller_base + levels_offset + n) width.ByteU ≡ None
unfolding refusal
level_loads memory line n e h t = grind (arith, nat_tests)

pub level_loaded
    : (memory : Memory) (line n : ℕ) → n ≡ line → line < line_count
    → loaded_number memory (controller_base + levels_offset + n) width.ByteU ≡ slice_index memory.lines.levels line
unfolding loaded_number controller_byte
level_loaded memory line n e h =
    let f : controller_base + levels_offset + n - controller_base - 64 ≡ line = omega arith in
    grind (arith, nat_tests)

-- the pending byte of a line, set
pub pending_stores
    : (memory : Memory) (line n : ℕ) → n ≡ line → line < line_count → memory.controller ≡ true
    → refusal memory (controller_base + n) width.Byte ≡ None
unfolding refusal
pending_stores memory line n e h t = grind (arith, nat_tests)

pub pending_stored
    : (memory : Memory) (line n : ℕ) → n ≡ line → line < line_count
    → stored_memory memory (controller_base + n) width.Byte 1 ≡ pending_memory line memory
unfolding stored_memory with_controller_byte
pending_stored memory line n e h =
    let f : controller_base + n - controller_base ≡ line = omega arith in
    grind (arith, nat_tests)

-- what an entry took is given back
pub restored
    : (before hart : Hart) (old new : Memory) (line : ℕ) → state_of hart new ≡ take line (state_of before old)
    → slice_index old.lines.pending line ≡ 1 → state_of before (pending_memory line new) ≡ state_of before old
restored before hart old new line e p =
    let m : new ≡ memory_of (take line (state_of before old)).core = ap (λ x. memory_of x.core) e in
    ap (λ x. state_of before (pending_memory line x)) m
    ∙ ap (λ b. state_of before (record old { lines = record old.lines { pending = b } })) (put_back old.lines.pending line p)

-- the word at 0x80000000 may always be loaded
pub cur_loads : (memory : Memory) → refusal memory memory_base width.Word ≡ None
unfolding refusal
cur_loads memory = refl

pub cur_loaded : (memory : Memory) → loaded_number memory memory_base width.Word ≡ word_at memory.ram 0
unfolding loaded_number
cur_loaded memory = refl
