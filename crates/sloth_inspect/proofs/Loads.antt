-- A load of a word in RAM.
use Rattle.std.proofs.Common.{◌≡◌, ℕ, ◌+◌, ◌-◌, ◌≤◌, ap, arith, None}
use Rattle.std.specs.Prelude.{◌%◌}
use Rattle.std.proofs.lemmas.Bool.Decides.{nat_tests}
use Rattle.sloth_base.specs.declared.app.Width.TheVariants as width
use Rattle.sloth_base.specs.MemoryMap.{memory_bytes, memory_base}
use Rattle.rv32_instr.specs.Ram.{word_at}
use Rattle.rv32_instr.specs.Memory.{Memory, refusal, loaded_number}

-- it is not refused
pub word_loads : (memory : Memory) (offset : ℕ) → offset % 4 ≡ 0 → offset + 4 ≤ memory_bytes → refusal memory (memory_base + offset) width.Word ≡ None
unfolding refusal
word_loads memory offset aligned inside = grind (arith, nat_tests)

-- what it gives
pub word_loaded : (memory : Memory) (offset : ℕ) → loaded_number memory (memory_base + offset) width.Word ≡ word_at memory.ram offset
unfolding loaded_number
word_loaded memory offset = let back : memory_base + offset - memory_base ≡ offset = omega arith in ap (word_at memory.ram) back
