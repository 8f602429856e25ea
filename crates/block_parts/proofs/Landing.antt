-- Where a branch lands that passes so many instructions.
use Rattle.std.proofs.Common.{◌≡◌, ℕ, ◌+◌, ◌*◌, ◌≤◌, arith}
use Rattle.std.specs.Prelude.{pos}
use Rattle.sloth_base.specs.Arithmetic.{plus}
use Rattle.sloth_base.specs.MemoryMap.{memory_base, memory_bytes}

-- behind the branch and all that it passes
pub lands : (o k n : ℕ) → o ≤ memory_bytes → n ≤ 68 → k ≡ 4 + 4 * n → plus (memory_base + o) (pos k) ≡ memory_base + (o + 4 + 4 * n)
lands o k n small few e = omega arith
