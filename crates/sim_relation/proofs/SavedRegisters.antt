-- The registers that a context holds, as they are stored.
use Rattle.std.proofs.Common.{◌≡◌, ℕ, zero, suc, ◌+◌, ◌<◌, List, ap, ◌∙◌, arith}
use Rattle.std.specs.Prelude.{slice_index}
use Rattle.masked_code.specs.Pieces.{registers_from}

-- each word of saved registers is that of its register
pub registers_at : (n first j : ℕ) (registers : List ℕ) → j < n → slice_index (registers_from n first registers) j ≡ slice_index registers (first + j)
registers_at zero first j registers h = absurd (omega arith)
registers_at (suc n) first zero registers h = ap (λ i. slice_index registers i) (omega arith)
registers_at (suc n) first (suc j) registers h =
    let e : suc first + j ≡ first + suc j = omega arith in registers_at n (suc first) j registers (omega arith) ∙ ap (λ i. slice_index registers i) e

-- and fits into a word
pub registers_small : (n first : ℕ) (registers : List ℕ) → ((i : ℕ) → slice_index registers i < 4294967296) → (j : ℕ) → slice_index (registers_from n first registers) j < 4294967296
registers_small zero first registers h j = omega arith
registers_small (suc n) first registers h zero = h first
registers_small (suc n) first registers h (suc j) = registers_small n (suc first) registers h j
