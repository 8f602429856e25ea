-- How many instructions code executes at most before it goes back, where its branches and jumps go forward: each passes those that its number says.
use Rattle.std.proofs.Common.{◌≡◌, ℕ, zero, suc, ◌+◌, ◌-◌, ◌*◌, ◌/◌, ◌≤◌, List, [], ◌∷◌, length, refl, subst, arith, cond}
use Rattle.std.specs.Prelude.{ℤ, pos, negsuc, Bool, true, false, max, nat_le}
use Rattle.std.proofs.lemmas.Bool.{leb-true}
use Rattle.sloth_base.specs.Arithmetic.{plus}
use Rattle.sloth_base.specs.MemoryMap.{memory_base, memory_bytes}
use Rattle.rv32_instr.specs.declared.encoding.Effect.{Effect}
use Rattle.rv32_instr.specs.declared.encoding.Effect.TheVariants.{Branch, Jump, Return}
use Rattle.rv32_instr.specs.declared.InstrKind.{InstrKind}
use Rattle.rv32_instr.specs.declared.InstrKind.TheVariants.{Jal, Jalr, Beq, Bne, Blt, Bge, Bltu, Bgeu, Mret}
use Rattle.rv32_instr.specs.Effect.{effect}

-- what may follow an instruction: nothing, as it goes back; the next one; the next one, or the one behind so many more; that one alone; or any
pub data Following : Type 0 where
  Nothing : Following
  Next : Following
  Past : ℕ → Following
  Only : ℕ → Following
  Any : Following

-- of a branch with this number
abbrev pub past : ℤ → Following
past (pos n) = cond (nat_le n memory_bytes) (Past ((n - 4) / 4)) Any
past (negsuc n) = Any

-- of a jump with this number
abbrev pub only : ℤ → Following
only (pos n) = cond (nat_le n memory_bytes) (Only ((n - 4) / 4)) Any
only (negsuc n) = Any

-- by the kind of the instruction
abbrev pub following : InstrKind → Following
following (Beq rs1 rs2 imm) = past imm
following (Bne rs1 rs2 imm) = past imm
following (Blt rs1 rs2 imm) = past imm
following (Bge rs1 rs2 imm) = past imm
following (Bltu rs1 rs2 imm) = past imm
following (Bgeu rs1 rs2 imm) = past imm
following (Jal rd imm) = only imm
following (Jalr rd rs1 imm) = Any
following Mret = Nothing
following kind = Next

-- the most that follow, from the most behind the next one, behind those that are passed, and of all
abbrev pub most_behind : Following → ℕ → (ℕ → ℕ) → ℕ → ℕ
most_behind Nothing next passing all = 0
most_behind Next next passing all = next
most_behind (Past passed) next passing all = max next (passing passed)
most_behind (Only passed) next passing all = passing passed
most_behind Any next passing all = all

-- the most instructions of code whose first `skip` are passed
abbrev pub longest : List InstrKind → ℕ → ℕ
longest [] skip = 0
longest (kind ∷ code) (suc skip) = longest code skip
longest (kind ∷ code) zero = suc (most_behind (following kind) (longest code 0) (λ passed. longest code passed) (length code))

-- no more than there are
pub longest_le : (code : List InstrKind) (skip : ℕ) → longest code skip ≤ length code
longest_le [] skip = omega arith
longest_le (kind ∷ code) (suc skip) = let h = longest_le code skip in omega (arith, h)
longest_le (kind ∷ code) zero = by (following kind) (longest_le code 0) (λ passed. longest_le code passed)
  where
    by : (f : Following) → longest code 0 ≤ length code → ((passed : ℕ) → longest code passed ≤ length code)
        → suc (most_behind f (longest code 0) (λ passed. longest code passed) (length code)) ≤ suc (length code)
    by Nothing next all = omega arith
    by Next next all = omega arith
    by (Past passed) next all = let l = all passed in omega (arith, l)
    by (Only passed) next all = let l = all passed in omega (arith, l)
    by Any next all = omega arith

-- Behind an instruction with this effect at an offset at most `n` more follow.
abbrev pub LeavesFew : (n o : ℕ) (code : List InstrKind) → Effect → Type 0
LeavesFew n o code (Branch taken target) = (longest code 0 ≤ n) × ((passed : ℕ) → target ≡ memory_base + (o + 4 + 4 * passed) → longest code passed ≤ n)
LeavesFew n o code (Jump rd target) = (passed : ℕ) → target ≡ memory_base + (o + 4 + 4 * passed) → longest code passed ≤ n
LeavesFew n o code Return = Unit {0}
LeavesFew n o code e = longest code 0 ≤ n

module _ (n o : ℕ) (code : List InstrKind) (inside : o + 4 ≤ memory_bytes) where
  branch_leaves : (imm : ℤ) (taken : Bool) → suc (most_behind (past imm) (longest code 0) (λ passed. longest code passed) (length code)) ≤ suc n
      → LeavesFew n o code (Branch taken (plus (memory_base + o) imm))
  branch_leaves (negsuc k) taken h =
      let first = longest_le code 0 in
      (omega (arith, h, first), λ passed e. let all = longest_le code passed in omega (arith, h, all))
  branch_leaves (pos k) taken h = by (nat_le k memory_bytes) refl h
    where
      by : (b : Bool) → nat_le k memory_bytes ≡ b
          → suc (most_behind (cond b (Past ((k - 4) / 4)) Any) (longest code 0) (λ passed. longest code passed) (length code)) ≤ suc n
          → LeavesFew n o code (Branch taken (plus (memory_base + o) (pos k)))
      by true small l =
          let few : k ≤ memory_bytes = leb-true k memory_bytes small in (
            omega (arith, l),
            λ passed e.
                let is : (k - 4) / 4 ≡ passed = omega arith in
                subst (λ p. longest code p ≤ n) is (omega (arith, l)),
          )
      by false small l =
          let first = longest_le code 0 in
          (omega (arith, l, first), λ passed e. let all = longest_le code passed in omega (arith, l, all))

  jump_leaves : (rd : ℕ) (imm : ℤ) → suc (most_behind (only imm) (longest code 0) (λ passed. longest code passed) (length code)) ≤ suc n
      → LeavesFew n o code (Jump rd (plus (memory_base + o) imm))
  jump_leaves rd (negsuc k) h = λ passed e. let all = longest_le code passed in omega (arith, h, all)
  jump_leaves rd (pos k) h = by (nat_le k memory_bytes) refl h
    where
      by : (b : Bool) → nat_le k memory_bytes ≡ b
          → suc (most_behind (cond b (Only ((k - 4) / 4)) Any) (longest code 0) (λ passed. longest code passed) (length code)) ≤ suc n
          → LeavesFew n o code (Jump rd (plus (memory_base + o) (pos k)))
      by true small l =
          let few : k ≤ memory_bytes = leb-true k memory_bytes small in
          λ passed e.
          let is : (k - 4) / 4 ≡ passed = omega arith in
          subst (λ p. longest code p ≤ n) is (omega (arith, l))
      by false small l = λ passed e. let all = longest_le code passed in omega (arith, l, all)

  -- of all that may follow an instruction at most so many are executed
  pub leaves_few : (kind : InstrKind) (x : List ℕ) → longest (kind ∷ code) 0 ≤ suc n → LeavesFew n o code (effect kind (memory_base + o) x)
  leaves_few (Beq rs1 rs2 imm) x h = branch_leaves imm true h
  leaves_few (Bne rs1 rs2 imm) x h = branch_leaves imm true h
  leaves_few (Blt rs1 rs2 imm) x h = branch_leaves imm true h
  leaves_few (Bge rs1 rs2 imm) x h = branch_leaves imm true h
  leaves_few (Bltu rs1 rs2 imm) x h = branch_leaves imm true h
  leaves_few (Bgeu rs1 rs2 imm) x h = branch_leaves imm true h
  leaves_few (Jal rd imm) x h = jump_leaves rd imm h
  leaves_few (Jalr rd rs1 imm) x h = λ passed e. let all = longest_le code passed in omega (arith, h, all)
  leaves_few Mret x h = tt
  leaves_few kind x h = omega arith
