-- The running task's words are found: what is owed of the code that finds them.
use Rattle.std.proofs.Common.{◌≡◌, ℕ, ◌+◌, ◌*◌, ◌<◌, List, ◌∷◌, ◌++◌, refl, arith}
use Rattle.sloth_base.specs.Machine.{Core, State}
use Rattle.sloth_base.specs.MemoryMap.{memory_base}
use Rattle.sloth_base.specs.Limits.{task_limit}
use Rattle.sloth_region.specs.Layout.{cur}
use Rattle.rv32_instr.specs.declared.InstrKind.{InstrKind}
use Rattle.rv32_instr.specs.Ram.{word_at}
use Rattle.masked_code.proofs.Owes.{◌▸◌, writes, loads, Owes}
use Rattle.masked_code.proofs.Leave.{behind}
use Rattle.service_gen.specs.EventPieces.{own_finding_code}

-- the end of the running task's words, which x1 then holds
abbrev pub own_end : ℕ → ℕ
own_end task = memory_base + 12 * (task + 1)

module _ (from to task : ℕ) (E : List ℕ → State → State → Type 0) (start : State) (rest : List InstrKind) (c : Core) (x1 x2 x3 : ℕ) (tail : List ℕ)
    (is_task : task < task_limit) (runs : word_at c.ram cur ≡ task + 1) where
  -- by x3
  pub finds_by_x3 : (o : ℕ)
      → Owes from to (behind 5 o) rest 0 E start (record c { registers = 0 ∷ own_end task ∷ x2 ∷ 8 * (task + 1) ∷ memory_base ∷ tail })
      → Owes from to o (own_finding_code 3 ++ rest) 0 E start (record c { registers = 0 ∷ x1 ∷ x2 ∷ x3 ∷ memory_base ∷ tail })
  finds_by_x3 o go =
      loads cur (record { is = refl; aligned = refl; inside = omega arith }) (task + 1) runs
      ▸ writes (8 * (task + 1)) (omega arith)
      ▸ writes (4 * (task + 1)) (omega arith)
      ▸ writes (12 * (task + 1)) (omega arith)
      ▸ writes (own_end task) (omega arith)
      ▸ go

  -- by x10
  pub finds_by_x10 : (o x5 x6 x7 x8 x9 x10 : ℕ) (more : List ℕ)
      → Owes from to (behind 5 o) rest 0 E start
      (record c { registers = 0 ∷ own_end task ∷ x2 ∷ x3 ∷ memory_base ∷ x5 ∷ x6 ∷ x7 ∷ x8 ∷ x9 ∷ 8 * (task + 1) ∷ more })
      → Owes from to o (own_finding_code 10 ++ rest) 0 E start (record c { registers = 0 ∷ x1 ∷ x2 ∷ x3 ∷ memory_base ∷ x5 ∷ x6 ∷ x7 ∷ x8 ∷ x9 ∷ x10 ∷ more })
  finds_by_x10 o x5 x6 x7 x8 x9 x10 more go =
      loads cur (record { is = refl; aligned = refl; inside = omega arith }) (task + 1) runs
      ▸ writes (8 * (task + 1)) (omega arith)
      ▸ writes (4 * (task + 1)) (omega arith)
      ▸ writes (12 * (task + 1)) (omega arith)
      ▸ writes (own_end task) (omega arith)
      ▸ go
