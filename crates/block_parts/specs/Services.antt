-- Pieces of the services on tasks and resources.
use Rattle.std.specs.Prelude.{ℕ, ◌+◌, ℤ, pos, List, [], ◌∷◌, ◌++◌}
use Rattle.sloth_base.specs.Status.{E_OS_LIMIT}
use Rattle.block_parts.specs.Pieces.{looking_code, back_code, ok_level_back_code}
use Rattle.sloth_region.specs.Layout.{cur, saved_level, pending_byte}
use Rattle.rv32_instr.specs.declared.csr.TheConstants.{PLEVEL}
use Rattle.rv32_instr.specs.declared.InstrKind.{InstrKind}
use Rattle.rv32_instr.specs.declared.InstrKind.TheVariants.{Beq, Bne, Bgeu, Lw, Lbu, Sw, Add, Addi, Xori, Csrrw}
use Rattle.masked_code.specs.Pieces.{past}

-- to the level that was saved for a resource, and back to the caller
abbrev pub releasing_code : ℕ → List InstrKind
releasing_code resource = Lw 1 4 (pos (saved_level resource)) ∷ ok_level_back_code

-- it goes on behind the refusal where x1 is 1: the task is Suspended; else the status is E_OS_LIMIT
abbrev pub refusing_code : List InstrKind
refusing_code = Bne 1 0 (past (Addi 10 0 (pos E_OS_LIMIT) ∷ back_code)) ∷ Addi 10 0 (pos E_OS_LIMIT) ∷ []

-- ChainTask asks whether the task is the caller, and goes on behind the refusal where it is
abbrev pub own_task_code : ℕ → List InstrKind
own_task_code task = Lw 1 4 (pos cur) ∷ Addi 10 0 (pos (task + 1)) ∷ Beq 1 10 (past (looking_code task ++ (refusing_code ++ back_code))) ∷ []

-- the ceiling of a resource is the level for `mret`, and the one that runs is saved for it; where that is greater, it stays
abbrev pub taking_code : ℕ → ℕ → List InstrKind
taking_code resource ceiling =
    Addi 1 0 (pos ceiling) ∷ Csrrw 10 1 PLEVEL ∷ Sw 4 10 (pos (saved_level resource)) ∷ Bgeu 1 10 (past (Csrrw 0 10 PLEVEL ∷ [])) ∷ Csrrw 0 10 PLEVEL
    ∷ []

-- a1 := 3 where the task is Suspended, and 2 where it is Ready
abbrev pub resting_telling_code : ℕ → List InstrKind
resting_telling_code task = Lbu 1 3 (pos (pending_byte task)) ∷ Xori 11 1 (pos 3) ∷ []

-- the level byte of the running task's line, where `cur` tells the place
abbrev pub own_level : ℤ
own_level = pos 63

-- leaves the level that runs in x30, and that of the running task's line for `mret`
abbrev pub level_code : List InstrKind
level_code = Lw 1 4 (pos cur) ∷ Add 1 1 3 ∷ Lbu 1 1 own_level ∷ Csrrw 30 1 PLEVEL ∷ []
