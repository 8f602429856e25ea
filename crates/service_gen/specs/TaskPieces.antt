-- Pieces of code of the services on tasks and resources.
use Rattle.std.specs.Prelude.{ℕ, pos, negsuc, List, [], ◌∷◌, ◌++◌}
use Rattle.sloth_base.specs.Status.{E_OK}
use Rattle.block_parts.specs.Pieces.{back_code}
use Rattle.sloth_region.specs.Layout.{cur, active, enabled_byte}
use Rattle.rv32_instr.specs.declared.csr.TheConstants.{MEPC, PLEVEL}
use Rattle.rv32_instr.specs.declared.InstrKind.{InstrKind}
use Rattle.rv32_instr.specs.declared.InstrKind.TheVariants.{Jal, Beq, Lw, Lbu, Addi, Xori, Sltu, Slli, Csrrw, Mret}
use Rattle.masked_code.specs.Kernel.{masking}
use Rattle.masked_code.specs.Pieces.{past}
use Rattle.block_parts.specs.Services.{resting_telling_code}

-- ActivateTask's status: E_OK, which is 0, where x1 is 1, and E_OS_LIMIT, which is 4, where it is 0
abbrev pub status_code : List InstrKind
status_code = Xori 10 1 (pos 1) ∷ Slli 10 10 2 ∷ []

-- a1 := the running task's number, with the status E_OK
abbrev pub own_telling_code : List InstrKind
own_telling_code = Lw 11 4 (pos cur) ∷ Addi 11 11 (negsuc 0) ∷ Addi 10 0 (pos E_OK) ∷ []

-- back to the caller, with the status E_OK
abbrev pub ok_back_code : List InstrKind
ok_back_code = Addi 10 0 (pos E_OK) ∷ back_code

-- a1 := 0 where the task runs, and 2 where it is preempted
abbrev pub active_telling_code : ℕ → List InstrKind
active_telling_code task = Lw 1 4 (pos cur) ∷ Addi 1 1 (negsuc task) ∷ Sltu 11 0 1 ∷ Slli 11 11 1 ∷ []

-- the status E_OK; it goes on behind the first way back where the task is not Active
abbrev pub active_task_test : ℕ → List InstrKind
active_task_test task = Addi 10 0 (pos E_OK) ∷ Lw 1 4 (pos (active task)) ∷ Beq 1 0 (past (active_telling_code task ++ back_code)) ∷ []

-- a1 := 1; it goes on at the way back where the task waits
abbrev pub waiting_task_test : ℕ → List InstrKind
waiting_task_test task = Lbu 1 3 (pos (enabled_byte task)) ∷ Addi 11 0 (pos 1) ∷ Beq 1 0 (past (resting_telling_code task)) ∷ []

-- the way back: to the level in x30, and to the address in x31
abbrev pub way_back_code : List InstrKind
way_back_code = masking ∷ Csrrw 0 30 PLEVEL ∷ Csrrw 0 31 MEPC ∷ Mret ∷ []

-- x1 := the address of the way back, which stands behind it and is passed
abbrev pub way_back_address_code : List InstrKind
way_back_address_code = Jal 1 (past way_back_code) ∷ []

-- with the status E_OK to the address in x1
abbrev pub way_back_stop_code : List InstrKind
way_back_stop_code = Csrrw 0 1 MEPC ∷ Addi 10 0 (pos E_OK) ∷ Mret ∷ []
