-- The pieces of a prologue.
use Rattle.std.specs.Prelude.{ℕ, Bool, false, true, ◌+◌, pos, List, [], ◌∷◌, ◌++◌}
use Rattle.sloth_region.specs.Layout.{cur, active, resume, below_word, context_pc, context_level, context_cur, context_below}
use Rattle.rv32_instr.specs.declared.csr.TheConstants.{MEPC, PLEVEL}
use Rattle.rv32_instr.specs.declared.InstrKind.{InstrKind}
use Rattle.rv32_instr.specs.declared.InstrKind.TheVariants.{Lui, Addi, Lw, Sw, Beq, Csrrs, Csrrw, Csrrwi, Mret}
use Rattle.sloth_base.specs.Arithmetic.{hi, lo}
use Rattle.sloth_base.specs.Status.{E_OK}
use Rattle.masked_code.specs.Pieces.{past, saving_code, restoring_code, clearing_code, words_clearing_code}
use Rattle.block_parts.specs.Prologues.{preempted_test, own_taking_code}

-- what the CSRs say goes into the context at x1, by x5; the level is now that of the entry
abbrev pub csr_saving_code : ℕ → List InstrKind
csr_saving_code level = Csrrs 5 0 MEPC ∷ Sw 1 5 (pos context_pc) ∷ Csrrwi 5 level PLEVEL ∷ Sw 1 5 (pos context_level) ∷ []

-- so does what the service words say, `cur` being in x2, and then the context stands below
abbrev pub words_saving_code : List InstrKind
words_saving_code = Sw 1 2 (pos context_cur) ∷ Lw 2 4 (pos below_word) ∷ Sw 1 2 (pos context_below) ∷ Sw 4 1 (pos below_word) ∷ []

-- the context stands directly below x2, with the registers where a task was running
abbrev pub context_saving_code : ℕ → List InstrKind
context_saving_code level = preempted_test ++ (saving_code 27 5 1 ++ (csr_saving_code level ++ words_saving_code))

-- the task is the running one and Active
abbrev pub active_marking_code : ℕ → List InstrKind
active_marking_code task = Addi 2 0 (pos (task + 1)) ∷ Sw 4 2 (pos cur) ∷ Addi 2 0 (pos 1) ∷ Sw 4 2 (pos (active task)) ∷ []

-- x2 is the task's frame, and its first item is where the entry goes to
abbrev pub beginning_code : ℕ → ℕ → List InstrKind
beginning_code frame first = Lui 2 (hi frame) ∷ Addi 2 2 (lo frame) ∷ Lui 1 (hi first) ∷ Addi 1 1 (lo first) ∷ Csrrw 0 1 MEPC ∷ []

-- a start with a frame of zero words and zero registers
abbrev pub fresh_start_code : ℕ → ℕ → ℕ → List InstrKind
fresh_start_code frame words first = beginning_code frame first ++ (words_clearing_code words 0 2 ++ (clearing_code 25 5 ++ Mret ∷ []))

-- the service that waited has done so
abbrev pub wait_answer_code : List InstrKind
wait_answer_code = Addi 10 0 (pos E_OK) ∷ Mret ∷ []

-- the task goes on behind its wait, as its context at x1 says
abbrev pub going_on_code : ℕ → List InstrKind
going_on_code task = own_taking_code task ++ (restoring_code 27 5 1 ++ wait_answer_code)

-- x1 is the address of the task's context; where there is none, what takes it up is passed
abbrev pub kept_context_test : ℕ → List InstrKind
kept_context_test task = Lw 1 4 (pos (resume task)) ∷ Beq 1 0 (past (going_on_code task)) ∷ []

-- the context that is kept for an extended task is taken up; for a basic one none is kept
abbrev pub context_taking_code : Bool → ℕ → List InstrKind
context_taking_code false task = []
context_taking_code true task = kept_context_test task ++ going_on_code task
