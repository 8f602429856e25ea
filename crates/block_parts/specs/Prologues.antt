-- Pieces of prologues.
use Rattle.std.specs.Prelude.{ℕ, pos, neg_ℤ, List, [], ◌∷◌}
use Rattle.sloth_region.specs.Layout.{cur, resume, context_bytes, context_pc}
use Rattle.rv32_instr.specs.declared.csr.TheConstants.{MEPC}
use Rattle.rv32_instr.specs.declared.InstrKind.{InstrKind}
use Rattle.rv32_instr.specs.declared.InstrKind.TheVariants.{Addi, Lw, Sw, Beq, Csrrw}
use Rattle.masked_code.specs.Pieces.{past, saving_code}

-- x1 := the place of the context, directly below x2; leaves `cur` in x2, and passes what saves the registers where that is 0
abbrev pub preempted_test : List InstrKind
preempted_test = Addi 1 2 (neg_ℤ (pos context_bytes)) ∷ Lw 2 4 (pos cur) ∷ Beq 2 0 (past (saving_code 27 5 1)) ∷ []

-- no context is kept for the task any more; its pc and x2 are those of its context at x1
abbrev pub own_taking_code : ℕ → List InstrKind
own_taking_code task = Sw 4 0 (pos (resume task)) ∷ Lw 2 1 (pos context_pc) ∷ Csrrw 0 2 MEPC ∷ Addi 2 1 (pos context_bytes) ∷ []
