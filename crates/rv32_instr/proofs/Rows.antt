-- Single instructions, worked out.
use Rattle.std.proofs.Common.{◌≡◌, ℕ, [], ◌∷◌, refl, true, false, Some}
use Rattle.std.specs.Prelude.{replicate, set, pos, negsuc}
use Rattle.sloth_base.specs.Machine.{Core, State}
use Rattle.sloth_base.specs.Lines.{controller_byte, with_controller_byte}
use Rattle.sloth_base.specs.Choose.{choose, choose_line, best_line_below}
use Rattle.sloth_base.specs.Take.{execution_state}
use Rattle.rv32_instr.specs.declared.csr.TheConstants.{MSTATUS, ILEVEL}
use Rattle.rv32_instr.specs.declared.InstrKind.TheVariants.{Jal, Jalr, Lb, Lw, Lh, Sb, Sw, Csrrs, Csrrw, Csrrci, Mret}
use Rattle.rv32_instr.specs.declared.encoding.Stop.TheVariants as stop
use Rattle.rv32_instr.specs.Words.{word}
use Rattle.rv32_instr.specs.Table.{Decode, immediate}
use Rattle.rv32_instr.specs.Ram.{word_at, half_at, with_word}
use Rattle.rv32_instr.specs.Memory.{refusal, loaded_number, stored_memory}
use Rattle.rv32_instr.specs.Execute.{Going, Stopped, perform, execute, step, touched_line_by}

-- `addi x5, x0, 5` and a byte of 255; x1 is 0x10000020, x2 is 0x80000004, x3 is 9; line 3 and line 4 are at one level
core : Core
core = record {
  registers = 0 ∷ 0x1000_0020 ∷ 0x8000_0004 ∷ 9 ∷ replicate 28 0;
  mie = true;
  mpie = false;
  mscratch = 0;
  mepc = 0x8000_0008;
  ilevel = 1;
  plevel = 7;
  ram = 0x93 ∷ 0x02 ∷ 0x50 ∷ 0x00 ∷ 255 ∷ 0 ∷ 0 ∷ 0 ∷ [];
  pending = 1 ∷ 0 ∷ 1 ∷ 1 ∷ 1 ∷ replicate 27 0;
  enabled = 1 ∷ 1 ∷ 0 ∷ 1 ∷ 1 ∷ replicate 27 0;
  levels = 1 ∷ 2 ∷ 9 ∷ 4 ∷ 4 ∷ replicate 27 0;
  controller = true;
}

at_start : State
at_start = record { pc = 0x8000_0000; core = core }

goes-to : ℕ → Core → State
goes-to pc core = record { pc = pc; core = core }

addi : step at_start ≡ Going (goes-to 0x8000_0004 (record core { registers = set core.registers 5 5 }))
unfolding step execute perform word_at Decode immediate at_start core goes-to
addi = refl

fetch : step (record at_start { pc = 0x801f_fffd }) ≡ Stopped (stop.Fetch 0x801f_fffd)
unfolding step at_start core
fetch = refl

load_byte : execute (Lb 4 2 (pos 0)) 0x8000_0000 core ≡ Going (goes-to 0x8000_0004 (record core { registers = set core.registers 4 0xffff_ffff }))
unfolding execute perform word refusal loaded_number core goes-to
load_byte = refl

load_pending : execute (Lb 4 1 (negsuc 28)) 0x8000_0000 core ≡ Going (goes-to 0x8000_0004 (record core { registers = set core.registers 4 1 }))
unfolding execute perform word refusal loaded_number controller_byte core goes-to
load_pending = refl

store_enable : execute (Sb 1 3 (pos 2)) 0x8000_0000 core ≡ Going (goes-to 0x8000_0004 (record core { enabled = set core.enabled 2 1 }))
unfolding execute perform word refusal stored_memory with_controller_byte core goes-to
store_enable = refl

half_of_controller : execute (Lh 4 1 (pos 0)) 0x8000_0000 core ≡ Stopped (stop.Access 0x1000_0020)
unfolding execute perform word refusal loaded_number half_at core
half_of_controller = refl

word_of_controller : execute (Lw 4 1 (pos 1)) 0x8000_0000 core ≡ Stopped (stop.Misaligned 0x1000_0021)
unfolding execute perform word refusal loaded_number word_at core
word_of_controller = refl

store_word : execute (Sw 2 3 (pos 0)) 0x8000_0000 core ≡ Going (goes-to 0x8000_0004 (record core { ram = 0x93 ∷ 0x02 ∷ 0x50 ∷ 0x00 ∷ 9 ∷ 0 ∷ 0 ∷ 0 ∷ [] }))
unfolding execute perform word refusal stored_memory with_word core goes-to
store_word = refl

misaligned_jump : execute (Jal 5 (pos 6)) 0x8000_0000 core ≡ Stopped (stop.Misaligned 0x8000_0006)
unfolding execute perform core
misaligned_jump = refl

jump_through_its_register : execute (Jalr 2 2 (pos 1)) 0x8000_0000 core ≡ Going (goes-to 0x8000_0004 (record core { registers = set core.registers 2 0x8000_0004 }))
unfolding execute perform word core goes-to
jump_through_its_register = refl

mask : execute (Csrrci 5 8 MSTATUS) 0x8000_0000 core ≡ Going (goes-to 0x8000_0004 (record core { mie = false; registers = set core.registers 5 8 }))
unfolding execute perform word core goes-to
mask = refl

level_keeps_a_byte : execute (Csrrw 5 2 ILEVEL) 0x8000_0000 core ≡ Going (goes-to 0x8000_0004 (record core { ilevel = 4; registers = set core.registers 5 1 }))
unfolding execute perform word core goes-to
level_keeps_a_byte = refl

other_csr : execute (Csrrs 5 0 0x301) 0x8000_0000 core ≡ Stopped (stop.Illegal 0x3010_22f3)
unfolding execute perform word core
other_csr = refl

return : execute Mret 0x8000_0000 core ≡ Going (goes-to 0x8000_0008 (record core { ilevel = 7; mie = false; mpie = true }))
unfolding execute perform core goes-to
return = refl

-- of the lines 3 and 4 the lesser; line 0 is not above the running level, 1 is not pending, 2 is not enabled
lesser_line : choose core ≡ Some 3
unfolding choose choose_line best_line_below core
lesser_line = refl

entry : execution_state at_start ≡ goes-to 0x8000_040c (record core { mepc = 0x8000_0000; plevel = 1; ilevel = 4; mpie = true; mie = false; pending = set core.pending 3 0 })
unfolding choose choose_line best_line_below core at_start goes-to
entry = refl

loads_pending : touched_line_by (Rattle.rv32_instr.specs.Effect.effect (Lb 4 1 (negsuc 28)) 0x8000_0000 core.registers) ≡ Some 3
unfolding touched_line_by core
loads_pending = refl
