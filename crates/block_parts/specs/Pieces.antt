-- Pieces of code that the blocks of several services have.
use Rattle.std.specs.Prelude.{ℕ, ℤ, pos, negsuc, List, [], ◌∷◌}
use Rattle.sloth_base.specs.Status.{E_OK}
use Rattle.sloth_region.specs.Layout.{cur, active, pending_byte, enabled_byte}
use Rattle.rv32_instr.specs.declared.csr.TheConstants.{MEPC, PLEVEL}
use Rattle.rv32_instr.specs.declared.InstrKind.{InstrKind}
use Rattle.rv32_instr.specs.declared.InstrKind.TheVariants.{Lw, Lbu, Sw, Sb, Add, Addi, Sltu, Slli, Csrrw, Mret}
use Rattle.masked_code.specs.Kernel.{masking}

-- masks interrupts
abbrev pub opening_code : List InstrKind
opening_code = masking ∷ []

-- the running task's pending byte, where `cur`, its number and 1 more, tells the place
abbrev pub own_pending : ℤ
own_pending = negsuc 0

-- its Active word
abbrev pub own_active : ℤ
own_active = negsuc 7

-- its events
abbrev pub own_events : ℤ
own_events = negsuc 3

-- the end of the running task: its pending byte, its Active word and its events become 0
abbrev pub ending_code : List InstrKind
ending_code =
    Lw 1 4 (pos cur) ∷ Add 5 1 3 ∷ Sb 5 0 own_pending ∷ Slli 5 1 3 ∷ Slli 1 1 2 ∷ Add 1 1 5 ∷ Add 1 1 4 ∷ Sw 1 0 own_active ∷ Sw 1 0 own_events
    ∷ []

-- x1 := 1 where the task is Suspended, else 0, by x10; the load of its pending byte is the second
abbrev pub looking_code : ℕ → List InstrKind
looking_code task =
    Lbu 1 3 (pos (enabled_byte task)) ∷ Lbu 10 3 (pos (pending_byte task)) ∷ Sltu 1 10 1 ∷ Lw 10 4 (pos (active task)) ∷ Sltu 1 10 1 ∷ []

-- the task's pending byte becomes 1
abbrev pub raising_code : ℕ → List InstrKind
raising_code task = Addi 1 0 (pos 1) ∷ Sb 3 1 (pos (pending_byte task)) ∷ []

-- back to the caller, whose address is in x31, at the level in plevel, which is the one that runs
abbrev pub back_code : List InstrKind
back_code = Csrrw 0 31 MEPC ∷ Mret ∷ []

-- at the level in x1
abbrev pub level_back_code : List InstrKind
level_back_code = Csrrw 0 1 PLEVEL ∷ back_code

-- at the level in x1, with the status E_OK
abbrev pub ok_level_back_code : List InstrKind
ok_level_back_code = Addi 10 0 (pos E_OK) ∷ level_back_code
