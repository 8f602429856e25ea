-- Pieces of code of the services on events.
use Rattle.std.specs.Prelude.{ℕ, ℤ, pos, neg_ℤ, List, [], ◌∷◌, ◌++◌}
use Rattle.sloth_base.specs.Status.{E_OK}
use Rattle.sloth_region.specs.Layout.{cur, events, context_bytes, controller_high}
use Rattle.rv32_instr.specs.declared.InstrKind.{InstrKind}
use Rattle.rv32_instr.specs.declared.InstrKind.TheVariants.{Beq, Lui, Lw, Sw, Sb, Add, Addi, Or, And, Slli}
use Rattle.masked_code.specs.Pieces.{past, saving_code}
use Rattle.block_parts.specs.Pieces.{own_active, own_events, back_code}

-- x1 := 12 times `cur` behind the service words, where the running task's words end, by another register
abbrev pub own_finding_code : ℕ → List InstrKind
own_finding_code other = Lw 1 4 (pos cur) ∷ Slli other 1 3 ∷ Slli 1 1 2 ∷ Add 1 1 other ∷ Add 1 1 4 ∷ []

-- ---- SetEvent

-- adds the events of the mask in x30 to the task's, which stay in x1
abbrev pub mask_adding_code : ℕ → List InstrKind
mask_adding_code task = Lw 1 4 (pos (events task)) ∷ Or 1 1 30 ∷ Sw 4 1 (pos (events task)) ∷ []

-- ---- WaitEvent

-- the running task's word of the events that it waits for
abbrev pub own_wait : ℤ
own_wait = pos 0

-- the enable byte of its line, where `cur` tells the place
abbrev pub own_enabled : ℤ
own_enabled = pos 31

-- x3 := the controller's address again
abbrev pub controller_address_code : List InstrKind
controller_address_code = Lui 3 controller_high ∷ []

-- the status E_OK
abbrev pub set_answer_code : List InstrKind
set_answer_code = Addi 10 0 (pos E_OK) ∷ []

-- goes on behind the way back where none of the events of the mask in x30 is set for the running task
abbrev pub set_events_test : List InstrKind
set_events_test = Lw 3 1 own_events ∷ And 3 3 30 ∷ Beq 3 0 (past (controller_address_code ++ (set_answer_code ++ back_code))) ∷ []

-- the running task is not Active, and waits for the events of the mask in x30
abbrev pub resting_code : List InstrKind
resting_code = Sw 1 0 own_active ∷ Sw 1 30 own_wait ∷ []

-- the registers go into the context directly below x2
abbrev pub own_saving_code : List InstrKind
own_saving_code = Addi 1 2 (neg_ℤ (pos context_bytes)) ∷ saving_code 27 5 1

-- the running task's line is not enabled; x5 holds `cur`
abbrev pub disabling_code : List InstrKind
disabling_code = Add 5 5 3 ∷ Sb 5 0 own_enabled ∷ []
