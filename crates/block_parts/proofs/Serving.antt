-- A service runs from its opening: it is enough to see the code behind the masking instruction, with the registers written out.
use Rattle.std.proofs.Common.{ℕ, ◌+◌, ◌*◌, ◌≤◌, List, ◌∷◌, length, subst, arith}
use Rattle.sloth_base.specs.Machine.{Core, State}
use Rattle.rv32_instr.specs.declared.InstrKind.{InstrKind}
use Rattle.masked_code.specs.Kernel.{CanRun, HasBases, masking}
use Rattle.masked_code.specs.Masked.{FromOpening}
use Rattle.masked_code.proofs.Owes.{Owes}
use Rattle.masked_code.specs.Place.{offset_state}
use Rattle.masked_code.proofs.Longest.{longest, longest_le}
use Rattle.masked_code.proofs.Spread.{based, based_is}
use Rattle.masked_code.proofs.Routines.{serves, masked}

-- with at most so many instructions, where no way through the code is longer
pub opens_within : (offset n : ℕ) (code : List InstrKind) (c : Core) (E : List ℕ → State → State → Type 0) → CanRun offset (masking ∷ code) c → HasBases c.registers → longest code 0 ≤ n
    → Owes offset (offset + 4 + 4 * length code) (offset + 4) code 0 E (offset_state offset (based c)) (masked (based c)) → FromOpening n (offset_state offset c) E
opens_within offset n code c E can bases few owed =
    let fits = can.inside in
    serves offset n code c E
    (record { there = can.controller; lines = can.lines; aligned = can.aligned; fits = omega arith; placed = can.placed })
    few
    (subst (λ x. Owes offset (offset + 4 + 4 * length code) (offset + 4) code 0 E (offset_state offset x) (masked x)) (based_is c can.registers can.zero bases) owed)

-- with at most as many as there are
pub opens : (offset n : ℕ) (code : List InstrKind) (c : Core) (E : List ℕ → State → State → Type 0) → CanRun offset (masking ∷ code) c → HasBases c.registers → length code ≤ n
    → Owes offset (offset + 4 + 4 * length code) (offset + 4) code 0 E (offset_state offset (based c)) (masked (based c)) → FromOpening n (offset_state offset c) E
opens offset n code c E can bases few owed = let l = longest_le code 0 in opens_within offset n code c E can bases (omega (arith, few, l)) owed
