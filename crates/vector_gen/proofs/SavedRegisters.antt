-- Which registers are saved.
use Rattle.std.proofs.Common.{◌≡◌, ◌≤◌, [], length, ap, arith, ⊎_elim}
use Rattle.std.specs.Prelude.{true, false, cond, eqb}
use Rattle.std.proofs.lemmas.Bool.{cases_Bool}
use Rattle.sloth_base.specs.Machine.{Core}
use Rattle.sloth_region.specs.Layout.{cur}
use Rattle.rv32_instr.specs.Ram.{word_at}
use Rattle.masked_code.specs.Pieces.{registers_from}
use Rattle.vector_gen.specs.Fresh.{saved_registers}

-- none of the idle loop
pub none_saved : (c : Core) → eqb (word_at c.ram cur) 0 ≡ true → saved_registers c ≡ []
none_saved c e = ap (λ idle. cond idle [] (registers_from 27 5 c.registers)) e

-- all of a task
pub all_saved : (c : Core) → eqb (word_at c.ram cur) 0 ≡ false → saved_registers c ≡ registers_from 27 5 c.registers
all_saved c e = ap (λ idle. cond idle [] (registers_from 27 5 c.registers)) e

-- at most 27
pub few_saved : (c : Core) → length (saved_registers c) ≤ 27
few_saved c =
    ⊎_elim
    (λ (e : eqb (word_at c.ram cur) 0 ≡ true). let n = ap length (none_saved c e) in omega (arith, n))
    (λ (e : eqb (word_at c.ram cur) 0 ≡ false). let n = ap length (all_saved c e) in omega (arith, n))
    (cases_Bool (eqb (word_at c.ram cur) 0))
