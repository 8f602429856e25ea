-- What code leaves of the machine, where its lines' levels and the controller stay.
use Rattle.std.proofs.Common.{◌≡◌, ℕ, List, length, refl, sym, ap, ◌∙◌}
use Rattle.std.specs.Prelude.{slice_index}
use Rattle.sloth_base.specs.Machine.{Core, State}
use Rattle.masked_code.specs.Kernel.{HasBases, IsOpenedCore}
use Rattle.sim_relation.specs.Build.{Build}
use Rattle.sim_relation.specs.Stands.{IsFixed}
use Rattle.sim_relation.specs.Moves.{SameMachine, WholeMachine}

-- registers and RAM have changed alone, and x0, x3 and x4 are as they were
pub kept_machine : (b : Build) (old : State) → IsFixed b old.core → (pc : ℕ) (registers ram : List ℕ) → length registers ≡ length old.core.registers
    → slice_index registers 0 ≡ slice_index old.core.registers 0 → HasBases registers → length ram ≡ length old.core.ram
    → SameMachine old (record { pc = pc; core = record old.core { registers = registers; ram = ram } })
kept_machine b old f pc registers ram long zero bases long_ram = record {
  ram = long_ram;
  registers = long;
  zero = zero;
  pending = refl;
  enabled = refl;
  levels = refl;
  controller = refl;
  open_to_lines = f.open_to_lines;
  previous = f.previous;
  same_level = f.same_level;
  bases = bases;
}

-- RAM and the lines have changed alone
pub changed_machine : (b : Build) (old : State) → IsFixed b old.core → (pc : ℕ) (ram pending enabled : List ℕ) → length ram ≡ length old.core.ram
    → length pending ≡ length old.core.pending → length enabled ≡ length old.core.enabled
    → WholeMachine old (record { pc = pc; core = record old.core { ram = ram; pending = pending; enabled = enabled } })
changed_machine b old f pc ram pending enabled long_ram long_pending long_enabled = record {
  ram = long_ram;
  registers = refl;
  zero = refl;
  pending = long_pending;
  enabled = long_enabled;
  levels = refl;
  controller = refl;
  open_to_lines = f.open_to_lines;
  previous = f.previous;
  same_level = f.same_level;
  bases = f.bases;
}

-- a routine leaves the machine as in this core, but for RAM
module _ (b : Build) (old now : State) (core : Core) (f : IsFixed b old.core) (left : IsOpenedCore core now.core) (ram : length now.core.ram ≡ length old.core.ram)
    (levels : core.levels ≡ old.core.levels) (controller : core.controller ≡ old.core.controller) where
  -- its lines are as they were
  pub left_same : core.pending ≡ old.core.pending → core.enabled ≡ old.core.enabled → SameMachine old now
  left_same pending enabled = record {
    ram = ram;
    registers = left.registers ∙ sym f.registers;
    zero = left.zero ∙ sym f.zero;
    pending = left.pending ∙ pending;
    enabled = left.enabled ∙ enabled;
    levels = left.levels ∙ levels;
    controller = left.controller ∙ controller;
    open_to_lines = left.opened;
    previous = left.previous;
    same_level = left.same_level;
    bases = left.bases;
  }

  -- its lines may have changed
  pub left_whole : length core.pending ≡ length old.core.pending → length core.enabled ≡ length old.core.enabled → WholeMachine old now
  left_whole pending enabled = record {
    ram = ram;
    registers = left.registers ∙ sym f.registers;
    zero = left.zero ∙ sym f.zero;
    pending = ap length left.pending ∙ pending;
    enabled = ap length left.enabled ∙ enabled;
    levels = left.levels ∙ levels;
    controller = left.controller ∙ controller;
    open_to_lines = left.opened;
    previous = left.previous;
    same_level = left.same_level;
    bases = left.bases;
  }
