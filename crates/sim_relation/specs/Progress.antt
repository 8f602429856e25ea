-- The measure of the instructions that show no event.
use Rattle.std.specs.Prelude.{ℕ, zero, suc, ◌+◌, ◌-◌, ◌*◌, ◌/◌, ◌≤◌, ◌≡◌, ◌&&◌, List, [], ◌∷◌, nat_le, nat_lt, if◌then◌else◌, cond, length}
use Rattle.sloth_base.specs.declared.app.App.{App}
use Rattle.sloth_base.specs.declared.limits.Places.{Places}
use Rattle.sloth_base.specs.Machine.{State}
use Rattle.sloth_region.specs.Layout.{cur}
use Rattle.rv32_instr.specs.Ram.{word_at}
use Rattle.rv32_expand.specs.Expansion.{item_address, expansion}
use Rattle.osek_scheduler.specs.State.{Frame, Task, System, task}
use Rattle.sim_relation.specs.Build.{Build}

-- of `count` instructions at an address, how many stand before pc; all of them where pc is none, as at the opening mark of a service's block
abbrev pub passed_count_at : (address count pc : ℕ) → ℕ
passed_count_at address count pc = if nat_le address pc && nat_lt pc (address + 4 * count) then (pc - address) / 4 else count

-- by the item at which the innermost frame stands
abbrev pub passed_count_in : App → Places → ℕ → List Frame → ℕ
passed_count_in app places pc [] = 0
passed_count_in app places pc (frame ∷ outer) =
    passed_count_at (item_address places frame.func frame.item) (length (expansion app places frame.func frame.item)) pc

-- of a task that stands at pc; one that owes the way back has begun no item
abbrev pub passed_count_of : App → Places → ℕ → Task → ℕ
passed_count_of app places pc own = cond own.owed 0 (passed_count_in app places pc own.frames)

-- of the task that the word at 0x80000000 names; the idle loop has passed nothing
abbrev pub passed_count_by : App → Places → ℕ → System → (current : ℕ) → ℕ
passed_count_by app places pc s zero = 0
passed_count_by app places pc s (suc t) = passed_count_of app places pc (task s t)

-- of the running task
abbrev pub progress_in : Build → State → System → ℕ
progress_in b state s = passed_count_by b.app b.places state.pc s (word_at state.core.ram cur)

-- it has passed at least what is said of it
abbrev pub HasPassed : Build → State → System → Type 0
HasPassed b state s = (t : ℕ) → word_at state.core.ram cur ≡ t + 1 → b.passed t ≤ passed_count_of b.app b.places state.pc (task s t)
