-- Where a cursor stands.
use Rattle.std.specs.Prelude.{ℕ}
use Rattle.debug_ways.specs.Runs.{Run}
use Rattle.debug_ways.specs.declared.cursor.Cursor.{Cursor}
use Rattle.debug_ways.specs.declared.machine.Machine.{Ghosts}

-- the run that a cursor goes through; `run_of` says in which run a machine stands
abbrev pub cursor_run : {M : Type 0} {ghosts : Ghosts M} → (M → Run) → Cursor M ghosts → Run
cursor_run run_of cursor = run_of cursor.here

-- the count at which it stands
abbrev pub cursor_count : {M : Type 0} {ghosts : Ghosts M} → Cursor M ghosts → ℕ
cursor_count cursor = cursor.count
