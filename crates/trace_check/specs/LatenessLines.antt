-- The lines of why events are not in time.
use Rattle.std.specs.Prelude.{ℕ, ◌-◌, List, ◌++◌, codes, cond, decimal, ltb}
use Rattle.sloth_base.specs.declared.config.DeclaredNames.{DeclaredNames}
use Rattle.sloth_base.specs.declared.service.Event.{Event}
use Rattle.sloth_base.specs.declared.service.Event.TheVariants as event_is
use Rattle.sloth_base.specs.declared.service.Stamped.{Stamped}
use Rattle.sloth_base.specs.Owners.{first_counter_line}
use Rattle.trace_text.specs.EventLines.{counted_line}
use Rattle.trace_check.specs.declared.late.Lateness.{Lateness}
use Rattle.trace_check.specs.declared.late.Lateness.TheVariants as late

-- the event that admits an arrival of a line of the controller
abbrev pub admission : ℕ → Event
admission line = cond (ltb line first_counter_line) (event_is.Admit line) (event_is.Due (line - first_counter_line))

-- the same at its moment
abbrev pub admission_at : (moment line : ℕ) → Stamped
admission_at moment line = record { stamp = record { from = moment; at = moment }; event = admission line }

-- the event's line that a text lacks
unfoldable pub missing_line : DeclaredNames → (moment line : ℕ) → List ℕ
missing_line names moment line = codes "missing " ++ counted_line names.tasks names.funcs names.counters (admission_at moment line) ++ codes "\n"

unfoldable pub place_line : ℕ → List ℕ
place_line k = codes "line " ++ decimal k ++ codes "\n"

abbrev pub lateness_lines : DeclaredNames → Lateness → List ℕ
lateness_lines names (late.Misplaced k) = place_line k
lateness_lines names (late.Extra k) = place_line k
lateness_lines names (late.Passed k moment line) = place_line k ++ missing_line names moment line
lateness_lines names (late.Missing moment line) = missing_line names moment line
