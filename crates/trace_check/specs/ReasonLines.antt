-- The lines behind a verdict.
use Rattle.std.specs.Prelude.{ℕ, zero, suc, false, List, [], ◌++◌, codes, decimal, get_or, Option, Some, None}
use Rattle.std.specs.List.{flat_map}
use Rattle.sloth_base.specs.declared.config.DeclaredNames.{DeclaredNames}
use Rattle.osek_scheduler.specs.State.{System, task}
use Rattle.trace_text.specs.EventWords.{event_text}
use Rattle.run_samples.specs.SystemText.{state_line}
use Rattle.trace_check.specs.declared.rows.Verdict.{Verdict}
use Rattle.trace_check.specs.declared.rows.Verdict.TheVariants as verdict
use Rattle.trace_check.specs.declared.rows.NextEvent.{NextEvent}

-- the line of a verdict
abbrev pub verdict_line : Verdict → List ℕ
verdict_line verdict.Yes = codes "yes\n"
verdict_line (verdict.Line k) = codes "no " ++ decimal k ++ codes " line\n"
verdict_line (verdict.Step k) = codes "no " ++ decimal k ++ codes " step\n"
verdict_line verdict.Time = codes "no " ++ codes "time\n"

-- the lines of the first tasks, so many of them
unfoldable pub state_lines : (names : List (List ℕ)) → System → ℕ → List ℕ
state_lines names s zero = []
state_lines names s (suc k) = state_lines names s k ++ state_line (get_or names k []) false (task s k).state

-- the limit of a row, behind its event
abbrev pub limit_text : Option ℕ → List ℕ
limit_text None = []
limit_text (Some limit) = codes " before " ++ decimal limit

-- the line of an event that may come next
unfoldable pub row_line : DeclaredNames → NextEvent → List ℕ
row_line names row = codes "could " ++ event_text names.tasks names.funcs names.counters row.event ++ limit_text row.limit ++ codes "\n"

abbrev pub row_lines : DeclaredNames → List NextEvent → List ℕ
row_lines names rows = flat_map (row_line names) rows
