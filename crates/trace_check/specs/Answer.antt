-- What each verdict says.
use Rattle.std.specs.Prelude.{ℕ, List}
use Rattle.sloth_base.specs.declared.config.Config.{Config}
use Rattle.sloth_base.specs.declared.app.App.{App}
use Rattle.sloth_base.specs.declared.service.Arrival.{Arrival}
use Rattle.trace_check.specs.TraceText.{IsFirstBad}
use Rattle.sloth_base.specs.DeclaredNames.{task_names, counter_names, function_names}
use Rattle.trace_check.specs.Verdicts.{Checked, IsFirstStray, IsLate}
use Rattle.trace_check.specs.declared.rows.Verdict.{Verdict}
use Rattle.trace_check.specs.declared.rows.Verdict.TheVariants as verdict

abbrev pub IsVerdict : Config → App → List Arrival → List ℕ → ℕ → Verdict → Type 0
IsVerdict config app arrivals text n verdict.Yes = Checked config app arrivals text n
IsVerdict config app arrivals text n (verdict.Line k) = IsFirstBad (task_names config) (function_names app) (counter_names config) text k
IsVerdict config app arrivals text n (verdict.Step k) = IsFirstStray config app text k
IsVerdict config app arrivals text n verdict.Time = IsLate config app arrivals text n
