-- The reasons of tasks that have no number.
use Rattle.std.specs.Prelude.{ℕ, ◌<◌, ◌≡◌, ◌&&◌, is_none, Bool, List, length, Option}
use Rattle.sloth_base.specs.declared.config.Config.{Config}
use Rattle.sloth_base.specs.declared.app.App.{App}
use Rattle.run_windows.specs.declared.costs.Costs.{Costs}
use Rattle.response_reasons.specs.declared.reasons.Reason.{Reason}
use Rattle.response_reasons.specs.Reasons.{IsReasonIf}
use Rattle.response_text.specs.declared.task_text.Response.{Response}
use Rattle.response_text.specs.Lines.{response_at, reason_at}

-- the task comes, and it has no number
abbrev pub is_numberless : Response → Bool
is_numberless r = is_none r.anywhere && r.comes

-- why task h has no number, where it has none
abbrev pub IsReason : Config → App → Costs → (h : ℕ) → Response → Option Reason → Type 0
IsReason config app costs h r why = IsReasonIf config app costs h (is_numberless r) why

-- the reasons of so many tasks
pub record AreReasons (config : Config) (app : App) (costs : Costs) (responses : List Response) (count : ℕ) (reasons : List (Option Reason)) : Type 0 where
  pub count_is : length reasons ≡ count
  pub each : (t : ℕ) → t < count → IsReason config app costs t (response_at responses t) (reason_at reasons t)
