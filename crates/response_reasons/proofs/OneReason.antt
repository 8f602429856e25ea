-- A task has one reason at most.
use Rattle.std.proofs.Common.{◌≡◌, ◌∙◌, ℕ, Bool, true, false, length, Option, Some, None, refl, sym, ap}
use Rattle.sloth_base.specs.declared.config.Config.{Config}
use Rattle.sloth_base.specs.declared.app.App.{App}
use Rattle.run_windows.specs.declared.costs.Costs.{Costs}
use Rattle.run_windows.specs.declared.costs.Untold.{Untold}
use Rattle.run_windows.specs.declared.costs.Untold.TheVariants as untold
use Rattle.run_windows.specs.FirstUntold.{first_untold}
use Rattle.run_windows.proofs.OneLeast.{one_least}
use Rattle.walk_sums.specs.Weights.{item_weights}
use Rattle.response_reasons.specs.Loops.{HasSectionLoop}
use Rattle.response_reasons.specs.declared.reasons.Reason.{Reason}
use Rattle.response_reasons.specs.Reasons.{HasRoundLoop, HasMakingLoop, HasLevelLoop, IsUntoldLine, loop_reason, IsReasonFor, IsReasonIf}

module _ (config : Config) (app : App) (costs : Costs) (h : ℕ) where
  one_line : (u : Untold) (one other : Option ℕ) → IsUntoldLine config app costs h u one → IsUntoldLine config app costs h u other → one ≡ other
  one_line (untold.Rounds k) one other a b = one_least (HasRoundLoop config app (item_weights app) k) one other a b
  one_line (untold.Makings k j) one other a b = one_least (HasMakingLoop config app k j) one other a b
  one_line (untold.Section k) one other a b = one_least (HasSectionLoop config app (item_weights app) h k) one other a b
  one_line (untold.SectionMakings k) one other a b = one_least (HasLevelLoop config app costs (length costs.tasks) h k) one other a b

  one_for : (u : Option Untold) (one other : Reason) → IsReasonFor config app costs h u one → IsReasonFor config app costs h u other → one ≡ other
  one_for None one other a b = a ∙ sym b
  one_for (Some u) one other a b = a.2 ∙ (ap (loop_reason u) (one_line u a.0 b.0 a.1 b.1) ∙ sym b.2)

  pub one_if : (asked : Bool) (one other : Option Reason) → IsReasonIf config app costs h asked one → IsReasonIf config app costs h asked other → one ≡ other
  one_if true (Some one) (Some other) a b = ap Some (one_for (first_untold costs h) one other a b)
  one_if true (Some one) None a b = absurd b
  one_if true None other a b = absurd a
  one_if false None None a b = refl
  one_if false None (Some other) a b = absurd b
  one_if false (Some one) other a b = absurd a
