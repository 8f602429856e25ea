-- What the tests of rules say.
use Rattle.std.proofs.Common.{◌≡◌, ℕ, ◌<◌, true, length}
use Rattle.std.proofs.lemmas.Bool.{false≢true}
use Rattle.sloth_base.specs.declared.config.Config.{Config}
use Rattle.sloth_base.specs.declared.app.App.{App}
use Rattle.sloth_base.specs.declared.refusal.Code.{Code}
use Rattle.sloth_base.specs.declared.refusal.Code.TheVariants as code
use Rattle.sloth_base.specs.Named.{function, operation, no_function, no_item, no_label}
use Rattle.code_rules.specs.AppRange.{AppInRange, IsOp}
use Rattle.code_rules.specs.Code.{held_list_at}
use Rattle.code_rules.specs.WellFormed.{IsBreach, is_access_past, is_uneven, is_mask_past, is_run_out, is_wrong_release, is_second_take, is_leave_with_resource, is_wrong_leave, is_undeclared_use}
use Rattle.task_verify.specs.Ways.{HasBodyLabel}
use Rattle.task_verify.specs.Uses.{OperandsOf}
use Rattle.task_verify.specs.Labels.{ArePlaced}
use Rattle.call_graph.specs.declared.lists.Ranks.{Ranks}
use Rattle.call_graph.specs.Ranks.{RanksOf}
use Rattle.task_verify.specs.Cases.{AreUsers}
use Rattle.task_verify.proofs.Tests.{Decides-is_access_past, Decides-is_uneven, Decides-is_mask_past, Decides-is_run_out, Decides-is_wrong_leave, Decides-is_wrong_release, Decides-is_second_take, Decides-is_leave_with_resource, leads, operands}
use Rattle.task_verify.proofs.Uses.{Decides-is_undeclared_use}
use Rattle.fault_witnesses.specs.BreachTests.{plain_test, held_test}

pub plain_broken : (config : Config) (app : App) (users b i : ℕ) (c : Code) → AppInRange config app → AreUsers app b users
    → plain_test config app users (function app b) i c ≡ true → IsBreach config app b i c
plain_broken config app users b i code.V2 range users_are h = is_access_past ((Decides-is_access_past app (function app b) (operation app b i)).0 h)
plain_broken config app users b i code.V3 range users_are h = is_uneven ((Decides-is_uneven (operation app b i)).0 h)
plain_broken config app users b i code.V4 range users_are h = is_mask_past ((Decides-is_mask_past app (operation app b i)).0 h)
plain_broken config app users b i code.V5 range users_are h = is_run_out ((Decides-is_run_out (function app b) i).0 h)
plain_broken config app users b i code.V11 range users_are h = is_wrong_leave ((Decides-is_wrong_leave (function app b) (operation app b i)).0 h)
plain_broken config app users b i code.V12 range users_are h =
    is_undeclared_use ((Decides-is_undeclared_use config app range b users (operation app b i) users_are).0 h)
plain_broken config app users b i _ range users_are h = absurd (false≢true h)

pub held_broken : (config : Config) (app : App) (ranks : Ranks) (b i : ℕ) (c : Code) → AppInRange config app → RanksOf app ranks
    → IsOp config app (function app b) (operation app b i) → held_test ranks (function app b) (held_list_at (function app b) i) i c ≡ true → IsBreach config app b i c
held_broken config app ranks b i code.V8 range belong op h = is_wrong_release ((Decides-is_wrong_release (held_list_at (function app b) i) (operation app b i)).0 h)
held_broken config app ranks b i code.V9 range belong op h =
    is_second_take ((Decides-is_second_take config app ranks range belong (function app b) (held_list_at (function app b) i) (operation app b i) op).0 h)
held_broken config app ranks b i code.V10 range belong op h =
    is_leave_with_resource ((Decides-is_leave_with_resource config app ranks range belong (function app b) (held_list_at (function app b) i) (operation app b i) op).0 h)
held_broken config app ranks b i _ range belong op h = absurd (false≢true h)

-- ---- what is in range

module _ (config : Config) (app : App) (b : ℕ) (range : AppInRange config app) (known : b < length app.funcs) where
  pub op_is : (i : ℕ) → i < length (function app b).items → IsOp config app (function app b) (operation app b i)
  op_is i l = (range.bodies b no_function known).items i no_item l

  pub all_lead : (i : ℕ) → i < length (function app b).items → HasBodyLabel (function app b) (operation app b i)
  all_lead i l = leads config app (function app b) (operation app b i) (op_is i l)

  pub operands_are : (i : ℕ) → i < length (function app b).items → OperandsOf config (operation app b i)
  operands_are i l = operands config app (function app b) (operation app b i) (op_is i l)

  pub are_placed : ArePlaced (function app b)
  are_placed k l = ((range.bodies b no_function known).labels k no_label l).place
