-- The rules on an item as tests, by the code of the rule.
use Rattle.std.specs.Prelude.{ℕ, Bool, false, List}
use Rattle.sloth_base.specs.declared.config.Config.{Config}
use Rattle.sloth_base.specs.declared.app.App.{App}
use Rattle.sloth_base.specs.declared.app.Func.{Func}
use Rattle.sloth_base.specs.declared.refusal.Code.{Code}
use Rattle.sloth_base.specs.declared.refusal.Code.TheVariants as code
use Rattle.sloth_base.specs.Named.{item_of}
use Rattle.call_graph.specs.declared.lists.Ranks.{Ranks}
use Rattle.task_verify.specs.Tests.{is_access_past, is_uneven, is_mask_past, is_run_out, is_wrong_leave, is_wrong_release, is_second_take, is_leave_with_resource}
use Rattle.task_verify.specs.Uses.{is_undeclared_use}

-- V2 to V5, V11, and V12 where these tasks reach the item
abbrev pub plain_test : Config → App → (users : ℕ) → Func → ℕ → Code → Bool
plain_test config app users f i code.V2 = is_access_past app f (item_of f i).op
plain_test config app users f i code.V3 = is_uneven (item_of f i).op
plain_test config app users f i code.V4 = is_mask_past app (item_of f i).op
plain_test config app users f i code.V5 = is_run_out f i
plain_test config app users f i code.V11 = is_wrong_leave f (item_of f i).op
plain_test config app users f i code.V12 = is_undeclared_use config users (item_of f i).op
plain_test config app users f i _ = false

-- V8 to V10, where these are held
abbrev pub held_test : Ranks → Func → List ℕ → ℕ → Code → Bool
held_test ranks f held i code.V8 = is_wrong_release held (item_of f i).op
held_test ranks f held i code.V9 = is_second_take ranks held (item_of f i).op
held_test ranks f held i code.V10 = is_leave_with_resource ranks held (item_of f i).op
held_test ranks f held i _ = false
