-- The test of what a service uses decides the rule.
use Rattle.std.proofs.Common.{ℕ, Bool, ◌&&◌, not, length}
use Rattle.std.specs.Prelude.{◌==◌, bit_and}
use Rattle.std.specs.Bool.{Decides}
use Rattle.std.proofs.lemmas.Bool.{and_parts, and_from}
use Rattle.std.proofs.lemmas.Bool.Decides.{Decides-and, Decides-not}
use Rattle.sloth_base.specs.ConfigRange.{scheduler_number}
use Rattle.sloth_base.specs.declared.config.Config.{Config}
use Rattle.sloth_base.specs.declared.app.App.{App}
use Rattle.sloth_base.specs.declared.app.Op.{Op}
use Rattle.sloth_base.specs.declared.app.Op.TheVariants as op
use Rattle.sloth_base.specs.declared.service.Service.{Service}
use Rattle.sloth_base.specs.declared.service.Service.TheVariants as service
use Rattle.sloth_base.specs.Named.{declaration}
use Rattle.code_rules.specs.AppRange.{AppInRange}
use Rattle.code_rules.specs.Code.{TaskReaches, is_in}
use Rattle.code_rules.specs.WellFormed.{HasResource, HasEvents, IsUnlisted, IsLacked, IsMisuse, IsUndeclaredUse}
use Rattle.call_graph.specs.Bits.{is_member}
use Rattle.call_graph.specs.Reached.{any_below}
use Rattle.call_graph.proofs.Itself.{number_found, number_counts}
use Rattle.task_verify.specs.Uses.{is_unlisted, lacks, is_lacked, is_misuse, is_undeclared_use}
use Rattle.task_verify.proofs.Tests.{none, itself, is_false, differs_decides}

module _ (config : Config) (app : App) (in_range : AppInRange config app) where
  -- where some task that reaches the function fails a test
  some_user : (f users : ℕ) (test : ℕ → Bool) (P : ℕ → Type 0) → ((t : ℕ) → Decides (is_member users t) (TaskReaches app t f)) → ((t : ℕ) → Decides (test t) (P t))
      → Decides (any_below (length config.tasks) (λ t. is_member users t && test t)) ((t : ℕ) × TaskReaches app t f × P t)
  some_user f users test P reach decides = (
    λ e.
        let x = number_found (λ t. is_member users t && test t) (length config.tasks) e in
        let parts = and_parts (is_member users x.0) (test x.0) x.2 in
        (x.0, (reach x.0).0 parts.0, (decides x.0).0 parts.1),
    λ x.
        number_counts (λ t. is_member users t && test t) (length config.tasks) x.0 (in_range.tasks.declared x.0 x.1.0 x.1.1)
        (and_from (is_member users x.0) (test x.0) ((reach x.0).1 x.1) ((decides x.0).1 x.2)),
  )

  Decides-lacks : (t mask : ℕ) → Decides (lacks config t mask) (¬ (HasEvents (declaration config t) mask))
  Decides-lacks t mask = differs_decides (bit_and mask (declaration config t).events) mask

  Decides-is_unlisted : (f users r : ℕ) → ((t : ℕ) → Decides (is_member users t) (TaskReaches app t f)) → Decides (not (r == scheduler_number) && is_unlisted config users r) (IsUnlisted config app f r)
  Decides-is_unlisted f users r reach =
      Decides-and (not (r == scheduler_number)) (is_unlisted config users r) (differs_decides r scheduler_number)
      (some_user f users (λ t. not (is_in r (declaration config t).resources)) (λ t. ¬ (HasResource (declaration config t) r)) reach
      (λ t. Decides-not (is_in r (declaration config t).resources) (itself (is_in r (declaration config t).resources))))

  Decides-is_lacked : (f users mask : ℕ) → ((t : ℕ) → Decides (is_member users t) (TaskReaches app t f)) → Decides (is_lacked config users mask) (IsLacked config app f mask)
  Decides-is_lacked f users mask reach =
      some_user f users (λ t. lacks config t mask) (λ t. ¬ (HasEvents (declaration config t) mask)) reach (λ t. Decides-lacks t mask)

  Decides-misuses : (f users : ℕ) (s : Service) (object mask : ℕ) → ((t : ℕ) → Decides (is_member users t) (TaskReaches app t f))
      → Decides (is_misuse config users s object mask) (IsMisuse config app f s object mask)
  Decides-misuses f users service.GetResource r mask reach = Decides-is_unlisted f users r reach
  Decides-misuses f users service.ReleaseResource r mask reach = Decides-is_unlisted f users r reach
  Decides-misuses f users service.ClearEvent object mask reach = Decides-is_lacked f users mask reach
  Decides-misuses f users service.WaitEvent object mask reach = Decides-is_lacked f users mask reach
  Decides-misuses f users service.SetEvent t mask reach = Decides-lacks t mask
  Decides-misuses f users service.GetEvent t mask reach = is_false (declaration config t).extended
  Decides-misuses f users _ object mask reach = none

  pub Decides-is_undeclared_use : (f users : ℕ) (o : Op) → ((t : ℕ) → Decides (is_member users t) (TaskReaches app t f))
      → Decides (is_undeclared_use config users o) (IsUndeclaredUse config app f o)
  Decides-is_undeclared_use f users (op.Serve call) reach = Decides-misuses f users call.service call.object call.mask reach
  Decides-is_undeclared_use f users _ reach = none
