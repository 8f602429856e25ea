-- The rule on what a service uses, as a test.
use Rattle.std.specs.Prelude.{ℕ, ◌==◌, ◌&&◌, not, Bool, false, length, bit_and}
use Rattle.sloth_base.specs.declared.config.Config.{Config}
use Rattle.sloth_base.specs.declared.app.Op.{Op}
use Rattle.sloth_base.specs.declared.app.Op.TheVariants as op
use Rattle.sloth_base.specs.declared.service.Service.{Service}
use Rattle.sloth_base.specs.declared.service.Service.TheVariants as service
use Rattle.sloth_base.specs.Named.{declaration}
use Rattle.sloth_base.specs.ConfigRange.{scheduler_number}
use Rattle.code_rules.specs.AppRange.{AreOperands}
use Rattle.code_rules.specs.Code.{is_in}
use Rattle.call_graph.specs.Bits.{is_member}
use Rattle.call_graph.specs.Reached.{any_below}

-- one of these tasks does not list the resource
abbrev pub is_unlisted : Config → (users r : ℕ) → Bool
is_unlisted config users r = any_below (length config.tasks) (λ t. is_member users t && not (is_in r (declaration config t).resources))

-- task t lacks one of these events
abbrev pub lacks : Config → (t mask : ℕ) → Bool
lacks config t mask = not (bit_and mask (declaration config t).events == mask)

-- one of these tasks lacks one of these events
abbrev pub is_lacked : Config → (users mask : ℕ) → Bool
is_lacked config users mask = any_below (length config.tasks) (λ t. is_member users t && lacks config t mask)

-- a service uses what one of these tasks does not declare
abbrev pub is_misuse : Config → ℕ → Service → (object mask : ℕ) → Bool
is_misuse config users service.GetResource r mask = not (r == scheduler_number) && is_unlisted config users r
is_misuse config users service.ReleaseResource r mask = not (r == scheduler_number) && is_unlisted config users r
is_misuse config users service.ClearEvent object mask = is_lacked config users mask
is_misuse config users service.WaitEvent object mask = is_lacked config users mask
is_misuse config users service.SetEvent t mask = lacks config t mask
is_misuse config users service.GetEvent t mask = not (declaration config t).extended
is_misuse config users _ object mask = false

-- V12, where these tasks reach the item
abbrev pub is_undeclared_use : Config → (users : ℕ) → Op → Bool
is_undeclared_use config users (op.Serve call) = is_misuse config users call.service call.object call.mask
is_undeclared_use config users _ = false

-- the operands of a service are in range
abbrev pub OperandsOf : Config → Op → Type 0
OperandsOf config (op.Serve call) = AreOperands config call.service call.object call.mask
OperandsOf config _ = Unit {0}
