-- The objects of services have small numbers.
use Rattle.std.proofs.Common.{ℕ, ◌≤◌, arith}
use Rattle.sloth_base.specs.declared.service.ObjectKind.{ObjectKind}
use Rattle.sloth_base.specs.declared.service.ObjectKind.TheVariants as object
use Rattle.sloth_base.specs.Limits.{resource_limit}
use Rattle.block_parts.specs.Objects.{HasServiceCode}

-- none is above 32
pub code_few : (kind : ObjectKind) (number : ℕ) → HasServiceCode kind number → number ≤ resource_limit
code_few object.Nothing number h = omega (arith, h)
code_few object.Task number h = omega (arith, h)
code_few object.Resource number h = h
code_few object.Alarm number h = absurd h
