-- The state of an Active task is no other one.
use Rattle.std.proofs.Common.{◌≡◌, ℕ}
use Rattle.osek_scheduler.specs.declared.state.TaskState.{TaskState}
use Rattle.osek_scheduler.specs.declared.state.TaskState.TheVariants as mode

pub not_suspended : (m : TaskState) → m ≡ mode.Active → m ≡ mode.Suspended → ⊥
not_suspended mode.Suspended a b = absurd cc
not_suspended mode.Ready a b = absurd cc
not_suspended mode.Active a b = absurd cc
not_suspended (mode.Waiting mask) a b = absurd cc

pub not_ready : (m : TaskState) → m ≡ mode.Active → m ≡ mode.Ready → ⊥
not_ready mode.Suspended a b = absurd cc
not_ready mode.Ready a b = absurd cc
not_ready mode.Active a b = absurd cc
not_ready (mode.Waiting mask) a b = absurd cc

pub not_waiting : (m : TaskState) (mask : ℕ) → m ≡ mode.Active → m ≡ mode.Waiting mask → ⊥
not_waiting mode.Suspended mask a b = absurd cc
not_waiting mode.Ready mask a b = absurd cc
not_waiting mode.Active mask a b = absurd cc
not_waiting (mode.Waiting other) mask a b = absurd cc
