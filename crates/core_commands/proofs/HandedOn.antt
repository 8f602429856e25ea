-- Where no call of the sink failed, what was put was handed on.
use Rattle.std.proofs.Common.{◌≡◌, ◌≢◌, ◌+◌, ℕ, min, List, sym, ap, subst, arith}
use Rattle.sloth_io.specs.Counts.{Stays}
use Rattle.sloth_io.specs.Sink.{Output, FailsToPassOn, GainsPart}
use Rattle.sloth_io.specs.Store.{Files}
use Rattle.command_line.specs.Command.{Command}
use Rattle.core_commands.specs.Failures.{IsCommandFailure, IsFailureEnd, IsPerformed}
use Rattle.core_commands.specs.ToolTables.{ToolTable}
use Rattle.core_commands.specs.Top.{World, world}
use Rattle.command_line.specs.declared.answer.Status.{Status}
use Rattle.core_commands.specs.declared.failure.Failure.{Failure}
use Rattle.core_commands.specs.declared.failure.Failure.TheVariants as failure

-- a count that was raised did not stay
not-raised : (old new : ℕ) → Stays old new → new ≡ min (old + 1) 18446744073709551615 → ⊥
not-raised old new stays raised = grind (arith, stays.0, stays.1, raised)

-- no call that hands on failed
pub no-failed-flush : (old new : Output) → Stays old.faults new.faults → FailsToPassOn old new → ⊥
no-failed-flush old new stays failed = not-raised old.faults new.faults stays (ap (λ (x : Output). x.faults) failed.1)

-- no put failed
pub no-failed-put : (old new : Output) (piece : List ℕ) → Stays old.faults new.faults → GainsPart old new piece → ⊥
no-failed-put old new piece stays failed = not-raised old.faults new.faults stays (ap (λ (x : Output). x.faults) failed.3)

-- the count stays behind calls that left it as it was
pub stays-behind : (old mid new : ℕ) → mid ≡ old → Stays old new → Stays mid new
stays-behind old mid new same stays = subst (λ n. Stays n new) (sym same) stays

sink-same : (old mid : Output) → mid ≡ old → mid.faults ≡ old.faults
sink-same old mid = ap (λ (x : Output). x.faults)

-- behind a failure of a command no put of it failed before its last line, so the last line is what is to be handed on
pub failure-stays : (tools : ToolTable) (f : Failure) (c : Command) (old : World) (files : Files) (mid new : Output) (answer : Status)
    → IsCommandFailure tools f old (world files mid) c → IsFailureEnd f answer mid new → Stays old.sink.faults new.faults
    → (f ≢ failure.Put) × Stays mid.faults new.faults
failure-stays tools (failure.Refused r) c old files mid new answer h d stays = (λ is. cc, stays-behind _ _ _ (sink-same old.sink mid h.2) stays)
failure-stays tools failure.ReadFault c old files mid new answer h d stays = (λ is. cc, stays-behind _ _ _ (sink-same old.sink mid h.2) stays)
failure-stays tools failure.TooLong c old files mid new answer h d stays = (λ is. cc, stays-behind _ _ _ (sink-same old.sink mid h.2) stays)
failure-stays tools (failure.NotAnImage fault) c old files mid new answer h d stays = (λ is. cc, stays-behind _ _ _ (sink-same old.sink mid h.2) stays)
failure-stays tools failure.NoMemory c old files mid new answer h d stays = (λ is. cc, stays-behind _ _ _ (sink-same old.sink mid h.1) stays)
failure-stays tools failure.WriteFile c old files mid new answer h d stays = (λ is. cc, stays-behind _ _ _ (sink-same old.sink mid h.1) stays)
failure-stays tools failure.Put c old files mid new answer h d stays =
    let S : Output → Type 0 = λ x. Stays old.sink.faults x.faults in
    absurd (no-failed-put old.sink mid h.1 (subst S d.1 stays) h.3)

-- behind a command that was performed
pub performed-stays : (tools : ToolTable) (s : Status) (c : Command) (old : World) (files : Files) (mid new : Output)
    → IsPerformed tools s old (world files mid) c → Stays old.sink.faults new.faults → Stays mid.faults new.faults
performed-stays tools s c old files mid new h stays = stays-behind _ _ _ (ap (λ (x : Output). x.faults) h.2) stays
