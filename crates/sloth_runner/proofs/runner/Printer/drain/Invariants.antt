use Rattle.std.proofs.Common.{◌≡◌, length}
use Rattle.observe.specs.Progress.{remaining}
use Rattle.sloth_runner.proofs.RunInvariants.{IsDraining}
use Rattle.sloth_runner.proofs.runner.Printer.drain.Given as goal

abbrev pub invariant-loop-event : goal.invariant-loop-event
invariant-loop-event g l =
    IsDraining l.fn.self.image.now l.fn.self.form l.fn.self.after_idle l.fn.observer l.self.after_idle l.observer (g.S.Sink.seen l.fn.out) (g.S.Sink.seen l.out)
    × (l.self.image.now ≡ l.fn.self.image.now) × (l.self.form ≡ l.fn.self.form)

abbrev pub decreases-loop-event : goal.decreases-loop-event
decreases-loop-event g l = length (remaining l.observer)
