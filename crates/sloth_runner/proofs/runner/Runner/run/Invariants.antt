use Rattle.std.proofs.Common.{◌≤◌, ◌-◌}
use Rattle.sloth_runner.specs.Runner.{count_of}
use Rattle.sloth_runner.proofs.RunInvariants.{IsBehindPrintedRun}
use Rattle.sloth_runner.proofs.runner.Runner.run.Given as goal

abbrev pub invariant-loop-self : goal.invariant-loop-self
invariant-loop-self g l =
    IsBehindPrintedRun l.fn.self l.self l.fn.form l.printer (g.S.Sink.seen l.fn.out) (g.S.Sink.seen l.out) (count_of l.self) × (count_of l.self ≤ l.fn.n)

abbrev pub decreases-loop-self : goal.decreases-loop-self
decreases-loop-self g l = l.fn.n - count_of l.self
