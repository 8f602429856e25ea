use Rattle.std.proofs.Common.{arith}
use Rattle.irq_ctrl.proofs.Choice.{choice_at_end, chosen_at_end}
use Rattle.irq_ctrl.proofs.line_bytes.LineBytes.choose.Goals as goal

pub returns-clause-is : goal.returns-clause-is
returns-clause-is c =
    choice_at_end c.args.self.now c.args.level c.loop-line.line c.loop-line.best c.loop-line.invariant.0 (omega arith)

pub returns-clause-chosen : goal.returns-clause-chosen
returns-clause-chosen c =
    chosen_at_end c.args.self.now c.args.level c.loop-line.line c.loop-line.best c.loop-line.invariant.0 (omega arith)
