use Rattle.std.proofs.Common.{arith}
use Rattle.sloth_runner.proofs.Turning.{none-arrive}
use Rattle.sloth_runner.proofs.runner.Runner.arrive_now.Goals as goal

pub returns-else-due-gt0-clause-arrived : goal.returns-else-due-gt0-clause-arrived
returns-else-due-gt0-clause-arrived c =
    let e = c.passing-due.ensures in
    none-arrive c.args.self.now c.requires (omega (arith, e))
