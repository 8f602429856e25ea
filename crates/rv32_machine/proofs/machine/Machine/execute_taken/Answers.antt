use Rattle.std.proofs.Common.{◌∙◌}
use Rattle.rv32_machine.proofs.Taking.{restored}
use Rattle.rv32_machine.proofs.machine.Machine.execute_taken.Goals as goal

pub returns-in-Err-clause-same : goal.returns-in-Err-clause-same
returns-in-Err-clause-same g c =
    c.restore.ensures.state
    ∙ restored
    c.args.self.now.hart
    c.execute.new.self.hart
    (g.B.Bus.memory c.args.self.now.bus)
    (g.B.Bus.memory c.execute.new.self.bus)
    c.args.line
    (c.in-Err.ensures.same ∙ c.take.ensures.state)
    c.requires.pending
