use Rattle.std.proofs.Common.{ap}
use Rattle.sloth_io.specs.Sink.{Output}
use Rattle.core_commands.proofs.Causes.{closed}
use Rattle.core_commands.proofs.HandedOn.{no-failed-put, stays-behind}
use Rattle.core_commands.proofs.failure.say.Goals as goal

pub returns-in-Ok-clause-ends : goal.returns-in-Ok-clause-ends
returns-in-Ok-clause-ends g c = closed _ _ _ _ _ _ c.in-Ok.ensures.ok c.close.ensures.ends

pub returns-in-Ok-clause-handed : goal.returns-in-Ok-clause-handed
returns-in-Ok-clause-handed g c stays =
    c.close.ensures.handed (stays-behind _ _ _ (ap (λ (x : Output). x.faults) c.in-Ok.ensures.ok) stays)

pub returns-in-Err-clause-handed : goal.returns-in-Err-clause-handed
returns-in-Err-clause-handed g c stays =
    absurd (no-failed-put (g.S.Sink.seen c.args.out.now) (g.S.Sink.seen c.put.new.self) c.args.line.now stays c.in-Err.ensures.err)
