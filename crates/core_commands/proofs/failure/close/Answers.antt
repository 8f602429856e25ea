use Rattle.core_commands.proofs.HandedOn.{no-failed-flush}
use Rattle.core_commands.proofs.failure.close.Goals as goal

pub returns-in-Err-clause-handed : goal.returns-in-Err-clause-handed
returns-in-Err-clause-handed g c stays =
    absurd (no-failed-flush (g.S.Sink.seen c.args.out.now) (g.S.Sink.seen c.flush.new.self) stays c.in-Err.ensures.err)
