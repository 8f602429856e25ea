use Rattle.std.proofs.Common.{sym}
use Rattle.walk_sums.proofs.Filling.{endless_by_call}
use Rattle.walk_sums.proofs.levels.Caller.summary.Goals as goal

pub returns-then-calls_endless-clause-is : goal.returns-then-calls_endless-clause-is
returns-then-calls_endless-clause-is c = endless_by_call c.args.self.now c.calls_endless.ensures.before (sym c.if-calls_endless.ensures.is)
