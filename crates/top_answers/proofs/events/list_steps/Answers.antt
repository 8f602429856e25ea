use Rattle.std.proofs.Common.{arith}
use Rattle.top_answers.proofs.Rising.{weaker}
use Rattle.top_answers.proofs.events.list_steps.Goals as goal

pub new-requires-clause-ordered : goal.new-requires-clause-ordered
new-requires-clause-ordered c = weaker 1 0 c.args.arrivals.now (omega arith) c.requires.arrivals.ordered
