use Rattle.call_graph.proofs.Sets.{has_or}
use Rattle.call_graph.proofs.rows.union.Goals as goal

pub returns : goal.returns
returns c = λ k. has_or c.args.one c.args.other k
