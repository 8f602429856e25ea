use Rattle.call_graph.proofs.Sets.{has_one_more}
use Rattle.call_graph.proofs.rows.with.Goals as goal

pub returns : goal.returns
returns c = λ k. has_one_more 64 c.args.set c.args.member k c.requires
