use Rattle.call_graph.proofs.Sets.{has_one_more}
use Rattle.call_graph.proofs.rows.with_task.Goals as goal

pub returns : goal.returns
returns c = λ k. has_one_more 32 c.args.set c.args.task k c.requires
