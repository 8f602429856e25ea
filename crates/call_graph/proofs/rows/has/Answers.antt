use Rattle.call_graph.proofs.Sets.{has_is}
use Rattle.call_graph.proofs.rows.has.Goals as goal

pub returns : goal.returns
returns c = has_is c.args.set c.args.member
