use Rattle.std.proofs.Common.{◌||◌, ap}
use Rattle.call_graph.proofs.Sets.{has_none}
use Rattle.shares_text.specs.Computed.{is_held_at_some}
use Rattle.shares_text.proofs.keepers.held_at_some.Goals as goal

pub loop-used-init : goal.loop-used-init
loop-used-init c = λ r. ap (λ b. b || is_held_at_some c.args.uses.now c.args.task r) (has_none r)
