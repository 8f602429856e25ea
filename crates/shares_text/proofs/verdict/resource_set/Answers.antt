use Rattle.std.proofs.Common.{◌||◌, ap}
use Rattle.code_rules.specs.Code.{is_in}
use Rattle.call_graph.proofs.Sets.{has_none}
use Rattle.shares_text.proofs.verdict.resource_set.Goals as goal

pub loop-resource-init : goal.loop-resource-init
loop-resource-init c = λ r few. ap (λ b. b || is_in r c.args.held.now) (has_none r)
