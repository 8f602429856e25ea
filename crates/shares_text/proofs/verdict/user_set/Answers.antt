use Rattle.std.proofs.Common.{◌||◌, ap}
use Rattle.std.specs.Prelude.{◌==◌}
use Rattle.std.specs.List.{list_any}
use Rattle.call_graph.proofs.Sets.{has_none}
use Rattle.shares_text.proofs.verdict.user_set.Goals as goal

pub loop-used-init : goal.loop-used-init
loop-used-init c = λ t few. ap (λ b. b || list_any (λ u. u.task == t) c.args.uses.now) (has_none t)
