use Rattle.std.proofs.Common.{List, [], ℕ}
use Rattle.run_costs.specs.Services.{AreServiceTops}
use Rattle.run_costs.proofs.Growing.{each_more}
use Rattle.run_costs.proofs.services.service_tops.Goals as goal

pub loop-code-preserved : goal.loop-code-preserved
loop-code-preserved c =
    each_more (List ℕ) (AreServiceTops c.args.walks.now.config c.args.walks.now.app) c.loop-code.all.items c.push.new.list.items c.in_ok-tops.tops ([]) c.loop-code.code c.loop-code.invariant c.in_ok-push.ensures c.in_ok-tops.ensures
