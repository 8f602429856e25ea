use Rattle.std.proofs.Common.{[]}
use Rattle.run_costs.specs.Services.{AreServiceTops}
use Rattle.run_costs.specs.CostsOf.{AreEach}
use Rattle.run_costs.proofs.services.service_tops.Given as goal

abbrev pub invariant-loop-code : goal.invariant-loop-code
invariant-loop-code l = AreEach l.code ([]) (AreServiceTops l.walks.config l.walks.app) l.all.items
