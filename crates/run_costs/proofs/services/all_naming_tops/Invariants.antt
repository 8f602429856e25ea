use Rattle.run_costs.specs.Services.{no_tops, AreNamingTops}
use Rattle.run_costs.specs.CostsOf.{AreEach}
use Rattle.run_costs.proofs.services.all_naming_tops.Given as goal

abbrev pub invariant-loop-named : goal.invariant-loop-named
invariant-loop-named l = AreEach l.named (no_tops) (λ j tops. AreNamingTops l.walks.config l.walks.app j tops) l.all.items
