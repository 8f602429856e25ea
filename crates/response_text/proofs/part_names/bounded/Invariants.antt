use Rattle.std.proofs.Common.{◌≡◌, get_or}
use Rattle.load_text.specs.Loads.{work}
use Rattle.run_costs.specs.Tables.{no_sums}
use Rattle.run_costs.specs.CostsOf.{AreEach}
use Rattle.response_text.specs.PartNames.{unbounded, bounded_by}
use Rattle.response_text.proofs.part_names.bounded.Given as goal

abbrev pub invariant-loop-task : goal.invariant-loop-task
invariant-loop-task l = AreEach l.task unbounded (λ t b. b ≡ bounded_by (work l.load t) (get_or l.sums.items t no_sums)) l.all.items
