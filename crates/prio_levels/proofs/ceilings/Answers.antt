use Rattle.std.proofs.Common.{arith}
use Rattle.std.proofs.lemmas.Grind.{common_steps}
use Rattle.prio_levels.proofs.ceilings.Goals as goal

pub loop-resource-preserved : goal.loop-resource-preserved
loop-resource-preserved c = record { done = λ r h. grind (arith, common_steps, c.loop-resource.invariant.done r); whole = grind (arith, common_steps) }

pub returns : goal.returns
returns c = record { listed = λ r h. grind (arith, common_steps, c.loop-resource.invariant.done r); scheduler = grind (arith, common_steps) }
