use Rattle.symbol_image.proofs.Groups.{IsBegun}
use Rattle.symbol_image.proofs.fields.put_groups.Given as goal

abbrev pub invariant-loop-rest : goal.invariant-loop-rest
invariant-loop-rest l = IsBegun l.limit l.fn.section.items l.section.items l.number l.rest

abbrev pub decreases-loop-rest : goal.decreases-loop-rest
decreases-loop-rest l = l.rest
