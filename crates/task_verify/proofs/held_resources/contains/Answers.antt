use Rattle.std.proofs.Common.{sym, ◌∙◌}
use Rattle.std.proofs.lemmas.Bool.{le-ltb}
use Rattle.task_verify.proofs.Lists.{has_above}
use Rattle.task_verify.proofs.held_resources.contains.Goals as goal

pub returns-else-member-lt-SET_SIZE : goal.returns-else-member-lt-SET_SIZE
returns-else-member-lt-SET_SIZE c = le-ltb c.args.member 64 c.if-member-lt-SET_SIZE.false ∙ sym (has_above 64 c.args.set c.args.member c.ranges.set.fits c.if-member-lt-SET_SIZE.false)
