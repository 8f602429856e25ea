use Rattle.std.proofs.Common.{◌∙◌}
use Rattle.task_verify.proofs.Lists.{any_is_in}
use Rattle.task_verify.proofs.held_resources.is_taken.Goals as goal

pub returns : goal.returns
returns c = c.equals_one.ensures ∙ any_is_in c.args.resource c.args.held.now
