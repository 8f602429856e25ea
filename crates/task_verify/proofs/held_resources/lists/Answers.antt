use Rattle.std.proofs.Common.{◌∙◌}
use Rattle.task_verify.proofs.Lists.{any_is_in}
use Rattle.task_verify.proofs.held_resources.lists.Goals as goal

pub returns : goal.returns
returns c = rw (← c.items.ensures) (c.is_listed.ensures ∙ any_is_in c.args.resource c.items.result.now)
