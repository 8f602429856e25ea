use Rattle.std.proofs.Common.{◌∙◌}
use Rattle.task_verify.proofs.Lists.{any_is_in}
use Rattle.holds_infer.proofs.body_ways.is_listed.Goals as goal

pub returns : goal.returns
returns c = c.is_any.ensures ∙ any_is_in c.args.resource c.args.held.now
