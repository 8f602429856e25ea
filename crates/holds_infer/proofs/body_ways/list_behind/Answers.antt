use Rattle.std.proofs.Common.{ap, sym, ◌∙◌}
use Rattle.task_verify.proofs.Lists.{popped}
use Rattle.holds_infer.specs.Spread.{list_behind}
use Rattle.holds_infer.proofs.body_ways.list_behind.Goals as goal

pub returns-in-ReleaseResource : goal.returns-in-ReleaseResource
returns-in-ReleaseResource c =
    popped c.args.held.items c.pop.new.self.items c.args.held.len c.args.held.ok.0 c.pop.ensures.rest
    ∙ sym (ap (λ s. list_behind s c.args.call.object c.args.held.items) c.in-ReleaseResource.is)
