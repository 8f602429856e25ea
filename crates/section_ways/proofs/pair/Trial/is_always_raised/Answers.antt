use Rattle.std.proofs.Common.{[], ap, ◌∙◌}
use Rattle.sloth_base.specs.declared.config.TaskDecl.{TaskDecl}
use Rattle.section_ways.specs.Trials.{TrialCode}
use Rattle.section_ways.specs.Standings.{is_raised_at}
use Rattle.section_ways.proofs.Closing.{always_is}
use Rattle.section_ways.proofs.pair.Trial.is_always_raised.Goals as goal

pub returns : goal.returns
returns c =
    let i = c.self.inside in
    ap (λ (d : TaskDecl). d.non) c.task.ensures.is
    ∙ always_is i.walks.now.config i.walks.now.app i.above c.self.invariant.above i.task c.self.invariant.lower
    ∙ ap (λ (t : TrialCode). is_raised_at t.config t.app t.above t.task []) c.self.view_is
