use Rattle.std.proofs.Common.{◌∙◌, ap}
use Rattle.debug_ways.specs.Cursor.{cursor_run}
use Rattle.debug_ways.specs.Runs.{Run}
use Rattle.debug_ways.specs.declared.standing.Step.{Step}
use Rattle.debug_ways.specs.Standing.{stepped, selected_in}
use Rattle.debug_session.proofs.session.standing_behind.Goals as goal

pub returns-in-PlainStep-clause-behind : goal.returns-in-PlainStep-clause-behind
returns-in-PlainStep-clause-behind g c =
    let run : Run = cursor_run g.M.Machine.run c.args.cursor.now in
    rw c.in-PlainStep.is (c.stepped-in-PlainStep.ensures.stepped
    ∙ ap (λ (step : Step). selected_in run (stepped run c.args.points.now step c.args.standing.now)) c.plain_step.ensures)
