use Rattle.std.proofs.Common.{◌∙◌, ◌++◌, ap, refl}
use Rattle.run_load.specs.RunLines.{cuts_of, seen_line}
use Rattle.response_text.specs.declared.task_text.Response.{Response}
use Rattle.run_load.proofs.SeenLines.{no-lines, lines-more, above-more}
use Rattle.run_load.proofs.lines.seen_tasks.Goals as goal

pub loop-task-init : goal.loop-task-init
loop-task-init c =
    let run = c.args.run.now in
    record { text = c.new-text.ensures.items ∙ no-lines run.config.now run.app.now run.events.now c.args.responses.now; above = refl }

pub loop-task-preserved : goal.loop-task-preserved
loop-task-preserved c =
    let run = c.args.run.now in
    let t = c.loop-task.task in
    let seen = c.in_ok-seen.seen in
    let is = c.in_ok-seen.ensures in
    let added = c.in_ok-push_seen.ensures ∙ ap (λ (r : Response). c.loop-task.text.items ++ seen_line run.config.now t r seen.all seen.behind) c.response_at-response.ensures in
    record {
      text = lines-more run.config.now run.app.now run.events.now c.args.responses.now t seen.all seen.behind _ _ c.loop-task.invariant.text added is.all is.behind;
      above = above-more run.config.now run.app.now run.load.now (cuts_of run.costs.now) run.events.now t c.is_cut-cuts.result _ seen.above _ c.loop-task.invariant.above is.above
          c.is_cut-cuts.ensures c.earlier-above.ensures;
    }
