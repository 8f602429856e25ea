use Rattle.std.proofs.Common.{◌≡◌, ◌∙◌, ◌-◌, ◌++◌, refl, ap, sym, arith}
use Rattle.app_gen.specs.Draws.{next_draw, draw}
use Rattle.app_gen.specs.Source.{body, numbered_body}
use Rattle.text_pieces.proofs.Ranges.{put_more}
use Rattle.app_gen.proofs.Steps.{draw_behind}
use Rattle.app_gen.proofs.source.put_bodies.Goals as goal

pub loop-task-init : goal.loop-task-init
unfolding draw
loop-task-init c = (refl, refl)

pub loop-task-preserved : goal.loop-task-preserved
loop-task-preserved c =
    let drawn = c.next.ensures.drawn ∙ ap next_draw c.loop-task.invariant.1 ∙ sym (draw_behind c.args.draws.now c.loop-task.task c.loop-task.auto.task) in (
      put_more (body c.args.draws.now) _ _ _ c.loop-task.task c.args.tasks c.loop-task-test.true
          (c.in_ok-put_body.ensures ∙ ap (λ x. c.loop-task.text.items ++ numbered_body c.loop-task.task x) drawn)
          c.loop-task.invariant.0,
      c.next.ensures.last ∙ drawn ∙ ap (draw c.args.draws.now) (omega arith),
    )

pub returns-clause-draws : goal.returns-clause-draws
returns-clause-draws c =
    let all : c.loop-task.task ≡ c.args.tasks = omega arith in c.loop-task.invariant.1 ∙ ap (λ k. draw c.args.draws.now (k - 1)) all
