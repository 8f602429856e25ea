use Rattle.std.proofs.Common.{◌∙◌}
use Rattle.debug_session.proofs.Parting.{part_refused, part_passed, part_last}
use Rattle.debug_session.proofs.words.actions_request.Goals as goal

pub returns-in-Err : goal.returns-in-Err
returns-in-Err c =
    part_refused c.args.tasks c.in-Err.fault c.is_none-only.result c.loop-further.rest.now c.before-part.result.now c.loop-further.chosen _ _ c.before-part.ensures
    c.part_step.ensures c.in-Err.is c.loop-further.invariant.0

pub loop-further-preserved : goal.loop-further-preserved
loop-further-preserved c = (
  part_passed c.args.tasks c.is_none-only.result c.loop-further.rest.now c.before-part.result.now c.in-Some.further.now c.loop-further.chosen c.in-Ok.step _ _
      c.before-part.ensures c.in-Some.ensures.some c.part_step.ensures c.in-Ok.is c.loop-further.invariant.0,
  c.loop-further.invariant.1,
)

pub returns-in-Ok-part_step : goal.returns-in-Ok-part_step
returns-in-Ok-part_step c =
    c.chosen_request.ensures
    ∙ part_last c.args.tasks c.is_none-only.result c.loop-further.rest.now c.before-last.result.now c.loop-further.chosen c.in-Ok-part_step.step _ _ c.before-last.ensures
    c.in_default.ensures.none c.part_step-2.ensures c.in-Ok-part_step.is c.loop-further.invariant.0

pub returns-in-Err-part_step : goal.returns-in-Err-part_step
returns-in-Err-part_step c =
    part_refused c.args.tasks c.in-Err-part_step.fault c.is_none-only.result c.loop-further.rest.now c.before-last.result.now c.loop-further.chosen _ _ c.before-last.ensures
    c.part_step-2.ensures c.in-Err-part_step.is c.loop-further.invariant.0
