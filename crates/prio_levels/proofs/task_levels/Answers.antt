use Rattle.std.proofs.Common.{◌∙◌, refl, arith}
use Rattle.std.proofs.lemmas.List.{get_or-replicate, get_or-set_other}
use Rattle.std.proofs.lemmas.Grind.{common_steps}
use Rattle.sloth_base.specs.Limits.{task_limit}
use Rattle.prio_levels.proofs.task_levels.Goals as goal

pub loop-number-init : goal.loop-number-init
loop-number-init c = record { done = λ t d h. absurd (omega arith); rest = λ t h k. get_or-replicate task_limit t 0 0 k; whole = refl }

pub loop-number-preserved : goal.loop-number-preserved
loop-number-preserved c =
    let k = c.loop-number.invariant in
    record {
      done = λ t d h. grind (arith, common_steps, k.done t d);
      rest = λ t h below. get_or-set_other c.loop-number.levels c.loop-number.number t c.level.result 0 (λ e. omega (arith, e)) ∙ k.rest t (omega arith) below;
      whole = grind (arith, common_steps);
    }

pub returns : goal.returns
returns c = record { of_task = λ t d h. c.loop-number.invariant.done t d (omega arith); no_task = λ t h k. c.loop-number.invariant.rest t (omega arith) k }
