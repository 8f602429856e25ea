use Rattle.std.proofs.Common.{◌∙◌, ap}
use Rattle.sloth_base.specs.Machine.{State}
use Rattle.sloth_base.specs.Take.{execution_state}
use Rattle.sloth_runner.proofs.runner.Runner.execute.Goals as goal

pub returns-in-Err-clause-err : goal.returns-in-Err-clause-err
returns-in-Err-clause-err c = record {
  halts = c.in-Err.ensures.err;
  pc = c.next_pc.ensures ∙ ap (λ (m : State). (execution_state m).pc) c.in-Err.ensures.same;
}
