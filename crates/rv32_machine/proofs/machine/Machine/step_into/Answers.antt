use Rattle.std.proofs.Common.{◌∙◌, ap, sym}
use Rattle.sloth_base.specs.Machine.{State}
use Rattle.sloth_base.specs.declared.numbers.Step.{Step}
use Rattle.rv32_machine.specs.Advance.{Goes}
use Rattle.rv32_machine.specs.State.{state}
use Rattle.rv32_machine.proofs.machine.Machine.step_into.Goals as goal

-- the record is shown of the machine as the step left it
pub returns-in-Ok-clause-ok : goal.returns-in-Ok-clause-ok
returns-in-Ok-clause-ok g c =
    let behind = state g.B.Bus.memory c.step_front.new.self in
    c.in-Ok.ensures.ok ∙ ap (λ (x : Step). Goes x behind) (sym c.show.ensures.shown) ∙ ap (λ (s : State). Goes c.show.new.shown s) (sym c.show.ensures.state)
