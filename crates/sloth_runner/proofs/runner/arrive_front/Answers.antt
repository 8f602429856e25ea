use Rattle.std.proofs.Common.{List, ◌∙◌, ap, map}
use Rattle.sloth_base.specs.Arrive.{state_arrive}
use Rattle.sloth_base.specs.declared.service.Arrival.{Arrival}
use Rattle.sloth_runner.specs.Moments.{sloth_state}
use Rattle.sloth_runner.proofs.runner.arrive_front.Goals as goal

pub returns-clause-state : goal.returns-clause-state
returns-clause-state c =
    c.arrive.ensures.state ∙ ap (λ (here : List Arrival). state_arrive (map (λ a. a.line) here) (sloth_state c.args.machine.now)) c.split_at.ensures.front
