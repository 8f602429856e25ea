use Rattle.std.proofs.Common.{List, ◌∙◌, ap, map, take, drop}
use Rattle.sloth_base.specs.Arrive.{state_arrive}
use Rattle.sloth_base.specs.declared.service.Arrival.{Arrival}
use Rattle.rv32_machine.specs.State.{state}
use Rattle.debug_view.proofs.Standing.{due_front}
use Rattle.debug_view.proofs.arriving.arrive.Goals as goal

pub returns-clause-state : goal.returns-clause-state
returns-clause-state c =
    c.arrive_front.ensures.state
    ∙ ap (λ (here : List Arrival). state_arrive (map (λ a. a.line) here) (state (λ bus. bus) c.args.machine.now))
    (ap (λ n. take n c.args.coming.now) c.passing-due.ensures ∙ due_front c.args.machine.now.count c.args.coming.now)

pub returns-clause-behind : goal.returns-clause-behind
returns-clause-behind c = c.arrive_front.ensures.behind ∙ ap (λ n. drop n c.args.coming.now) c.passing-due.ensures
