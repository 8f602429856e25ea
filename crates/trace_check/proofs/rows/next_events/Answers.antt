use Rattle.std.proofs.Common.{◌∙◌, ◌++◌, List, ap, subst}
use Rattle.osek_machine.specs.Steps.{IsSound, Machine}
use Rattle.trace_check.specs.Rows.{all_rows}
use Rattle.trace_check.specs.declared.rows.NextEvent.{NextEvent}
use Rattle.trace_check.proofs.ExactEvents.{are_next_events}
use Rattle.trace_check.proofs.rows.next_events.Goals as goal

pub returns : goal.returns
returns c config app past walked =
    are_next_events config app past c.args.walk.now walked (subst (λ (m : Machine). IsSound m.config m.app m.system) c.osek.ensures c.config-config.ensures.sound)
    c.push_all.new.rows.items
    (c.in_ok-push_all.ensures ∙ ap (λ (l : List NextEvent). l ++ all_rows c.args.walk.now) c.new-rows.ensures.items)
