use Rattle.std.proofs.Common.{◌∙◌, List, Some, None, ap, take}
use Rattle.sloth_base.specs.declared.service.Arrival.{Arrival}
use Rattle.sloth_base.specs.declared.service.Event.{Event}
use Rattle.observe.specs.Observe.{stamp}
use Rattle.observe.specs.Progress.{Progress, arrivals_within, progress_of}
use Rattle.observe.proofs.observing.Observer.close.Goals as goal

pub returns-clause-closed : goal.returns-clause-closed
returns-clause-closed c =
    let old = c.args.self.now in
    let closed : List Arrival → Event → Progress = λ within what. record (progress_of old) {
      first = None;
      before = within;
      event = Some (stamp c.args.first.now.count c.args.last.now.count what);
      after = within;
    } in
    ap (λ (within : List Arrival). closed within c.stretch_event-event.result) (c.split_at.ensures.front ∙ ap (λ n. take n old.inside.now) c.saturating_sub.ensures)
    ∙ ap (λ (what : Event). closed (arrivals_within old.inside.now old.coming.now) what) c.stretch_event-event.ensures
