use Rattle.std.proofs.Common.{◌≡◌, ◌++◌, List, Some, ap, subst}
use Rattle.sloth_base.specs.declared.service.Event.{Event}
use Rattle.trace_check.specs.Rows.{event_of, rows_of}
use Rattle.trace_check.specs.declared.rows.NextEvent.{NextEvent}
use Rattle.trace_check.proofs.Below.{begins, goes_on}
use Rattle.trace_check.proofs.rows.push_each.Goals as goal

pub loop-number-init : goal.loop-number-init
loop-number-init c = begins (λ k. rows_of c.args.walk.now (Some (event_of c.args.kind k))) c.args.rows.now.items

pub loop-number-preserved : goal.loop-number-preserved
loop-number-preserved c =
    let P : Event → Type 0 = λ e. c.push_event.new.rows.items ≡ c.loop-number.rows.items ++ rows_of c.args.walk.now (Some e) in
    goes_on (λ k. rows_of c.args.walk.now (Some (event_of c.args.kind k))) c.args.rows.now.items c.loop-number.rows.items _ c.loop-number.number c.loop-number.invariant
    (subst P c.event.ensures c.in_ok-push_event.ensures)
