use Rattle.std.proofs.Common.{arith, ◌∙◌, sym, ap, subst, List, ◌++◌, ◌∷◌, []}
use Rattle.sloth_base.specs.declared.service.Arrival.{Arrival}
use Rattle.sloth_base.specs.Arrivals.{AreArrivals}
use Rattle.sloth_base.specs.Order.{NoFault}
use Rattle.trace_text.specs.ArrivalsText.{ArrivalLineFault, owners_read}
use Rattle.trace_text.proofs.Kept.{last-fits, moment-fits, one-more}
use Rattle.trace_text.proofs.arrivals.read_line.Goals as goal

pub line_fault-requires : goal.line_fault-requires
line_fault-requires c =
    rw (c.as_slice.ensures.value) (last-fits 0 c.args.read.now.items (omega arith) c.requires.moments_in_range)

pub arrival-requires : goal.arrival-requires
arrival-requires c =
    moment-fits c.args.tasks.now c.args.counters.now c.as_slice.result.now c.args.number c.args.line.now c.in_default.ensures (sym c.is_arrival.ensures ∙ c.if-is_arrival.true)

pub returns-in_ok-push-clause-in_range : goal.returns-in_ok-push-clause-in_range
returns-in_ok-push-clause-in_range c =
    let read = c.args.read.now.items in
    let tasks = c.args.tasks.now in
    let counters = c.args.counters.now in
    let none = subst (λ (xs : List Arrival). NoFault (ArrivalLineFault tasks counters xs c.args.number c.args.line.now)) c.as_slice.ensures.value c.in_default.ensures in
    subst (AreArrivals (owners_read tasks counters)) (sym (c.in_ok-push.ensures ∙ ap (λ (a : Arrival). read ++ a ∷ []) c.arrival.ensures))
    (one-more tasks counters read c.args.number c.args.line.now none (sym c.is_arrival.ensures ∙ c.if-is_arrival.true) c.requires)

pub returns-in_ok-push-clause-none : goal.returns-in_ok-push-clause-none
returns-in_ok-push-clause-none c =
    subst (λ (xs : List Arrival). NoFault (ArrivalLineFault c.args.tasks.now c.args.counters.now xs c.args.number c.args.line.now)) c.as_slice.ensures.value c.in_default.ensures

pub returns-else-is_arrival-clause-none : goal.returns-else-is_arrival-clause-none
returns-else-is_arrival-clause-none c =
    subst (λ (xs : List Arrival). NoFault (ArrivalLineFault c.args.tasks.now c.args.counters.now xs c.args.number c.args.line.now)) c.as_slice.ensures.value c.in_default.ensures
