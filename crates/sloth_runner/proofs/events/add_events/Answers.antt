use Rattle.std.proofs.Common.{◌∙◌, List, [], ◌∷◌, ◌++◌, append_assoc, append-nil, refl, sym, ap}
use Rattle.observe.specs.Progress.{remaining}
use Rattle.sloth_base.specs.declared.service.Stamped.{Stamped}
use Rattle.sloth_runner.proofs.Handing.{handing-init, handing-more, handed-out}
use Rattle.sloth_runner.proofs.events.add_events.Goals as goal

pub loop-event-init : goal.loop-event-init
loop-event-init c = record { added = refl; handing = handing-init c.args.observer.now }

pub loop-event-preserved : goal.loop-event-preserved
loop-event-preserved c =
    let rest : List Stamped = remaining c.next.new.self in
    record {
      added = ap (λ es. es ++ rest) c.in_ok-push.ensures
          ∙ (append_assoc c.loop-event.events.items (c.in-Some.event ∷ []) rest ∙ (ap (λ es. c.loop-event.events.items ++ es) (sym c.in-Some.ensures.head) ∙ c.loop-event.invariant.added));
      handing = handing-more _ c.loop-event.observer c.next.new.self c.in-Some.event c.loop-event.invariant.handing c.in-Some.ensures.head c.next.ensures.view c.next.ensures.arrivals c.next.ensures.expected
          c.in-Some.ensures.some;
    }

pub returns-clause-added : goal.returns-clause-added
returns-clause-added c =
    sym (append-nil c.loop-event.events.items) ∙ (ap (λ es. c.loop-event.events.items ++ es) (sym c.in_default.ensures.empty) ∙ c.loop-event.invariant.added)

pub returns-clause-fed : goal.returns-clause-fed
returns-clause-fed c steps events fed =
    (c.in_default.ensures.none steps _ (handed-out _ c.loop-event.observer c.loop-event.invariant.handing c.in_default.ensures.empty steps events fed)).0
