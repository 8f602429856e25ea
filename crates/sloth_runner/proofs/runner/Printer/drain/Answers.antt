use Rattle.std.proofs.Common.{◌∙◌, refl}
use Rattle.std.proofs.lemmas.Result.{err_from_is_err_and}
use Rattle.sloth_runner.proofs.Handing.{handed-out}
use Rattle.sloth_runner.proofs.Draining.{draining-init, draining-put, draining-broke, draining-done, draining-ends}
use Rattle.sloth_runner.proofs.runner.Printer.drain.Goals as goal

pub loop-event-init : goal.loop-event-init
loop-event-init g c = (draining-init _ _ _ _ _, refl, refl)

pub loop-event-preserved : goal.loop-event-preserved
loop-event-preserved g c = (
  draining-put _ c.loop-event.self.image.now _ c.loop-event.self.form _ _ c.loop-event.self.after_idle _ c.loop-event.observer c.next.new.self _ (g.S.Sink.seen c.loop-event.out) _ c.in-Some.event
      c.loop-event.invariant.0 c.loop-event.invariant.1 c.loop-event.invariant.2 c.put.ensures.after_idle c.in-Some.ensures.head c.next.ensures.view c.next.ensures.arrivals c.next.ensures.expected
      c.in-Some.ensures.some c.in_ok-put.ensures.ok,
  c.put.ensures.image ∙ c.loop-event.invariant.1,
  c.put.ensures.form ∙ c.loop-event.invariant.2,
)

pub returns-in_err-put-clause-err : goal.returns-in_err-put-clause-err
returns-in_err-put-clause-err g c =
    let failed = err_from_is_err_and c.from_residual.result c.from_residual.ensures.1 in
    rw failed.1
    (draining-broke _ c.loop-event.self.image.now _ c.loop-event.self.form _ _ c.loop-event.self.after_idle c.loop-event.observer c.next.new.self _ (g.S.Sink.seen c.loop-event.out) _ c.in-Some.event
    c.loop-event.invariant.0 c.loop-event.invariant.1 c.loop-event.invariant.2 c.in-Some.ensures.head c.in_err-put.ensures.err)

pub returns-clause-ok : goal.returns-clause-ok
returns-clause-ok g c = draining-done _ _ _ _ c.loop-event.self.after_idle c.loop-event.observer _ _ c.loop-event.invariant.0 c.in_default.ensures.empty

pub returns-clause-fed : goal.returns-clause-fed
returns-clause-fed g c steps events fed =
    (c.in_default.ensures.none steps _ (handed-out _ c.loop-event.observer c.loop-event.invariant.0.hands c.in_default.ensures.empty steps events fed)).0

pub returns-clause-after_idle : goal.returns-clause-after_idle
returns-clause-after_idle g c = draining-ends _ _ _ _ c.loop-event.self.after_idle c.loop-event.observer _ _ c.loop-event.invariant.0 c.in_default.ensures.empty
