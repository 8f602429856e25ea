use Rattle.std.proofs.Common.{◌+◌, List, drop, sym, subst, arith}
use Rattle.std.proofs.lemmas.List.{drop_more, drop_all}
use Rattle.losses_text.specs.declared.requests.Request.{Request}
use Rattle.losses_text.proofs.Along.{IsAlong, along_end, along_more, along_none, along_steps}
use Rattle.losses_text.proofs.requests.requests_along.Goals as goal

pub loop-event-init : goal.loop-event-init
loop-event-init c =
    let config = c.args.config.now in
    let app = c.args.app.now in
    let events = c.args.events.now in
    let P : List Request → Type 0 = λ asked. IsAlong config app events events c.in_ok-osek.osek asked in
    subst P (sym c.new-all.ensures.items) (along_none config app events c.in_ok-osek.osek c.in_ok-osek.ensures c.requires.run)

pub returns-in-Err : goal.returns-in-Err
returns-in-Err c =
    let events = c.args.events.now in
    let i = c.loop-event.event-index in
    absurd
    (along_steps c.args.config.now c.args.app.now events (drop i events) (drop (i + 1) events) _ c.loop-event.osek c.loop-event.all.items
    c.loop-event.invariant (drop_more events i _ c.loop-event-test.true) c.in-Err.ensures.none)

pub loop-event-preserved : goal.loop-event-preserved
loop-event-preserved c =
    let events = c.args.events.now in
    let i = c.loop-event.event-index in
    along_more c.args.config.now c.args.app.now events (drop i events) (drop (i + 1) events) _ c.loop-event.osek c.loop-event.all.items
    c.loop-event.invariant (drop_more events i _ c.loop-event-test.true) c.step.new.self c.push_requests.new.all.items c.step.ensures.config c.step.ensures.app
    c.in-Ok.ensures.next c.in_ok-push_requests.ensures

pub returns : goal.returns
returns c =
    let events = c.args.events.now in
    let i = c.loop-event.event-index in
    let past = c.loop-event-test.false in
    along_end c.args.config.now c.args.app.now events (drop i events) c.loop-event.osek c.loop-event.all.items c.loop-event.invariant
    (drop_all i events (omega (arith, past)))
