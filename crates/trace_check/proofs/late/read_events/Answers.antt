use Rattle.std.proofs.Common.{◌∙◌, ◌++◌, ◌∷◌, [], List, ℕ, length, sym, ap, subst, arith}
use Rattle.sloth_base.specs.declared.service.Stamped.{Stamped}
use Rattle.trace_check.proofs.ReadEvents.{HasRead}
use Rattle.trace_check.proofs.TraceText.{reads_more, reads_nothing, reads_shorter}
use Rattle.trace_check.proofs.ReadBack.{all_shown, none_bad}
use Rattle.trace_check.proofs.late.read_events.Goals as goal

pub loop-rest-init : goal.loop-rest-init
loop-rest-init c =
    let names = c.args.names.now in
    let P : List Stamped → Type 0 = λ l. HasRead names.tasks names.funcs names.counters c.args.text.now l c.args.text.now in
    subst P (sym c.new-events.ensures.items) (reads_nothing names.tasks names.funcs names.counters c.args.text.now)

pub loop-rest-preserved : goal.loop-rest-preserved
loop-rest-preserved c =
    let names = c.args.names.now in
    let events = c.loop-rest.events.items in
    let event = c.in-Some.event in
    let P : List Stamped → List ℕ → Type 0 = λ l more. HasRead names.tasks names.funcs names.counters c.args.text.now l more in
    subst (λ (l : List Stamped). P l c.behind-rest.result.now) (sym c.in_ok-push.ensures)
    (subst (λ (more : List ℕ). P (events ++ event ∷ []) more) (sym c.behind-rest.ensures)
    (reads_more names.tasks names.funcs names.counters c.args.text.now events c.loop-rest.rest.now event c.loop-rest.invariant c.in-Some.ensures.some))

pub loop-rest-smaller : goal.loop-rest-smaller
loop-rest-smaller c =
    let names = c.args.names.now in
    let cut = ap length c.behind-rest.ensures in
    let shorter = reads_shorter names.tasks names.funcs names.counters c.args.text.now c.loop-rest.rest.now c.in-Some.event c.in-Some.ensures.some in
    omega (arith, cut, shorter)

pub returns-in_default-clause-shows : goal.returns-in_default-clause-shows
returns-in_default-clause-shows c shown shows =
    let names = c.args.names.now in
    absurd
    (none_bad names.tasks names.funcs names.counters c.requires.tasks c.requires.funcs c.requires.counters c.requires.apart c.args.text.now shown shows
    c.loop-rest.events.items c.loop-rest.rest.now c.loop-rest.invariant (sym c.is_empty.ensures ∙ c.loop-rest-test.true) c.in_default.ensures.none)

pub returns-clause-shows : goal.returns-clause-shows
returns-clause-shows c shown shows =
    let names = c.args.names.now in
    all_shown names.tasks names.funcs names.counters c.requires.tasks c.requires.funcs c.requires.counters c.requires.apart c.args.text.now shown shows
    c.loop-rest.events.items c.loop-rest.rest.now c.loop-rest.invariant (sym c.is_empty.ensures ∙ c.loop-rest-test.false)

pub returns-in_default-clause-few : goal.returns-in_default-clause-few
returns-in_default-clause-few c = let few = c.loop-rest.invariant.few in omega (arith, few)

pub returns-clause-few : goal.returns-clause-few
returns-clause-few c = let few = c.loop-rest.invariant.few in omega (arith, few)
