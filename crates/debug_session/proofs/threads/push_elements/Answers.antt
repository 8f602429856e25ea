use Rattle.std.proofs.Common.{◌+◌}
use Rattle.debug_session.specs.Replies.{thread_element}
use Rattle.debug_session.proofs.Growing.{one_more, none_yet}
use Rattle.debug_session.proofs.threads.push_elements.Goals as goal

pub loop-place-init : goal.loop-place-init
loop-place-init c = none_yet (λ place. thread_element c.args.view.now c.args.names.now (place + 1)) c.args.out.now.items

pub loop-place-preserved : goal.loop-place-preserved
loop-place-preserved c =
    one_more (λ place. thread_element c.args.view.now c.args.names.now (place + 1)) c.loop-place.place c.args.out.now.items c.loop-place.out.items _
    c.loop-place.invariant c.in_ok-push_element.ensures
