use Rattle.std.proofs.Common.{◌∙◌, ◌++◌, ap, sym, append_assoc, append-nil}
use Rattle.schedule_picture.specs.Drawn.{drawing_of}
use Rattle.schedule_picture.specs.Picture.{counter_lanes, counter_lane}
use Rattle.schedule_picture.proofs.Drawing.{no_counters, one_counter_more}
use Rattle.schedule_picture.proofs.text.push_counters.Goals as goal

pub loop-counter-init : goal.loop-counter-init
loop-counter-init c =
    let front = c.args.text.now.items in
    sym (append-nil front) ∙ ap (λ lanes. front ++ lanes) (sym (no_counters (drawing_of c.args.drawn.now)))

pub loop-counter-preserved : goal.loop-counter-preserved
loop-counter-preserved c =
    let d = drawing_of c.args.drawn.now in
    let k = c.loop-counter.counter in
    let front = c.args.text.now.items in
    c.in_ok-push_counter.ensures ∙ ap (λ t. t ++ counter_lane d k) c.loop-counter.invariant ∙ append_assoc front (counter_lanes d k) (counter_lane d k)
    ∙ ap (λ l. front ++ l) (sym (one_counter_more d k))
