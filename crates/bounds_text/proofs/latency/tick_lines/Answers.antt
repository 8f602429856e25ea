use Rattle.std.proofs.Common.{◌∙◌, ◌++◌, ap, sym}
use Rattle.bounds_text.specs.Latency.{tick_line}
use Rattle.bounds_text.proofs.TickLines.{no-lines, one-line-more}
use Rattle.bounds_text.proofs.latency.tick_lines.Goals as goal

pub loop-counter-init : goal.loop-counter-init
loop-counter-init c = c.new-text.ensures.items ∙ sym (no-lines c.args.config.now)

pub loop-counter-preserved : goal.loop-counter-preserved
loop-counter-preserved c =
    let config = c.args.config.now in
    let counter = c.loop-counter.counter in
    c.in_ok-extend_from_slice.ensures.items
    ∙ ap (λ line. c.loop-counter.text.items ++ line) (c.as_slice.ensures.value ∙ c.in_ok-tick_line.ensures)
    ∙ ap (λ text. text ++ tick_line config counter) c.loop-counter.invariant
    ∙ sym (one-line-more config counter)
