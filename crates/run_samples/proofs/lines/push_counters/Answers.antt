use Rattle.std.proofs.Common.{◌∙◌, ◌++◌, [], get_or, ap, sym, append_assoc, append-nil}
use Rattle.run_samples.specs.SystemText.{counter_line, counter_lines}
use Rattle.run_samples.proofs.Rows.{no-counters, one-counter-more}
use Rattle.run_samples.proofs.lines.push_counters.Goals as goal

pub loop-counter-init : goal.loop-counter-init
loop-counter-init c =
    let image = c.args.image.now in
    let words = c.args.words.now in
    let text = c.args.text.now.items in
    sym (append-nil text) ∙ ap (λ lines. text ++ lines) (sym (no-counters image words))

pub loop-counter-preserved : goal.loop-counter-preserved
loop-counter-preserved c =
    let image = c.args.image.now in
    let words = c.args.words.now in
    let text = c.args.text.now.items in
    let k = c.loop-counter.counter in
    let line = counter_line (get_or image.counters k []) (get_or words.counters k 0) in
    c.in_ok-push_counter.ensures ∙ ap (λ t. t ++ line) c.loop-counter.invariant ∙ append_assoc text (counter_lines image words k) line
    ∙ ap (λ lines. text ++ lines) (sym (one-counter-more image words k))
