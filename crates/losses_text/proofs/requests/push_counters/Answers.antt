use Rattle.std.proofs.Common.{◌∙◌, ◌++◌, [], get_or, ap, sym, append_assoc, append-nil}
use Rattle.sloth_base.specs.Owners.{counter_line}
use Rattle.losses_text.specs.RequestsText.{count_line, counter_counts}
use Rattle.losses_text.proofs.RequestLines.{no-counters, one-counter-more}
use Rattle.losses_text.proofs.requests.push_counters.Goals as goal

pub loop-counter-init : goal.loop-counter-init
loop-counter-init c =
    let text = c.args.text.now.items in
    sym (append-nil text) ∙ ap (λ lines. text ++ lines) (sym (no-counters c.args.image.now c.args.all.now))

pub loop-counter-preserved : goal.loop-counter-preserved
loop-counter-preserved c =
    let image = c.args.image.now in
    let all = c.args.all.now in
    let text = c.args.text.now.items in
    let k = c.loop-counter.counter in
    let line = count_line (get_or image.counters k []) all (counter_line k) in
    c.in_ok-push_counter.ensures ∙ ap (λ t. t ++ line) c.loop-counter.invariant ∙ append_assoc text (counter_counts image all k) line
    ∙ ap (λ lines. text ++ lines) (sym (one-counter-more image all k))
