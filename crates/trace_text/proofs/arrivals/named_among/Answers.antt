use Rattle.std.proofs.Common.{◌<◌, ap, ◌∙◌}
use Rattle.std.specs.Prelude.{position, bytes_eq}
use Rattle.trace_text.proofs.Kept.{found-below, some-is}
use Rattle.trace_text.proofs.arrivals.named_among.Goals as goal

pub returns-clause-small : goal.returns-clause-small
returns-clause-small c =
    let word = c.args.word.now in
    let is = c.position.ensures ∙ ap (λ names. position (bytes_eq word) names) c.first_names.ensures in
    some-is c.position.result (λ i. i < c.args.most) (λ i e. (found-below c.position.result c.args.most c.args.names.now word is i e).0)
