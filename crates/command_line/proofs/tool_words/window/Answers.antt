use Rattle.std.proofs.Common.{◌∙◌, sym, arith}
use Rattle.command_line.proofs.ToolWords.{same-ends}
use Rattle.command_line.proofs.tool_words.window.Goals as goal
use Rattle.command_line.proofs.tool_words.window.Goals.{then-from-to-via-then-from-to, then-from-to-via-else-from-to+then-to-from}

pub returns-then-from-to-clause-none : goal.returns-then-from-to-clause-none
returns-then-from-to-clause-none c w is f t =
    let low = c.in_ok-from.ensures.some in
    let high = c.in_ok-to.ensures.some in
    let most = c.ranges.most.fits in
    let within = low.1 in
    let to_within = high.1 in
    let ends = same-ends c.in_ok-from.from c.in_ok-to.to c.args.most c.args.apart w (omega (arith, most)) within to_within is (sym low.0 ∙ f) (sym high.0 ∙ t) in
    let from_is = ends.0 in
    let to_is = ends.1 in
    let ordered = is.ordered in
    let short = is.short in
    elim c.then-from-to.branch [
      | then-from-to-via-then-from-to b ↦ (let over = b.if-from-to.true in omega (arith, from_is, to_is, ordered, over))
      | then-from-to-via-else-from-to+then-to-from b ↦
          (let under = b.if-from-to.false in let over = b.if-to-from.true in omega (arith, from_is, to_is, ordered, short, under, over))
    ]
