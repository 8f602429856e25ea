use Rattle.std.proofs.Common.{◌++◌, ap, sym, ◌∙◌}
use Rattle.shares_text.specs.SharesText.{share_line}
use Rattle.shares_text.proofs.OneText.{no-lines, one-line-more, line-is}
use Rattle.shares_text.proofs.symbol_verdicts.share_lines.Goals as goal

pub loop-number-init : goal.loop-number-init
loop-number-init c = c.new-text.ensures.items ∙ sym (no-lines c.args.config.now c.args.app.now c.args.verdicts.now)

pub loop-number-preserved : goal.loop-number-preserved
loop-number-preserved c =
    let config = c.args.config.now in
    let app = c.args.app.now in
    let verdicts = c.args.verdicts.now in
    let number = c.loop-number.number in
    c.in_ok-push_line.ensures
    ∙ (ap (λ line. c.loop-number.text.items ++ line) (line-is config app verdicts number c.symbol_name.result.now c.numbered_verdict-verdict.result.now c.symbol_name.ensures c.numbered_verdict-verdict.ensures)
    ∙ (ap (λ text. text ++ share_line config app verdicts number) c.loop-number.invariant ∙ sym (one-line-more config app verdicts number)))
