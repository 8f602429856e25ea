use Rattle.std.proofs.Common.{◌≤◌, length, sym, subst, rules}
use Rattle.sloth_base.specs.declared.config.Config.{Config}
use Rattle.sloth_base.specs.Limits.{task_limit}
use Rattle.osek_scheduler.proofs.Facts.{facts}
use Rattle.shares_text.specs.SharesText.{HasShares}
use Rattle.shares_text.proofs.symbol_verdicts.shares_text.Goals as goal

pub share_lines-requires-clause-few : goal.share_lines-requires-clause-few
share_lines-requires-clause-few c =
    let code = c.in_ok-checked.checked.verified in
    subst (λ (x : Config). length x.tasks ≤ task_limit) (sym c.config.ensures.is) (facts code.config code.app c.config.ensures.well_formed).in_range.configuration.few_tasks

pub returns-clause-text : goal.returns-clause-text
returns-clause-text c =
    let code = c.in_ok-checked.checked.verified in
    let has : HasShares code.config code.app c.in_ok-text.text.items = search rules in
    record { config = code.config; app = code.app; accepted = c.in_ok-checked.ensures.accepted; has_shares = has }
