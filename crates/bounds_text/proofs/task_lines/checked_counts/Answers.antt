use Rattle.std.proofs.Common.{subst}
use Rattle.sloth_base.specs.declared.config.Config.{Config}
use Rattle.sloth_base.specs.declared.app.App.{App}
use Rattle.walk_sums.specs.WalkedCode.{WalkedCode}
use Rattle.bounds_text.specs.LowerCounts.{HasLowerCounts}
use Rattle.bounds_text.proofs.task_lines.checked_counts.Goals as goal

pub returns-clause-text : goal.returns-clause-text
returns-clause-text c =
    let text = c.in_ok-text.text.items in
    subst (λ (g : Config). HasLowerCounts g c.args.verified.now.app text) c.config-config.ensures.is
    (subst (λ (a : App). HasLowerCounts c.config-config.result.now a text) c.app-app.ensures.is
    (subst (λ (w : WalkedCode). HasLowerCounts w.config w.app text) c.of-walks.ensures c.in_ok-text.ensures))
