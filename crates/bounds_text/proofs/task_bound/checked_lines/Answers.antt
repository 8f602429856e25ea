use Rattle.std.proofs.Common.{subst}
use Rattle.sloth_base.specs.declared.config.Config.{Config}
use Rattle.sloth_base.specs.declared.app.App.{App}
use Rattle.walk_sums.specs.WalkedCode.{WalkedCode}
use Rattle.sloth_source.specs.TaskNames.{task_named}
use Rattle.bounds_text.specs.TaskBound.{HasLinesOf}
use Rattle.bounds_text.proofs.task_bound.checked_lines.Goals as goal

pub returns-clause-text : goal.returns-clause-text
returns-clause-text c =
    let name = c.args.name.now in
    let lines = c.in_ok-lines.lines in
    subst (λ (g : Config). HasLinesOf g c.args.verified.now.app (task_named g name) lines) c.config-config.ensures.is
    (subst (λ (a : App). HasLinesOf c.config-config.result.now a (task_named c.config-config.result.now name) lines) c.app-app.ensures.is
    (subst (λ (w : WalkedCode). HasLinesOf w.config w.app (task_named w.config name) lines) c.of-walks.ensures c.in_ok-lines.ensures))
