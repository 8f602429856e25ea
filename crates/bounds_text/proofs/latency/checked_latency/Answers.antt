use Rattle.std.proofs.Common.{subst}
use Rattle.sloth_base.specs.declared.config.Config.{Config}
use Rattle.sloth_base.specs.declared.app.App.{App}
use Rattle.walk_sums.specs.WalkedCode.{WalkedCode}
use Rattle.bounds_text.specs.Latency.{HasLatency}
use Rattle.bounds_text.proofs.latency.checked_latency.Goals as goal

pub returns-clause-text : goal.returns-clause-text
returns-clause-text c =
    let text = c.in_ok-text.text.items in
    subst (λ (g : Config). HasLatency g c.args.verified.now.app text) c.config-config.ensures.is
    (subst (λ (a : App). HasLatency c.config-config.result.now a text) c.app-app.ensures.is
    (subst (λ (w : WalkedCode). HasLatency w.config w.app text) c.of-walks.ensures c.in_ok-text.ensures))
