use Rattle.run_costs.specs.Coming.{no_setting, AreSettingTops}
use Rattle.run_costs.specs.CostsOf.{AreEach}
use Rattle.run_costs.proofs.services.all_setting_tops.Given as goal

abbrev pub invariant-loop-alarm : goal.invariant-loop-alarm
invariant-loop-alarm l = AreEach l.alarm (no_setting) (λ a tops. AreSettingTops l.walks.config l.walks.app a tops) l.all.items
