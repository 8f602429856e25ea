use Rattle.std.proofs.Common.{ℕ, ◌<◌, Bool, List, false, length, get_or, sym, subst, ◌≤◌}
use Rattle.std.specs.Prelude.{Decides}
use Rattle.sloth_base.specs.Limits.{alarm_limit, counter_limit}
use Rattle.sloth_base.specs.declared.config.Config.{Config}
use Rattle.sloth_base.specs.declared.app.App.{App}
use Rattle.run_costs.specs.CostsOf.{AreEach, no_counter, no_alarm, IsAlarm}
use Rattle.run_costs.specs.RunCosts.{IsRunCounter}
use Rattle.walk_sums.specs.Rounds.{IsClean, IsSteady}
use Rattle.run_costs.proofs.Weighing.{counts_weigh_all}
use Rattle.run_costs.proofs.record.costs.Goals as goal

pub tasks-requires-clause-clean : goal.tasks-requires-clause-clean
tasks-requires-clause-clean c =
    subst (λ (l : List Bool). (t : ℕ) → t < length c.args.walks.now.config.tasks → Decides (get_or l t false) (IsClean c.args.walks.now.app t)) (sym c.deref.ensures.value) c.in_ok-clean.ensures.exact

pub makings-requires-clause-clean : goal.makings-requires-clause-clean
makings-requires-clause-clean c =
    subst (λ (l : List Bool). (t : ℕ) → t < length c.args.walks.now.config.tasks → Decides (get_or l t false) (IsClean c.args.walks.now.app t)) (sym c.deref-4.ensures.value) c.in_ok-clean.ensures.exact

pub makings-requires-clause-steady : goal.makings-requires-clause-steady
makings-requires-clause-steady c =
    subst (λ (l : List Bool). (t : ℕ) → t < length c.args.walks.now.config.tasks → Decides (get_or l t false) (IsSteady c.args.walks.now.config c.args.walks.now.app t)) (sym c.deref-5.ensures.value) c.in_ok-steady.ensures

pub levels-requires-clause-weigh : goal.levels-requires-clause-weigh
levels-requires-clause-weigh c = counts_weigh_all c.args.walks.now.app c.args.weights.now c.requires.counts

pub counters-requires-clause-few : goal.counters-requires-clause-few
counters-requires-clause-few c =
    subst (λ (g : Config). length g.counters ≤ counter_limit) (sym c.config-config.ensures.is) c.config-config.ensures.well_formed.in_range.configuration.few_counters

pub counters-requires-clause-alarms : goal.counters-requires-clause-alarms
counters-requires-clause-alarms c =
    subst (λ (g : Config). length g.alarms ≤ alarm_limit) (sym c.config-config.ensures.is) c.config-config.ensures.well_formed.in_range.configuration.few_alarms

pub alarms-requires : goal.alarms-requires
alarms-requires c =
    subst (λ (g : Config). length g.alarms ≤ alarm_limit) (sym c.config-config.ensures.is) c.config-config.ensures.well_formed.in_range.configuration.few_alarms

pub returns : goal.returns
returns c =
    let w = c.args.walks.now in
    let load = c.args.load.now in
    record {
      weights = c.args.weights.now;
      are_counts = c.requires.counts;
      tasks = c.in_ok-tasks.ensures;
      comes = c.in_ok-coming.ensures;
      counters = subst (λ (g : Config). AreEach (length g.counters) no_counter (IsRunCounter g load) c.in_ok-counters.field-0) c.config-config.ensures.is c.in_ok-counters.ensures;
      alarms = subst (λ (g : Config). AreEach (length g.alarms) no_alarm (IsAlarm g w.app) c.in_ok-alarms.field-0) c.config-config.ensures.is
          (subst (λ (a : App). AreEach (length c.config-config.result.now.alarms) no_alarm (IsAlarm c.config-config.result.now a) c.in_ok-alarms.field-0) c.app-app.ensures.is c.in_ok-alarms.ensures);
      makings = c.in_ok-makings.ensures;
      services = c.in_ok-services.ensures;
      levels = c.in_ok-levels.ensures;
    }
