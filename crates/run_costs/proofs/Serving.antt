-- Which services tasks reach, by their tops.
use Rattle.std.proofs.Common.{◌≡◌, ℕ, ◌<◌, List, length, get_or, sym, subst}
use Rattle.sloth_base.specs.declared.config.Config.{Config}
use Rattle.sloth_base.specs.declared.app.App.{App}
use Rattle.sloth_base.specs.Named.{body_of}
use Rattle.osek_scheduler.proofs.Facts.{Facts}
use Rattle.osek_scheduler.proofs.Stacks.{has_body}
use Rattle.walk_sums.specs.declared.counted.Counted.{Counted}
use Rattle.run_costs.specs.declared.services.NamingTops.{NamingTops}
use Rattle.run_costs.specs.CostsOf.{AreServices}
use Rattle.run_costs.specs.Services.{AreNamingTops, services_by}
use Rattle.run_costs.specs.Tops.{IsTop, AreTops}
use Rattle.run_costs.proofs.Coming.{reaches_decided}

module _ (config : Config) (app : App) (w : Facts config app) (t : ℕ) (declared : t < length config.tasks) where
  -- those that name task j
  pub services_are : (j : ℕ) (tops : NamingTops) → AreNamingTops config app j tops → AreServices app j t (services_by tops t)
  services_are j tops are = record {
    activates = reaches_decided config app w t declared _ _ (are.activation.each t declared);
    chains = reaches_decided config app w t declared _ _ (are.chain.each t declared);
    sets_events = reaches_decided config app w t declared _ _ (are.setting.each t declared);
  }

  -- the top of its body
  pub task_top : (c : Counted) (table : List ℕ) (top : ℕ) → AreTops config app c table → top ≡ get_or table (body_of app.funcs t) 0 → IsTop config app c (body_of app.funcs t) top
  task_top c table top are e = subst (IsTop config app c (body_of app.funcs t)) (sym e) (are.each (body_of app.funcs t) (has_body config app w t declared).0)
