-- The laws.
use Rattle.std.proofs.Common.{List, [], ◌∷◌, subst, sym}
use Rattle.sloth_base.specs.declared.config.Config.{Config}
use Rattle.sloth_base.specs.declared.app.App.{App}
use Rattle.sloth_base.specs.declared.service.Stamped.{Stamped}
use Rattle.osek_scheduler.specs.State.{System, task}
use Rattle.osek_scheduler.specs.Runs.{AreStepsTo}
use Rattle.osek_scheduler.proofs.Facts.{Facts, facts}
use Rattle.osek_scheduler.specs.Valid.{IsValid}
use Rattle.osek_scheduler.specs.Apart.{TasksAreApart, HasExclusion}
use Rattle.osek_scheduler.specs.WellFormedRuns.{ItemsMean}
use Rattle.osek_scheduler.proofs.Going.{running}
use Rattle.osek_scheduler.proofs.Meaning.{position, means}
use Rattle.osek_scheduler.proofs.Steps.{step_valid}
use Rattle.osek_scheduler.proofs.ApartSteps.{step_apart}
use Rattle.osek_scheduler.proofs.Excluding.{excludes}

module _ (config : Config) (app : App) (w : Facts config app) where
  pub run_valid : (events : List Stamped) (s end : System) → AreStepsTo config app events s end → IsValid config app s → TasksAreApart config s
      → IsValid config app end × TasksAreApart config end × HasExclusion config end
  run_valid [] s end is v a =
      let P : System → Type 0 = λ x. IsValid config app x × TasksAreApart config x × HasExclusion config x in
      subst P (sym is) (v, a, excludes config app s v a)
  run_valid (e ∷ events) s end h v a =
      run_valid events h.0 end h.2 (step_valid config app e.event s h.0 w h.1 v) (step_apart config app e.event s h.0 h.1 v.count a)

pub items_mean : ItemsMean
items_mean config app s t w v declared active free =
    let p = position config app s t v declared active free in
    let r = running config app s t p.0 v declared p.1 in
    (p.0, p.1, means config app (facts config app w) t (task s t) p.1.frame p.1.outer s.symbols v.sizes p.0 r)
