-- The three promises of the priority ceiling protocol, of every run.
use Rattle.std.proofs.Common.{◌≡◌, ℕ, List, [], ◌∷◌, subst}
use Rattle.std.specs.List.{AllByRecursion}
use Rattle.std.proofs.lemmas.List.Elements.{All-from_recursion}
use Rattle.sloth_base.specs.declared.config.Config.{Config}
use Rattle.sloth_base.specs.declared.app.App.{App}
use Rattle.sloth_base.specs.declared.service.Event.{Event}
use Rattle.sloth_base.specs.declared.service.Event.TheVariants as event
use Rattle.sloth_base.specs.declared.service.Stamped.{Stamped}
use Rattle.sloth_base.specs.declared.service.Service.{Service}
use Rattle.sloth_base.specs.declared.service.Service.TheVariants as service
use Rattle.sloth_base.specs.Status.{E_OK}
use Rattle.code_rules.specs.WellFormed.{WellFormed}
use Rattle.osek_scheduler.specs.State.{System, opening}
use Rattle.osek_scheduler.specs.Services.{ServiceOutcome, GoesOn, Leaves}
use Rattle.osek_scheduler.specs.Outcomes.{outcome}
use Rattle.osek_scheduler.specs.Steps.{IsServiceStep, OsekStep}
use Rattle.osek_scheduler.specs.Runs.{AreStepsTo, OsekRun}
use Rattle.osek_scheduler.proofs.Leading.{follows_leads}
use Rattle.osek_scheduler.proofs.Apart.{opening_apart}
use Rattle.osek_scheduler.proofs.Facts.{facts}
use Rattle.osek_scheduler.proofs.Reached.{run_valid}
use Rattle.osek_scheduler.proofs.Steps.{opening_valid}
use Rattle.osek_blocking.specs.Protocol.{AlwaysExcludes, GetsResource, AlwaysGets, KeepsCeilingProtocol}
use Rattle.osek_blocking.proofs.Once.{block_once}

-- ---- mutual exclusion

pub exclude : (config : Config) (app : App) (events : List Stamped) → WellFormed config app → AlwaysExcludes config app events
exclude config app events w front rest s is leads =
    (run_valid config app (facts config app w) front (opening config app) s leads (opening_valid config app) (opening_apart config app)).2

-- ---- GetResource

module _ (config : Config) (app : App) (s next : System) where
  -- it goes on with E_OK
  goes_on : (t object mask status : ℕ) (after : System) → outcome config service.GetResource object mask t s ≡ GoesOn status after → status ≡ E_OK
  goes_on t object mask status after e = cc

  never_leaves : (t object mask : ℕ) (after : System) → outcome config service.GetResource object mask t s ≡ Leaves after → ⊥
  never_leaves t object mask after e = cc

  -- the outcome of a service that is GetResource
  of_get : (t : ℕ) (served : Service) (answer : ServiceOutcome) → (h : IsServiceStep config app t served s answer) → served ≡ service.GetResource
      → outcome config service.GetResource h.call.object h.call.mask t s ≡ answer
  of_get t served answer h is = subst (λ (v : Service). outcome config v h.call.object h.call.mask t s ≡ answer) is h.is

  gets : (e : Event) → OsekStep config app e s next → GetsResource e
  gets (event.Call t served status) h =
      λ is. goes_on t h.1.1.call.object h.1.1.call.mask status h.1.0 (of_get t served (GoesOn status h.1.0) h.1.1 is)
  gets (event.Left t served) h = λ is. never_leaves t h.1.1.call.object h.1.1.call.mask h.1.0 (of_get t served (Leaves h.1.0) h.1.1 is)
  gets event.Boot h = tt
  gets e h = tt

each_gets : (config : Config) (app : App) (events : List Stamped) (s end : System) → AreStepsTo config app events s end
    → AllByRecursion (λ (e : Stamped). GetsResource e.event) events
each_gets config app [] s end h = tt
each_gets config app (e ∷ events) s end h = (gets config app s h.0 e.event h.1, each_gets config app events h.0 end h.2)

pub always_gets : (config : Config) (app : App) (events : List Stamped) → OsekRun config app events → AlwaysGets events
always_gets config app events run =
    All-from_recursion (λ (e : Stamped). GetsResource e.event) events
    (each_gets config app events (opening config app) run.0 (follows_leads config app [] (opening config app) events run.0 run.1))

-- ---- all three

pub keeps_protocol : (config : Config) (app : App) (events : List Stamped) → WellFormed config app → OsekRun config app events
    → KeepsCeilingProtocol config app events
keeps_protocol config app events w run = record {
  blocks_once = block_once config app events run;
  excludes = exclude config app events w;
  gets = always_gets config app events run;
}
