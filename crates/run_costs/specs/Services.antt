-- Which services tasks reach, by tops.
use Rattle.std.specs.Prelude.{ℕ, ◌<◌, ◌≤◌, ◌≡◌, ◌⊎◌, ltb, cond, Bool, List, [], length, get_or, Option, Some, None}
use Rattle.sloth_base.specs.declared.config.Config.{Config}
use Rattle.sloth_base.specs.declared.app.App.{App}
use Rattle.sloth_base.specs.declared.service.Service.{Service}
use Rattle.sloth_base.specs.declared.service.Service.TheVariants as service
use Rattle.sloth_base.specs.ServiceCodes.{code_of, service_of}
use Rattle.walk_sums.specs.declared.counted.Counted.TheVariants as counts
use Rattle.run_windows.specs.declared.costs.Services.{Services}
use Rattle.run_costs.specs.declared.services.NamingTops.{NamingTops}
use Rattle.run_costs.specs.Tops.{AreTaskTops}
use Rattle.run_costs.specs.CostsOf.{ReachesService}

-- ---- calls that name a task

-- what stands in the place of a task that is not there
abbrev pub no_tops : NamingTops
no_tops = record { activation = []; chain = []; either = []; setting = [] }

-- those of calls that name task j
pub record AreNamingTops (config : Config) (app : App) (j : ℕ) (tops : NamingTops) : Type 0 where
  pub activation : AreTaskTops config app (counts.CallsFor service.ActivateTask j) tops.activation
  pub chain : AreTaskTops config app (counts.Chains j) tops.chain
  pub either : AreTaskTops config app (counts.Activations j) tops.either
  pub setting : AreTaskTops config app (counts.Settings j) tops.setting

-- of all tasks
pub record AreAllNamingTops (config : Config) (app : App) (all : List NamingTops) : Type 0 where
  pub count : length all ≡ length config.tasks
  pub each : (j : ℕ) → j < length config.tasks → AreNamingTops config app j (get_or all j no_tops)

abbrev pub services_by : NamingTops → (k : ℕ) → Services
services_by tops k = record {
  activates = ltb 0 (get_or tops.activation k 0);
  chains = ltb 0 (get_or tops.chain k 0);
  sets_events = ltb 0 (get_or tops.setting k 0);
}

-- ---- the longest service

-- the tops of the service of a code
abbrev pub AreServiceTops : Config → App → (code : ℕ) → List ℕ → Type 0
AreServiceTops config app code tops = (s : Service) → service_of code ≡ Some s → AreTaskTops config app (counts.Calls s) tops

-- whether task t reaches a service
abbrev pub reaches : List (List ℕ) → Service → (t : ℕ) → Bool
reaches all s t = ltb 0 (get_or (get_or all (code_of s) []) t 0)

-- of a service that it reaches
abbrev pub reached_path : (path : Service → ℕ) → List (List ℕ) → (t : ℕ) → Option Service → ℕ
reached_path path all t None = 0
reached_path path all t (Some s) = cond (reaches all s t) (path s) 0

-- the greatest of the services of codes below this one
pub record IsGreatestTo (app : App) (t : ℕ) (path : Service → ℕ) (code most : ℕ) : Type 0 where
  pub none_above : (s : Service) → code_of s < code → ReachesService app t s → path s ≤ most
  pub attained : (most ≡ 0) ⊎ ((s : Service) × ReachesService app t s × (path s ≡ most))
