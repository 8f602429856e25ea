-- No run has a stretch that takes more counts than its weight: a further promise of the builder.
use Rattle.std.specs.Prelude.{ℕ, ◌+◌, ◌<◌, ◌≡◌, max, List, [], ◌∷◌, ◌++◌}
use Rattle.sloth_base.specs.declared.config.Config.{Config}
use Rattle.sloth_base.specs.declared.app.App.{App}
use Rattle.sloth_base.specs.declared.image.Image.{Image}
use Rattle.sloth_base.specs.declared.service.Arrival.{Arrival}
use Rattle.sloth_base.specs.declared.service.Stamped.{Stamped}
use Rattle.sloth_base.specs.Owners.{owners_in}
use Rattle.osek_scheduler.specs.State.{System, opening}
use Rattle.osek_scheduler.specs.Steps.{OsekStep}
use Rattle.osek_scheduler.specs.Runs.{AreStepsTo}
use Rattle.sim_induction.specs.Events.{stretch_counts}
use Rattle.sim_induction.specs.Sound.{events_of, AreComing}

-- an event that finds this state spans no more counts than its stretch may take; one without a stretch spans one
abbrev pub IsWithinWeight : Config → App → (found : System) → Stamped → Type 0
IsWithinWeight config app found e = e.stamp.at < e.stamp.from + max 1 (stretch_counts config app found e.event)

-- so does each event of a run, in the state that the events before it lead to
abbrev pub AreWithinWeights : Config → App → List Stamped → Type 0
AreWithinWeights config app events =
    (before behind : List Stamped) (e : Stamped) (found : System) → events ≡ before ++ e ∷ behind → AreStepsTo config app before (opening config app) found
    → IsWithinWeight config app found e

-- for every list of arrivals and every number of instructions
pub record Weighed (config : Config) (app : App) (image : Image) : Type 0 where
  pub each : (arrivals : List Arrival) (n : ℕ) → AreComing (owners_in config) arrivals → AreWithinWeights config app (events_of image arrivals n)

-- these events lead from s to `end`, as steps within their weights
abbrev pub AreWeighedTo : Config → App → List Stamped → System → System → Type 0
AreWeighedTo config app [] s end = end ≡ s
AreWeighedTo config app (e ∷ events) s end =
    (next : System) × IsWithinWeight config app s e × OsekStep config app e.event s next × AreWeighedTo config app events next end
