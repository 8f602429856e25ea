-- Each event of a run begins and ends soon behind the one before it, by its weight and the item in front of it: a further promise of the builder.
use Rattle.std.specs.Prelude.{ℕ, ◌+◌, ◌<◌, ◌≤◌, ◌≡◌, true, false, cond, length, List, [], ◌∷◌, ◌++◌}
use Rattle.sloth_base.specs.declared.config.Config.{Config}
use Rattle.sloth_base.specs.declared.app.App.{App}
use Rattle.sloth_base.specs.declared.image.Image.{Image}
use Rattle.sloth_base.specs.declared.service.Arrival.{Arrival}
use Rattle.sloth_base.specs.declared.service.Event.{Event}
use Rattle.sloth_base.specs.declared.service.Stamped.{Stamped}
use Rattle.sloth_base.specs.Events.{is_boot}
use Rattle.sloth_base.specs.Owners.{owners_in}
use Rattle.sloth_base.specs.Stretches.{longest_stretch}
use Rattle.osek_scheduler.specs.State.{System, task, opening}
use Rattle.osek_scheduler.specs.InTime.{is_admit}
use Rattle.osek_scheduler.specs.Steps.{OsekStep}
use Rattle.osek_scheduler.specs.Runs.{AreStepsTo}
use Rattle.osek_blocking.specs.Pace.{last_count, takes_line}
use Rattle.sim_induction.specs.Events.{stretch_counts}
use Rattle.sim_induction.specs.Items.{length_of, AreLengths}
use Rattle.sim_induction.specs.Pace.{ItemSizes, AreAtMost, next_size_of, gap_counts, EndsInPace}
use Rattle.sim_induction.specs.Mirror.{IsRunningTask, NoneIsActive}
use Rattle.sim_induction.specs.Sound.{events_of, AreComing}
use Rattle.sim_induction.specs.Spent.{SpentBySizes}

-- an event behind one that ended at count `at`: how soon its counts begin and end
pub record GoesInPace (config : Config) (app : App) (size : ItemSizes) (longest at : ℕ) (found : System) (e : Stamped) : Type 0 where
  -- no more counts stand in front of it than may show nothing
  pub begins : is_admit e ≡ false → is_boot e.event ≡ false → e.stamp.from ≤ at + 1 + gap_counts size longest found e.event
  -- in front of an entry or a tick no more than the next item of the task that runs has instructions
  pub preempts : takes_line e.event ≡ true → (t : ℕ) → IsRunningTask config found t → e.stamp.from ≤ at + 1 + next_size_of size (task found t)
  -- and none where no task runs
  pub idles : takes_line e.event ≡ true → NoneIsActive config found → e.stamp.from ≤ at + 1
  pub ends : EndsInPace config app size longest at found e

-- these events, behind one that ended at count `at`, lead from s to `end`, as steps that go in pace
abbrev pub ArePacedTo : Config → App → ItemSizes → (longest at : ℕ) → List Stamped → System → System → Type 0
ArePacedTo config app size longest at [] s end = end ≡ s
ArePacedTo config app size longest at (e ∷ events) s end =
    (next : System) × GoesInPace config app size longest at s e × OsekStep config app e.event s next
    × ArePacedTo config app size longest (cond (is_admit e) at e.stamp.at) events next end

-- no stretch behind boot that may come takes more counts
pub record AreStretchesWithin (config : Config) (app : App) (heaviest : ℕ) : Type 0 where
  pub some : 0 < heaviest
  pub each : (e : Event) (found next : System) → OsekStep config app e found next → is_boot e ≡ false → stretch_counts config app found e ≤ heaviest

-- The events of n instructions keep the pace, where no item has more instructions than `longest`.
pub record KeepsPace (config : Config) (app : App) (size : ItemSizes) (longest n : ℕ) (events : List Stamped) : Type 0 where
  -- each event, in the state that the events before it lead to
  pub each : (before behind : List Stamped) (e : Stamped) (found : System) → events ≡ before ++ e ∷ behind → AreStepsTo config app before (opening config app) found
      → GoesInPace config app size longest (last_count 0 before) found e
  -- behind the last one stands at most an item that is not done, and a stretch that the end cuts off
  pub reaches : 0 < length events → n ≤ last_count 0 events + longest + longest_stretch config
  -- which is within its weight too
  pub reaches_within : (heaviest : ℕ) → AreStretchesWithin config app heaviest → 0 < length events → n ≤ last_count 0 events + longest + heaviest

-- for every list of arrivals and every number of instructions
pub record Paced (config : Config) (app : App) (size : ItemSizes) (image : Image) : Type 0 where
  pub each : (arrivals : List Arrival) (n longest : ℕ) → AreComing (owners_in config) arrivals → AreAtMost size longest
      → KeepsPace config app size longest n (events_of image arrivals n)

-- by the lengths of the items of the task code; no task spends more on an item, over all its pieces between preemptions
pub record InPace (config : Config) (app : App) (image : Image) : Type 0 where
  pub paced : (lengths : List (List ℕ)) → AreLengths app lengths → Paced config app (length_of lengths) image
  pub spent : (lengths : List (List ℕ)) → AreLengths app lengths → SpentBySizes config app (length_of lengths) image
