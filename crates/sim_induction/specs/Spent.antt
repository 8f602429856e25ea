-- What a task spends on its next item, over all pieces between preemptions: no more than the item has instructions. A further promise of the builder.
use Rattle.std.specs.Prelude.{ℕ, ◌+◌, ◌-◌, ◌<◌, ◌≤◌, ◌≡◌, ◌&&◌, ◌||◌, Bool, true, cond, not, leb, length, List, [], ◌∷◌, Option, Some, None}
use Rattle.sloth_base.specs.declared.config.Config.{Config}
use Rattle.sloth_base.specs.declared.app.App.{App}
use Rattle.sloth_base.specs.declared.image.Image.{Image}
use Rattle.sloth_base.specs.declared.service.Arrival.{Arrival}
use Rattle.sloth_base.specs.declared.service.Event.{Event}
use Rattle.sloth_base.specs.declared.service.Event.TheVariants as event
use Rattle.sloth_base.specs.declared.service.Stamped.{Stamped}
use Rattle.sloth_base.specs.Events.{entered_task}
use Rattle.sloth_base.specs.Options.{is_number}
use Rattle.sloth_base.specs.Owners.{owners_in}
use Rattle.osek_scheduler.specs.State.{System, task, opening}
use Rattle.osek_scheduler.specs.InTime.{is_admit}
use Rattle.osek_scheduler.specs.Next.{all_below}
use Rattle.osek_scheduler.specs.Priority.{is_active, rank}
use Rattle.osek_scheduler.specs.Steps.{OsekStep}
use Rattle.osek_blocking.specs.Pace.{takes_line}
use Rattle.sim_induction.specs.Pace.{ItemSizes, next_size_of, gap_counts, paced_counts}
use Rattle.sim_induction.specs.Sound.{events_of, AreComing}

-- ---- whose counts they are

-- the task in whose turn an event comes
abbrev pub turn_task : Event → Option ℕ
turn_task (event.Run t func item result) = Some t
turn_task (event.Call t served status) = Some t
turn_task (event.Left t served) = Some t
turn_task (event.Back t) = Some t
turn_task _ = None

-- the event comes in a turn of task t
abbrev pub is_turn : (t : ℕ) → Event → Bool
is_turn t e = is_number t (turn_task e)

-- the event enters task t
abbrev pub is_entry : (t : ℕ) → Event → Bool
is_entry t e = is_number t (entered_task e)

-- task t runs where no line is taken: it is Active, and no other Active task is of greater rank
abbrev pub is_running : Config → System → (t : ℕ) → Bool
is_running config s t =
    is_active (task s t).state
    && all_below (length config.tasks) (λ u. not (is_active (task s u).state) || leb (rank config s u) (rank config s t))

-- ---- what a task has spent since its last event

-- the counts between an event and those before it, of which the last ended at count `at`; they show no event
abbrev pub front_counts : (at : ℕ) → Stamped → ℕ
front_counts at e = e.stamp.from - (at + 1)

-- the event is an entry or a tick, and takes the processor from task t
abbrev pub is_preempted : Config → (found : System) → (t : ℕ) → Event → Bool
is_preempted config found t e = takes_line e && is_running config found t

-- What task t has spent on its next item behind an event, where it had spent so much before: nothing yet where the event comes in a turn of it or enters
-- it, else the counts in front of an event that preempts it besides.
abbrev pub spent_behind : Config → (t at spent : ℕ) → (found : System) → Stamped → ℕ
spent_behind config t at spent found e =
    cond (is_turn t e.event || is_entry t e.event) 0 (spent + cond (is_preempted config found t e.event) (front_counts at e) 0)

-- ---- the promise

-- an event behind one that ended at count `at`, where task t has spent so much on its next item
pub record SpendsWithin (config : Config) (app : App) (size : ItemSizes) (longest t at spent : ℕ) (found : System) (e : Stamped) : Type 0 where
  -- Where it comes in a turn of the task, that and what stands in front of it is within the item, and with the event's own counts within its weight too.
  pub begins : is_turn t e.event ≡ true → spent + front_counts at e ≤ gap_counts size longest found e.event
  pub ends : is_turn t e.event ≡ true
      → spent + front_counts at e + (e.stamp.at + 1 - e.stamp.from) ≤ paced_counts config app size longest found e.event
  -- where it preempts the task, that and what stands in front of it is within the item that the task has begun
  pub preempts : is_preempted config found t e.event ≡ true → spent + front_counts at e ≤ next_size_of size (task found t)

-- These events, behind one that ended at count `at`, lead from s to `end` as steps before each of which task t has spent no more than its item; the last
-- one ended at count `to`, and the task has spent `left` on its next item by then.
abbrev pub AreSpentTo : Config → App → ItemSizes → (longest t at spent : ℕ) → List Stamped → System → System → (to left : ℕ) → Type 0
AreSpentTo config app size longest t at spent [] s end to left = (end ≡ s) × (to ≡ at) × (left ≡ spent)
AreSpentTo config app size longest t at spent (e ∷ events) s end to left =
    (next : System) × SpendsWithin config app size longest t at spent s e × OsekStep config app e.event s next
    × AreSpentTo config app size longest t (cond (is_admit e) at e.stamp.at) (spent_behind config t at spent s e) events next end to left

-- so do the events of a run, for each task
pub record SpendsOnItems (config : Config) (app : App) (size : ItemSizes) (longest t : ℕ) (events : List Stamped) : Type 0 where
  pub last : System
  pub to : ℕ
  pub left : ℕ
  pub each : AreSpentTo config app size longest t 0 0 events (opening config app) last to left

-- for every list of arrivals and every number of instructions
pub record SpentBySizes (config : Config) (app : App) (size : ItemSizes) (image : Image) : Type 0 where
  pub each : (arrivals : List Arrival) (n longest t : ℕ) → AreComing (owners_in config) arrivals → t < length config.tasks
      → SpendsOnItems config app size longest t (events_of image arrivals n)
