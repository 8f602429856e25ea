-- The pace of a run by weights: how soon each event ends behind the one before it. The counts of a task that is preempted inside an item are counted
-- twice: with the entry or the tick, and with the event of the item.
use Rattle.std.specs.Prelude.{ℕ, ◌+◌, ◌≤◌, ◌≡◌, List, [], ◌∷◌, false, cond}
use Rattle.sloth_base.specs.declared.config.Config.{Config}
use Rattle.sloth_base.specs.declared.app.App.{App}
use Rattle.sloth_base.specs.declared.service.Event.{Event}
use Rattle.sloth_base.specs.declared.service.Event.TheVariants as event
use Rattle.sloth_base.specs.declared.service.Stamped.{Stamped}
use Rattle.sloth_base.specs.Events.{is_boot}
use Rattle.osek_scheduler.specs.State.{Frame, Task, System, task}
use Rattle.osek_scheduler.specs.InTime.{is_admit}
use Rattle.sim_induction.specs.Events.{stretch_counts}

-- how many instructions each item has
abbrev pub ItemSizes : Type 0
ItemSizes = (func item : ℕ) → ℕ

-- no item has more
abbrev pub AreAtMost : ItemSizes → (longest : ℕ) → Type 0
AreAtMost size longest = (func item : ℕ) → size func item ≤ longest

-- the instructions of the item at which the innermost function stands
abbrev pub next_size : ItemSizes → List Frame → ℕ
next_size size [] = 0
next_size size (frame ∷ outer) = size frame.func frame.item

-- those of a task's next item; none where it owes the way back, which comes before the item
abbrev pub next_size_of : ItemSizes → Task → ℕ
next_size_of size own = cond own.owed 0 (next_size size own.frames)

-- how many counts an event of one instruction alone takes at most, with those before it that show nothing
abbrev pub single_counts : ItemSizes → Event → ℕ
single_counts size (event.Run t func item result) = size func item
single_counts size event.Idle = 1
single_counts size _ = 0

-- How many counts that show nothing stand in front of the stretch of an event at most: a service's are those of its item, and in front of an entry
-- or a tick any item may have begun. An event of one instruction alone has its own with them.
abbrev pub gap_counts : ItemSizes → (longest : ℕ) → (found : System) → Event → ℕ
gap_counts size longest found (event.Call t served status) = next_size_of size (task found t)
gap_counts size longest found (event.Left t served) = next_size_of size (task found t)
gap_counts size longest found (event.Back t) = next_size_of size (task found t)
gap_counts size longest found (event.Enter t) = longest
gap_counts size longest found (event.Tick c) = longest
gap_counts size longest found e = single_counts size e

-- the most counts from behind an event to the end of this one
abbrev pub paced_counts : Config → App → ItemSizes → (longest : ℕ) → (found : System) → Event → ℕ
paced_counts config app size longest found e = gap_counts size longest found e + stretch_counts config app found e

-- the event, where it is neither the boot nor an admission, ends within that behind count `at`
abbrev pub EndsInPace : Config → App → ItemSizes → (longest at : ℕ) → (found : System) → Stamped → Type 0
EndsInPace config app size longest at found e =
    is_admit e ≡ false → is_boot e.event ≡ false → e.stamp.at ≤ at + paced_counts config app size longest found e.event
