-- Which tasks come, under a load.
use Rattle.std.specs.Prelude.{ℕ, ◌<◌, ◌≡◌, ◌⊎◌, not, count_by, Bool, true, false, List, [], length, get_or, is_some}
use Rattle.sloth_base.specs.declared.config.Config.{Config}
use Rattle.sloth_base.specs.declared.app.App.{App}
use Rattle.sloth_base.specs.declared.service.Service.TheVariants as service
use Rattle.sloth_base.specs.Named.{declaration, alarm_declaration}
use Rattle.sloth_base.specs.Owners.{counter_line}
use Rattle.load_text.specs.declared.load_line.Entry.{Entry}
use Rattle.load_text.specs.Loads.{distance}
use Rattle.walk_sums.specs.declared.counted.Counted.{Counted}
use Rattle.walk_sums.specs.declared.counted.Counted.TheVariants as counts
use Rattle.walk_sums.specs.Clears.{ReachesCounted}
use Rattle.run_costs.specs.declared.services.SettingTops.{SettingTops}
use Rattle.run_costs.specs.declared.services.NamingTops.{NamingTops}
use Rattle.run_costs.specs.Services.{AreAllNamingTops}
use Rattle.run_costs.specs.CostsOf.{AreEach, task_of, sets_events}
use Rattle.run_costs.specs.Tops.{AreTaskTops}

-- ---- what makes a task come

-- a task that comes reaches what counts
abbrev pub SomeReaches : Config → App → (comes : ℕ → Bool) → Counted → Type 0
SomeReaches config app comes c = (k : ℕ) × (k < length config.tasks) × (comes k ≡ true) × ReachesCounted app k c

-- such a task sets alarm a
abbrev pub SomeSets : Config → App → (comes : ℕ → Bool) → (a : ℕ) → Type 0
SomeSets config app comes a =
    SomeReaches config app comes (counts.CallsFor service.SetRelAlarm a) ⊎ SomeReaches config app comes (counts.CallsFor service.SetAbsAlarm a)

-- alarm a starts with the system, or such a task sets it
abbrev pub IsUsed : Config → App → (comes : ℕ → Bool) → (a : ℕ) → Type 0
IsUsed config app comes a = (0 < (alarm_declaration config a).time) ⊎ SomeSets config app comes a

-- it activates task t, on a counter that arrives
abbrev pub MayActivate : Config → List Entry → (a t : ℕ) → Type 0
MayActivate config load a t =
    (is_some (distance load (counter_line (alarm_declaration config a).counter)) ≡ true)
    × (sets_events (alarm_declaration config a).action ≡ false) × (task_of (alarm_declaration config a).action ≡ t)

-- an alarm that is used does
abbrev pub SomeExpires : Config → App → List Entry → (comes : ℕ → Bool) → (t : ℕ) → Type 0
SomeExpires config app load comes t = (a : ℕ) × (a < length config.alarms) × MayActivate config load a t × IsUsed config app comes a

-- Task t starts with the system, or it arrives, or an item activates it which a task that comes reaches, or an alarm that is used does.
abbrev pub IsMade : Config → App → List Entry → (comes : ℕ → Bool) → (t : ℕ) → Type 0
IsMade config app load comes t =
    ((declaration config t).autostart ≡ true)
    ⊎ ((is_some (distance load t) ≡ true) ⊎ (SomeReaches config app comes (counts.Activations t) ⊎ SomeExpires config app load comes t))

-- ---- the tasks that come

-- what they make comes too
abbrev pub IsClosed : Config → App → List Entry → (comes : ℕ → Bool) → Type 0
IsClosed config app load comes = (t : ℕ) → t < length config.tasks → IsMade config app load comes t → comes t ≡ true

abbrev pub marked : List Bool → ℕ → Bool
marked marks t = get_or marks t false

-- each closed set has these tasks
pub record AreInAll (config : Config) (app : App) (load : List Entry) (marks : List Bool) : Type 0 where
  pub each : (other : ℕ → Bool) → IsClosed config app load other → (t : ℕ) → t < length config.tasks → marked marks t ≡ true → other t ≡ true

-- the least set that is closed
pub record AreComing (config : Config) (app : App) (load : List Entry) (comes : List Bool) : Type 0 where
  pub count : length comes ≡ length config.tasks
  pub closed : IsClosed config app load (marked comes)
  pub least : AreInAll config app load comes

-- ---- how they are found

-- what stands in the place of an alarm that is not there
abbrev pub no_setting : SettingTops
no_setting = record { relative = []; absolute = [] }

-- the tops of the calls that set alarm a
pub record AreSettingTops (config : Config) (app : App) (a : ℕ) (tops : SettingTops) : Type 0 where
  pub relative : AreTaskTops config app (counts.CallsFor service.SetRelAlarm a) tops.relative
  pub absolute : AreTaskTops config app (counts.CallsFor service.SetAbsAlarm a) tops.absolute

-- those of all alarms
abbrev pub AreAllSettingTops : Config → App → List SettingTops → Type 0
AreAllSettingTops config app all = AreEach (length config.alarms) no_setting (AreSettingTops config app) all

-- the tops by which it is told what makes tasks come
pub record AreMakers (config : Config) (app : App) (tops : List NamingTops) (setting : List SettingTops) : Type 0 where
  pub naming : AreAllNamingTops config app tops
  pub settings : AreAllSettingTops config app setting

-- a task that something makes, where these come, is one of them
abbrev pub IsSettled : Config → App → List Entry → List Bool → (t : ℕ) → Type 0
IsSettled config app load marks t = IsMade config app load (marked marks) t → marked marks t ≡ true

abbrev pub unmarked : List Bool → ℕ
unmarked marks = count_by not marks

-- one of those below n is marked anew, or all of them are settled
abbrev pub HasMarked : Config → App → List Entry → (old new : List Bool) → (n : ℕ) → Bool → Type 0
HasMarked config app load old new n true = unmarked new < unmarked old
HasMarked config app load old new n false = (new ≡ old) × ((i : ℕ) → i < n → IsSettled config app load old i)
