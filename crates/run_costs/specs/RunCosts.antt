-- Costs that runs keep: of entries and ticks their own counts; of rounds and sections those of items, with what is begun of them in front of entries and ticks
-- that preempt them; of makings by walks alone.
use Rattle.std.specs.Prelude.{ℕ, ◌≤◌, ◌≡◌, ◌⊎◌, ◌&&◌, ◌||◌, ◌==◌, not, cond, Bool, true, false, List, [], length, Option, None, Decides}
use Rattle.sloth_base.specs.declared.config.Config.{Config}
use Rattle.sloth_base.specs.declared.app.App.{App}
use Rattle.sloth_base.specs.declared.service.Service.TheVariants as service
use Rattle.sloth_base.specs.Named.{declaration}
use Rattle.sloth_base.specs.Owners.{counter_line}
use Rattle.load_text.specs.declared.load_line.Entry.{Entry}
use Rattle.load_text.specs.Loads.{distance, work}
use Rattle.code_lengths.specs.LongestPaths.{tick_path}
use Rattle.osek_scheduler.specs.Apart.{static_priority}
use Rattle.osek_blocking.specs.Sections.{IsLower}
use Rattle.bound_rules.specs.declared.bound.BodyWeights.{BodyWeights}
use Rattle.sim_induction.specs.Events.{enter_counts}
use Rattle.run_counts.specs.Counts.{AreCounts}
use Rattle.walk_sums.specs.declared.sections.RoundSums.{RoundSums}
use Rattle.walk_sums.specs.declared.counted.Counted.TheVariants as counts
use Rattle.walk_sums.specs.Rounds.{IsClean, IsSteady}
use Rattle.run_windows.specs.declared.costs.TaskCosts.{TaskCosts}
use Rattle.run_windows.specs.declared.costs.CounterCosts.{CounterCosts}
use Rattle.run_windows.specs.declared.costs.Makings.{Makings}
use Rattle.run_windows.specs.declared.costs.SectionCosts.{SectionCosts}
use Rattle.run_windows.specs.declared.costs.SectionMakings.{SectionMakings}
use Rattle.run_windows.specs.declared.costs.Level.{Level}
use Rattle.run_windows.specs.declared.costs.Costs.{Costs}
use Rattle.run_windows.specs.Costs.{no_task, no_makings, no_level, no_section, no_section_makings}
use Rattle.run_windows.specs.RunWindows.{call_path}
use Rattle.run_costs.specs.Coming.{AreComing}
use Rattle.run_costs.specs.Rounds.{AreRounds, round_cost, activations_of}
use Rattle.run_costs.specs.CostsOf.{AreEach, ReachesService, IsGreatest, AreMade, AreServiceTable, IsTaskSection, IsSectionMade, no_counter, no_alarm, IsAlarm}

-- ---- tasks

-- what an entry takes: that of a round behind a WaitEvent where rounds of the task begin so; else the longer one
abbrev pub round_entry : Config → App → (clean resumed : Bool) → (t : ℕ) → ℕ
round_entry config app clean resumed t = enter_counts config app (clean && resumed) t

-- what raises a preemptable task in a window: a GetResource; one that is not is raised in front of it
abbrev pub raising_counts : Config → (t : ℕ) → ℕ
raising_counts config t = cond (declaration config t).non 0 (call_path service.GetResource)

-- A preemptable task counts once in its own windows, if its turns are not cut into rounds.
abbrev pub counts_once : Config → (clean : Bool) → (t : ℕ) → Bool
counts_once config clean t = not (declaration config t).non && not (clean && (declaration config t).extended)

-- A task that is not preemptable, and clean, and waits: sections of it may have several rounds.
abbrev pub has_raised_waits : Config → (clean waits : Bool) → (t : ℕ) → Bool
has_raised_waits config clean waits t = (declaration config t).non && (clean && waits)

-- What the load says of the work of task t bounds its sections too, but where they may have several rounds.
abbrev pub section_work : Config → (load : List Entry) → (clean waits : Bool) → (t : ℕ) → Option ℕ
section_work config load clean waits t = cond (has_raised_waits config clean waits t) None (work load t)

-- what task t costs
pub record AreRunTaskCosts (config : Config) (app : App) (load : List Entry) (weights : List BodyWeights) (t : ℕ) (c : TaskCosts) : Type 0 where
  pub priority : c.priority ≡ static_priority config t
  pub clean : Bool
  pub clears : Decides clean (IsClean app t)
  pub is_entered_once : c.is_entered_once ≡ counts_once config clean t
  pub is_autostarted : c.is_autostarted ≡ (declaration config t).autostart
  pub is_cut : c.is_cut ≡ (clean && (declaration config t).extended)
  pub distance : c.distance ≡ distance load t
  pub told : RoundSums
  pub rounds : AreRounds app clean (declaration config t).extended t weights told
  pub first : c.first ≡ round_cost (round_entry config app clean false t) (work load t) told.first
  pub next : c.next ≡ round_cost (round_entry config app clean true t) (work load t) told.later
  pub raising : c.raising ≡ raising_counts config t
  pub waits : Bool
  pub is_waiting : Decides waits (ReachesService app t service.WaitEvent)
  pub has_raised_waits : c.has_raised_waits ≡ has_raised_waits config clean waits t
  pub section_work : c.section_work ≡ section_work config load clean waits t
  pub service : IsGreatest app t call_path c.service

-- those of all tasks
abbrev pub AreTaskCosts : Config → App → List Entry → List BodyWeights → List TaskCosts → Type 0
AreTaskCosts config app load weights list = AreEach (length config.tasks) no_task (AreRunTaskCosts config app load weights) list

-- ---- makings

-- How often rounds of task k make task j Ready: they activate it once at most where j cannot run meanwhile.
pub record AreRunMakings (config : Config) (app : App) (j k : ℕ) (m : Makings) : Type 0 where
  pub clean : Bool
  pub is_clean : Decides clean (IsClean app k)
  pub once : Bool
  pub is_once : Decides once ((static_priority config j ≤ static_priority config k) ⊎ IsSteady config app k)
  pub activations : AreMade config app clean k (activations_of k j) once m.first_activations m.next_activations
  pub settings : AreMade config app clean k (counts.Settings j) false m.first_settings m.next_settings

-- of all tasks
abbrev pub AreMakingRow : Config → App → (j : ℕ) → List Makings → Type 0
AreMakingRow config app j row = AreEach (length config.tasks) no_makings (AreRunMakings config app j) row

-- by the task that is made
abbrev pub AreMakingTable : Config → App → List (List Makings) → Type 0
AreMakingTable config app table = AreEach (length config.tasks) [] (λ j. AreMakingRow config app j) table

-- How often sections of task k for h make task j Ready: they activate it once at most where k is not preemptable, or j is h; they set its events as walks say.
pub record AreRunSectionMakings (config : Config) (app : App) (h j k : ℕ) (m : SectionMakings) : Type 0 where
  pub activations : IsSectionMade config app h k ((declaration config k).non || (h == j)) (counts.Activations j) m.activations
  pub settings : IsSectionMade config app h k false (counts.Settings j) m.settings

-- those of a lower task k for h, where j is not lower; else nothing counts
abbrev pub IsRunSectionMaking : Config → App → (h j k : ℕ) → SectionMakings → Type 0
IsRunSectionMaking config app h j k m =
    (IsLower config h k → ¬ (IsLower config h j) → AreRunSectionMakings config app h j k m)
    × (¬ (IsLower config h k × ¬ (IsLower config h j)) → m ≡ no_section_makings)

-- of all tasks
abbrev pub AreSectionMakingRow : Config → App → (h j : ℕ) → List SectionMakings → Type 0
AreSectionMakingRow config app h j row = AreEach (length config.tasks) no_section_makings (IsRunSectionMaking config app h j) row

-- by the task that is made
abbrev pub AreSectionMakingTable : Config → App → (h : ℕ) → List (List SectionMakings) → Type 0
AreSectionMakingTable config app h table = AreEach (length config.tasks) [] (λ j. AreSectionMakingRow config app h j) table

-- the sections of all tasks for h
abbrev pub AreSectionRow : Config → App → List BodyWeights → (h : ℕ) → List SectionCosts → Type 0
AreSectionRow config app weights h list = AreEach (length config.tasks) no_section (IsTaskSection config app weights h) list

-- those of all tasks for task h
pub record IsRunLevel (config : Config) (app : App) (weights : List BodyWeights) (h : ℕ) (l : Level) : Type 0 where
  pub sections : AreSectionRow config app weights h l.sections
  pub makings : AreSectionMakingTable config app h l.makings

-- for each task
abbrev pub AreRunLevels : Config → App → List BodyWeights → List Level → Type 0
AreRunLevels config app weights list = AreEach (length config.tasks) no_level (IsRunLevel config app weights) list

-- ---- counters and alarms

abbrev pub IsRunCounter : Config → List Entry → (c : ℕ) → CounterCosts → Type 0
IsRunCounter config load c costs = costs ≡ record { distance = distance load (counter_line c); tick = tick_path config c }

-- ---- all

-- Each number is the one that the configuration, the task code and the load say, and runs keep it.
pub record AreRunCosts (config : Config) (app : App) (load : List Entry) (costs : Costs) : Type 0 where
  pub weights : List BodyWeights
  pub are_counts : AreCounts app weights
  pub tasks : AreTaskCosts config app load weights costs.tasks
  pub comes : AreComing config app load costs.comes
  pub counters : AreEach (length config.counters) no_counter (IsRunCounter config load) costs.counters
  pub alarms : AreEach (length config.alarms) no_alarm (IsAlarm config app) costs.alarms
  pub makings : AreMakingTable config app costs.makings
  pub services : AreServiceTable config app costs.services
  pub levels : AreRunLevels config app weights costs.levels
