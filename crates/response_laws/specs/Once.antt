-- Which tasks a round, or a section, makes Ready once at most.
use Rattle.std.specs.Prelude.{ℕ, ◌<◌, ◌≤◌, ◌≡◌, ◌⊎◌, Bool, true, List, length}
use Rattle.sloth_base.specs.declared.config.Config.{Config}
use Rattle.sloth_base.specs.declared.app.App.{App}
use Rattle.sloth_base.specs.declared.service.Stamped.{Stamped}
use Rattle.sloth_base.specs.Named.{declaration}
use Rattle.code_rules.specs.WellFormed.{WellFormed}
use Rattle.osek_scheduler.specs.Runs.{OsekRun}
use Rattle.osek_scheduler.specs.Apart.{static_priority}
use Rattle.walk_sums.specs.Rounds.{IsSteady}
use Rattle.run_counts.specs.Stages.{run_stages}
use Rattle.response_laws.specs.Turns.{activated}
use Rattle.response_laws.specs.Bounded.{EachFirst, EachNext}

-- task j cannot be entered in a round of task k: its static priority is no higher, or k lets no other task in
abbrev pub StaysOut : Config → App → (k j : ℕ) → Type 0
StaysOut config app k j = (static_priority config j ≤ static_priority config k) ⊎ IsSteady config app k

-- In every run of well-formed task code a round of a task makes another one that cannot be entered meanwhile Ready to begin anew once at most: it stays so.
abbrev pub RoundsMakeOnce : Type 0
RoundsMakeOnce = (config : Config) (app : App) (events : List Stamped) (k j : ℕ) (cuts : Bool) → WellFormed config app → OsekRun config app events
    → k < length config.tasks → StaysOut config app k j
    → EachFirst (run_stages config app events) cuts k (activated j) 1 × EachNext (run_stages config app events) cuts k (activated j) 1

-- task j cannot be entered in a section of the lower task b for h: it is h, or b is not preemptable
abbrev pub IsShutOut : Config → (h b j : ℕ) → Type 0
IsShutOut config h b j = (j ≡ h) ⊎ ((declaration config b).non ≡ true)
