-- Laws of the abstract scheduler.
use Rattle.std.specs.Prelude.{◌≡◌, ◌↔◌, Some}
use Rattle.sloth_base.specs.declared.config.Config.{Config}
use Rattle.sloth_base.specs.declared.app.App.{App}
use Rattle.sloth_base.specs.declared.service.Event.{Event}
use Rattle.osek_scheduler.specs.State.{System}
use Rattle.osek_scheduler.specs.Steps.{OsekStep}
use Rattle.osek_scheduler.specs.Next.{next_state}

-- the computed next state is the one that a step leads to
abbrev pub StepIsComputed : Type 0
StepIsComputed = (config : Config) (app : App) (event : Event) (s next : System)
    → (next_state config app event s ≡ Some next) ↔ OsekStep config app event s next
