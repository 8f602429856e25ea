-- The state that a next event leads to.
use Rattle.std.specs.Prelude.{List, [], ◌∷◌, Option, Some}
use Rattle.sloth_base.specs.declared.config.Config.{Config}
use Rattle.sloth_base.specs.declared.app.App.{App}
use Rattle.sloth_base.specs.declared.service.Event.{Event}
use Rattle.osek_scheduler.specs.State.{System}
use Rattle.osek_scheduler.specs.Meaning.{on_some}
use Rattle.osek_scheduler.specs.Next.{next_state}

-- the state after events without their counts, where each has a next state
abbrev pub system_after : Config → App → List Event → System → Option System
system_after config app [] s = Some s
system_after config app (e ∷ events) s = on_some (next_state config app e s) (system_after config app events)
