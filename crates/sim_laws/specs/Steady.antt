-- Systems with well-formed task code, as each step leaves them.
use Rattle.sloth_base.specs.declared.config.Config.{Config}
use Rattle.sloth_base.specs.declared.app.App.{App}
use Rattle.sloth_base.specs.declared.service.Event.{Event}
use Rattle.code_rules.specs.WellFormed.{WellFormed}
use Rattle.osek_scheduler.specs.State.{System}
use Rattle.osek_scheduler.specs.Steps.{OsekStep}
use Rattle.osek_scheduler.specs.Valid.{IsValid}
use Rattle.osek_scheduler.specs.Apart.{TasksAreApart}
use Rattle.shared_stacks.specs.Together.{OwesBySchedule}

-- what each step keeps: the system is valid, and a task owes the way back only where it reaches a Schedule
pub record IsSteady (config : Config) (app : App) (s : System) : Type 0 where
  pub valid : IsValid config app s
  pub apart : TasksAreApart config s
  pub owing : OwesBySchedule app s

-- each event keeps that
abbrev pub SteadyStays : Type 0
SteadyStays = (config : Config) (app : App) → WellFormed config app → (what : Event) (s next : System) → OsekStep config app what s next
    → IsSteady config app s → IsSteady config app next
