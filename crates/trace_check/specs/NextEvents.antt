-- The events that may come next behind those of a run.
use Rattle.std.specs.Prelude.{ℕ, ◌<◌, ◌↔◌, ◌⊎◌, ◌≡◌, List, [], ◌∷◌, ◌++◌, All, Option, Some, None}
use Rattle.sloth_base.specs.declared.config.Config.{Config}
use Rattle.sloth_base.specs.declared.app.App.{App}
use Rattle.sloth_base.specs.declared.service.Stamped.{Stamped}
use Rattle.osek_scheduler.specs.Runs.{OsekRun}
use Rattle.trace_check.specs.declared.rows.NextEvent.{NextEvent}

-- what begins at this count begins before the limit, where there is one
abbrev pub IsWithin : Option ℕ → ℕ → Type 0
IsWithin None from = Unit {0}
IsWithin (Some limit) from = from < limit

-- the row tells of this event with its counts
pub record IsToldBy (row : NextEvent) (e : Stamped) : Type 0 where
  pub event : e.event ≡ row.event
  pub begins : IsWithin row.limit e.stamp.from

-- one of the rows tells of it
abbrev pub IsTold : List NextEvent → Stamped → Type 0
IsTold [] e = ⊥
IsTold (row ∷ rows) e = IsToldBy row e ⊎ IsTold rows e

-- Behind the events `past` the rows tell of each event, with any counts, with which they still are a run, and of no other. Each
-- row tells of one that begins at count 0.
pub record AreNextEvents (config : Config) (app : App) (past : List Stamped) (rows : List NextEvent) : Type 0 where
  pub exact : (e : Stamped) → IsTold rows e ↔ OsekRun config app (past ++ e ∷ [])
  pub begin : All (λ row. IsWithin row.limit 0) rows
