-- What the alarms of a tick ask for, from the state before the tick and what those before ask for.
use Rattle.std.specs.Prelude.{ℕ, ◌+◌, ◌==◌, ◌||◌, List, [], ◌∷◌, ◌++◌, Bool, cond}
use Rattle.std.specs.List.{list_any}
use Rattle.sloth_base.specs.declared.config.Action.{Action}
use Rattle.sloth_base.specs.declared.config.Action.TheVariants as action
use Rattle.sloth_base.specs.declared.config.AlarmDecl.{AlarmDecl}
use Rattle.osek_scheduler.specs.State.{System, alarm}
use Rattle.losses_text.specs.Requests.{is_busy, request}
use Rattle.losses_text.specs.RequestCounts.{is_of}
use Rattle.losses_text.specs.declared.requests.Request.{Request}

-- one of these asks for the line
abbrev pub is_asked : List Request → (line : ℕ) → Bool
is_asked before line = list_any (is_of line) before

-- an alarm, behind those that ask for these: a task that one of them asks for is not Suspended any more
abbrev pub expiry : Action → (a at : ℕ) → (before : List Request) → System → List Request
expiry (action.Activate t) a at before s = cond ((alarm s a).left == 1) (request t at (is_busy s t || is_asked before t) ∷ []) []
expiry (action.Set t mask) a at before s = []

-- with those of a counter among these alarms, of which the first has this number
abbrev pub expiries : (c first at : ℕ) → List AlarmDecl → System → (before : List Request) → List Request
expiries c first at [] s before = before
expiries c first at (d ∷ declarations) s before =
    expiries c (first + 1) at declarations s (cond (d.counter == c) (before ++ expiry d.action first at before s) before)
