-- Small systems, on which lists of events are tried: those that the abstract machine accepts, and the same with an event changed or left out, which it
-- refuses. The checker computes each.
use Rattle.std.proofs.Common.{ℕ, List, [], ◌∷◌, Bool, true, false, Some, map}
use Rattle.std.specs.Prelude.{is_some}
use Rattle.sloth_base.specs.declared.config.Config.{Config}
use Rattle.sloth_base.specs.declared.config.TaskDecl.{TaskDecl}
use Rattle.sloth_base.specs.declared.app.App.{App}
use Rattle.sloth_base.specs.declared.app.Func.{Func}
use Rattle.sloth_base.specs.declared.app.Op.{Op}
use Rattle.sloth_base.specs.declared.app.Op.TheVariants as op
use Rattle.sloth_base.specs.declared.service.Event.{Event}
use Rattle.sloth_base.specs.declared.service.Event.TheVariants as event
use Rattle.sloth_base.specs.declared.service.Service.{Service}
use Rattle.osek_scheduler.specs.State.{opening}
use Rattle.osek_scheduler.proofs.SystemAfter.{system_after}

-- a task that is preemptable, of this priority
abbrev pub full : (priority : ℕ) (autostart : Bool) (resources : List ℕ) (events : ℕ) → TaskDecl
full priority autostart resources events = record { name = []; priority = priority; extended = false; non = false; autostart = autostart; resources = resources; events = events }

-- two resources, and RES_SCHEDULER
abbrev pub system : List TaskDecl → Config
system tasks = record { tasks = tasks; resources = [] ∷ [] ∷ []; events = []; res_scheduler = true; counters = []; alarms = [] }

-- the body of a task
abbrev pub body : (task : ℕ) (items : List Op) (labels : List ℕ) → Func
body task items labels = record {
  name = [];
  line = 0;
  task = Some task;
  frame_words = 0;
  items = map (λ o. record { line = 0; op = o }) items;
  labels = map (λ i. record { name = []; line = 0; item = i; holds = [] }) labels;
}

-- task code of these functions, over symbols with these bytes
abbrev pub code : List Func → List (List ℕ) → App
code funcs symbols = record { funcs = funcs; symbols = map (λ b. record { name = []; bytes = b }) symbols }

-- a call of a service
abbrev pub serve : Service → ℕ → ℕ → Op
serve s object mask = op.Serve (record { service = s; object = object; mask = mask })

-- the events are a run, but for their counts
abbrev pub accepts : Config → App → List Event → Bool
accepts config app events = is_some (system_after config app events (opening config app))

-- so are these behind boot
abbrev pub accepts_behind_boot : Config → App → List Event → Bool
accepts_behind_boot config app events = accepts config app (event.Boot ∷ events)
