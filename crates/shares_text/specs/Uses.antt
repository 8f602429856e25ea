-- What uses the objects of a configuration, and the data and functions of its task code.
use Rattle.std.specs.Prelude.{ℕ, ◌≡◌, ◌⊎◌, ◌==◌, ◌&&◌, ◌||◌, not, bit_and, Bool, true, false, get_or, is_some}
use Rattle.std.specs.List.{list_any}
use Rattle.sloth_base.specs.declared.config.Config.{Config}
use Rattle.sloth_base.specs.declared.config.Action.{Action}
use Rattle.sloth_base.specs.declared.config.Action.TheVariants as action
use Rattle.sloth_base.specs.declared.app.App.{App}
use Rattle.sloth_base.specs.declared.app.Op.{Op}
use Rattle.sloth_base.specs.declared.app.Op.TheVariants as op
use Rattle.sloth_base.specs.declared.service.Service.{Service}
use Rattle.sloth_base.specs.declared.service.Service.TheVariants as service
use Rattle.sloth_base.specs.ConfigRange.{no_event}
use Rattle.sloth_base.specs.Named.{declaration, alarm_declaration, function}
use Rattle.sloth_base.specs.Options.{is_number}
use Rattle.sloth_base.specs.ServiceCodes.{has_mask}
use Rattle.code_rules.specs.Code.{TaskReaches}
use Rattle.call_graph.specs.Rows.{is_call, is_taking}
use Rattle.shares_text.specs.Accesses.{symbol_of}
use Rattle.shares_text.specs.declared.unused.Kind.{Kind}
use Rattle.shares_text.specs.declared.unused.Kind.TheVariants as kind

-- ---- items

-- a service that activates a task
abbrev pub is_activating : Service → Bool
is_activating service.ActivateTask = true
is_activating service.ChainTask = true
is_activating _ = false

-- a service that starts an alarm
abbrev pub is_starting : Service → Bool
is_starting service.SetRelAlarm = true
is_starting service.SetAbsAlarm = true
is_starting _ = false

-- the mask of an event
abbrev pub event_mask : Config → ℕ → ℕ
event_mask config e = (get_or config.events e no_event).mask

-- a mask has all of these bits
abbrev pub has_bits : (mask bits : ℕ) → Bool
has_bits mask bits = bit_and mask bits == bits

-- the operation activates task t
abbrev pub is_activation : ℕ → Op → Bool
is_activation t (op.Serve call) = is_activating call.service && (call.object == t)
is_activation t _ = false

-- it sets, clears or waits for the event of these bits
abbrev pub has_event : ℕ → Op → Bool
has_event bits (op.Serve call) = has_mask call.service && has_bits call.mask bits
has_event bits _ = false

-- it starts alarm a
abbrev pub is_start : ℕ → Op → Bool
is_start a (op.Serve call) = is_starting call.service && (call.object == a)
is_start a _ = false

-- it loads or stores symbol y
abbrev pub is_access : ℕ → Op → Bool
is_access y o = is_number y (symbol_of o)

-- The operation uses thing n of a kind: it activates the task, takes the resource, names the event, starts the alarm, loads or stores the symbol, calls
-- the function.
abbrev pub is_use : Config → Kind → ℕ → Op → Bool
is_use config kind.Task t o = is_activation t o
is_use config kind.Resource r o = is_taking r o
is_use config kind.Event e o = has_event (event_mask config e) o
is_use config kind.Alarm a o = is_start a o
is_use config kind.Symbol y o = is_access y o
is_use config kind.Function f o = is_call f o

-- ---- declarations

-- an alarm with this action activates task t
abbrev pub activates : ℕ → Action → Bool
activates t (action.Activate u) = u == t
activates t (action.Set u mask) = false

-- it sets the event of these bits
abbrev pub sets : ℕ → Action → Bool
sets bits (action.Activate t) = false
sets bits (action.Set t mask) = has_bits mask bits

-- What is declared uses it: the task is autostarted or an alarm activates it, an alarm sets the event, the alarm starts by itself, the function is
-- the body of a task.
abbrev pub is_declared_use : Config → App → Kind → ℕ → Bool
is_declared_use config app kind.Task t = (declaration config t).autostart || list_any (λ alarm. activates t alarm.action) config.alarms
is_declared_use config app kind.Resource r = false
is_declared_use config app kind.Event e = list_any (λ alarm. sets (event_mask config e) alarm.action) config.alarms
is_declared_use config app kind.Alarm a = not ((alarm_declaration config a).time == 0)
is_declared_use config app kind.Symbol y = false
is_declared_use config app kind.Function f = is_some (function app f).task

-- ---- uses

-- some task reaches function f: f is its body, or calls lead there
abbrev pub IsReached : App → (f : ℕ) → Type 0
IsReached app f = (t : ℕ) × TaskReaches app t f

-- an item of a function that some task reaches uses it
abbrev pub IsUsedByCode : Config → App → Kind → ℕ → Type 0
IsUsedByCode config app k n = (f : ℕ) × IsReached app f × (list_any (λ item. is_use config k n item.op) (function app f).items ≡ true)

-- thing n of a kind is used
abbrev pub IsUsed : Config → App → Kind → ℕ → Type 0
IsUsed config app k n = (is_declared_use config app k n ≡ true) ⊎ IsUsedByCode config app k n
