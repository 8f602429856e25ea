-- Tasks that nothing but their arrivals makes Ready, or one alarm.
use Rattle.std.specs.Prelude.{ℕ, ◌==◌, ◌&&◌, ◌||◌, not, Bool, false, List, count_by}
use Rattle.std.specs.List.{list_any}
use Rattle.sloth_base.specs.declared.config.Config.{Config}
use Rattle.sloth_base.specs.declared.config.TaskDecl.{TaskDecl}
use Rattle.sloth_base.specs.declared.config.AlarmDecl.{AlarmDecl}
use Rattle.sloth_base.specs.declared.app.App.{App}
use Rattle.sloth_base.specs.declared.app.Func.{Func}
use Rattle.sloth_base.specs.declared.app.Item.{Item}
use Rattle.sloth_base.specs.declared.app.Op.{Op}
use Rattle.sloth_base.specs.declared.app.Op.TheVariants as op
use Rattle.sloth_base.specs.declared.service.Service.{Service}
use Rattle.sloth_base.specs.declared.service.Service.TheVariants as service
use Rattle.sloth_base.specs.Named.{declaration}
use Rattle.sloth_base.specs.ServiceCodes.{is_service}
use Rattle.response_laws.specs.Ticks.{activates}

-- ---- services that name an object

-- the operation is a call of one of two services for this object
abbrev pub calls_either : (one other : Service) → (object : ℕ) → Op → Bool
calls_either one other object (op.Serve call) = (is_service call.service one || is_service call.service other) && (call.object == object)
calls_either one other object _ = false

-- an item that is one
abbrev pub is_call_for : (one other : Service) → (object : ℕ) → Item → Bool
is_call_for one other object item = calls_either one other object item.op

-- some item of the body is
abbrev pub has_call : (one other : Service) → (object : ℕ) → Func → Bool
has_call one other object func = list_any (is_call_for one other object) func.items

-- some body has such an item
abbrev pub are_called : (one other : Service) → (object : ℕ) → List Func → Bool
are_called one other object funcs = list_any (has_call one other object) funcs

-- an ActivateTask or a ChainTask that names the task
abbrev pub is_making : (t : ℕ) → Op → Bool
is_making t o = calls_either service.ActivateTask service.ChainTask t o

-- ---- tasks

-- an alarm that activates the task
abbrev pub is_activating : (t : ℕ) → AlarmDecl → Bool
is_activating t alarm = activates t alarm.action

-- a basic task that does not start with the system
abbrev pub is_plain : TaskDecl → Bool
is_plain t = not t.extended && not t.autostart

-- a basic task that nothing but its arrivals and alarms makes Ready: it does not start with the system, and no ActivateTask or ChainTask names it
abbrev pub is_made_from_outside : Config → App → (t : ℕ) → Bool
is_made_from_outside config app t = is_plain (declaration config t) && not (are_called service.ActivateTask service.ChainTask t app.funcs)

-- one that no alarm activates
abbrev pub is_made_by_arrivals : Config → App → (t : ℕ) → Bool
is_made_by_arrivals config app t = is_made_from_outside config app t && not (list_any (is_activating t) config.alarms)

-- one that exactly one alarm activates
abbrev pub is_made_by_one_alarm : Config → App → (t : ℕ) → Bool
is_made_by_one_alarm config app t = is_made_from_outside config app t && (count_by (is_activating t) config.alarms == 1)
