-- What a name may stand for where it is used.
use Rattle.std.specs.Prelude.{ℕ, ◌+◌, ◌==◌, Bool, true, false, ◌&&◌, ◌||◌, not, if◌then◌else◌, List, [], ◌∷◌, codes, Option, Some, None}
use Rattle.std.specs.List.{list_any}
use Rattle.std.specs.Str.{bytes_eq}
use Rattle.sloth_base.specs.declared.config.Config.{Config}
use Rattle.sloth_base.specs.DeclaredNames.{task_names, event_names, alarm_names}
use Rattle.sloth_base.specs.ServiceCodes.{object_kind, has_mask}
use Rattle.sloth_base.specs.declared.service.ObjectKind.{ObjectKind}
use Rattle.sloth_base.specs.declared.service.ObjectKind.TheVariants as object
use Rattle.sloth_base.specs.declared.service.Service.{Service}
use Rattle.asm_lines.specs.declared.operands.Operand.{Operand}
use Rattle.asm_lines.specs.declared.forms.Mnemonic.{Mnemonic}
use Rattle.asm_lines.specs.declared.forms.Mnemonic.TheVariants as m
use Rattle.asm_lines.specs.declared.source_line.SourceLine.{SourceLine}
use Rattle.asm_lines.specs.declared.source_line.SourceLine.TheVariants.{Statement}
use Rattle.asm_scopes.specs.declared.scope.Kind.{Kind}
use Rattle.asm_scopes.specs.declared.scope.Kind.TheVariants as kind
use Rattle.asm_scopes.specs.declared.scope.Scope.{Scope}
use Rattle.asm_scopes.specs.Statements.{written_name, symbol_names}
use Rattle.asm_scopes.specs.Bodies.{BodyText, function_names, called_names}

-- the names that a source with these lines and bodies may use
abbrev pub scope_of : Config → List SourceLine → List BodyText → Scope
scope_of config ls bodies = record {
  tasks = task_names config;
  resources = config.resources;
  events = event_names config;
  alarms = alarm_names config;
  has_scheduler = config.res_scheduler;
  symbols = symbol_names ls;
  functions = function_names bodies;
  called = called_names bodies;
}

-- what an operand that names the object of a service names
abbrev pub object_name : ObjectKind → Kind
object_name object.Nothing = kind.Task
object_name object.Task = kind.Task
object_name object.Resource = kind.Resource
object_name object.Alarm = kind.Alarm

-- what the operand at place i of a service names: its object, or an event behind that
abbrev pub operand_kind : (has_mask : Bool) → ObjectKind → ℕ → Kind
operand_kind false k i = object_name k
operand_kind true object.Nothing i = kind.Event
operand_kind true k i = if i == 0 then object_name k else kind.Event

-- the same by the service itself
abbrev pub service_kind : Service → ℕ → Kind
service_kind s i = operand_kind (has_mask s) (object_kind s) i

-- what the operand at place i of a statement names, if it is a use of a name
abbrev pub kind_of : Mnemonic → ℕ → Kind
kind_of m.Label i = if i == 0 then kind.Declared else kind.Resource
kind_of (m.Load w) i = kind.Symbol
kind_of (m.Store w) i = kind.Symbol
kind_of (m.Branch b) i = kind.Label
kind_of m.Jump i = kind.Label
kind_of m.Invoke i = kind.Function
kind_of (m.Serve s) i = service_kind s i
kind_of _ i = kind.Declared

-- the resource RES_SCHEDULER, where it exists
abbrev pub is_scheduler : Scope → List ℕ → Bool
is_scheduler scope name = scope.has_scheduler && bytes_eq name (codes "RES_SCHEDULER")

-- an object of the kind has the name
abbrev pub is_named : Scope → List (List ℕ) → Kind → List ℕ → Bool
is_named scope labels kind.Declared name = true
is_named scope labels kind.Symbol name = list_any (bytes_eq name) scope.symbols
is_named scope labels kind.Label name = list_any (bytes_eq name) labels
is_named scope labels kind.Function name = list_any (bytes_eq name) scope.called
is_named scope labels kind.Task name = list_any (bytes_eq name) scope.tasks
is_named scope labels kind.Resource name = is_scheduler scope name || list_any (bytes_eq name) scope.resources
is_named scope labels kind.Event name = list_any (bytes_eq name) scope.events
is_named scope labels kind.Alarm name = list_any (bytes_eq name) scope.alarms

-- a name is written here that no object of the wanted kind has
abbrev pub is_lacking : Scope → List (List ℕ) → Kind → Option (List ℕ) → Bool
is_lacking scope labels kind None = false
is_lacking scope labels kind (Some name) = not (is_named scope labels kind name)

-- one of these operands, from place i on, names no object of the wanted kind
abbrev pub any_unknown : Scope → List (List ℕ) → Mnemonic → ℕ → List Operand → Bool
any_unknown scope labels m i [] = false
any_unknown scope labels m i (x ∷ os) = is_lacking scope labels (kind_of m i) (written_name x) || any_unknown scope labels m (i + 1) os

-- the line uses a name that no object of the wanted kind has
abbrev pub has_unknown : Scope → List (List ℕ) → SourceLine → Bool
has_unknown scope labels (Statement m os) = any_unknown scope labels m 0 os
has_unknown scope labels _ = false
