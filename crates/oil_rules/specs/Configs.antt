-- The configuration that a tree means, where it has no fault. Objects of a kind are numbered, each kind in
-- the order of the text.
use Rattle.std.specs.Prelude.{◌≡◌, ℕ, if◌then◌else◌, ◌==◌, List, [], ◌∷◌, ◌++◌, map, filter, fold, position, codes, Option, Some, None, unwrap_or}
use Rattle.std.specs.List.{list_any}
use Rattle.std.specs.Str.{bytes_eq}
use Rattle.sloth_base.specs.declared.config.TaskDecl.{TaskDecl}
use Rattle.sloth_base.specs.declared.config.EventDecl.{EventDecl}
use Rattle.sloth_base.specs.declared.config.Config.{Config}
use Rattle.oil_parse.specs.declared.tree.OilValue.{OilValue}
use Rattle.oil_parse.specs.declared.tree.OilValue.TheVariants.{Word}
use Rattle.oil_parse.specs.declared.tree.OilAttr.{OilAttr}
use Rattle.oil_parse.specs.declared.tree.OilObject.{OilObject}
use Rattle.oil_parse.specs.declared.tree.OilTree.{OilTree}
use Rattle.oil_table.specs.Objects.{names_of, is_of_kind, is_use, is_used, first_is, first_number, has_scheduler}
use Rattle.oil_table.specs.Events.{events_of}
use Rattle.oil_table.specs.Masks.{event_mask}
use Rattle.oil_rules.specs.Clocks.{counters_of, alarms_of}

-- the names of the resources, in the order of their numbers
abbrev pub resource_names : List OilObject → List (List ℕ)
resource_names objects = names_of (codes "RESOURCE") objects

-- the number of the resource that a value names
abbrev pub resource_number : List (List ℕ) → OilValue → Option ℕ
resource_number names (Word word) = position (bytes_eq word) names
resource_number names _ = None

-- the resource that an attribute lists; a reference to RES_SCHEDULER has no effect
abbrev pub listed_resource : List (List ℕ) → OilAttr → Option ℕ
listed_resource names attr = if is_use (codes "RESOURCE") attr then resource_number names attr.value else None

-- one more, if it isn't among them
abbrev pub with_number : List ℕ → ℕ → List ℕ
with_number listed number = if list_any (λ earlier. earlier == number) listed then listed else listed ++ number ∷ []

-- the resources with one more, where there is one
abbrev pub with_resource : List ℕ → Option ℕ → List ℕ
with_resource listed None = listed
with_resource listed (Some number) = with_number listed number

-- the resources that a task lists, each once, in the order of the text
abbrev pub resources_of : List (List ℕ) → List OilAttr → List ℕ
resources_of names attrs = fold (λ listed attr. with_resource listed (listed_resource names attr)) [] attrs

-- the task that an object declares
abbrev pub declared_task : List (List ℕ) → List EventDecl → OilObject → TaskDecl
declared_task names events object = record {
  name = object.name;
  priority = unwrap_or (first_number object.attrs (codes "PRIORITY")) 0;
  extended = is_used object.attrs (codes "EVENT");
  non = first_is object.attrs (codes "SCHEDULE") (codes "NON");
  autostart = first_is object.attrs (codes "AUTOSTART") (codes "TRUE");
  resources = resources_of names object.attrs;
  events = event_mask events object.attrs;
}

-- the tasks that objects declare
abbrev pub tasks_of : List (List ℕ) → List EventDecl → List OilObject → List TaskDecl
tasks_of names events objects = map (declared_task names events) (filter (is_of_kind (codes "TASK")) objects)

-- the configuration of these objects
abbrev pub config_of : List OilObject → Config
config_of objects = record {
  tasks = tasks_of (resource_names objects) (events_of objects) objects;
  resources = resource_names objects;
  events = events_of objects;
  res_scheduler = has_scheduler objects;
  counters = counters_of objects;
  alarms = alarms_of (names_of (codes "TASK") objects) (names_of (codes "COUNTER") objects) (events_of objects) objects;
}

-- the configuration that a tree means
abbrev pub IsConfig : OilTree → Config → Type 0
IsConfig tree config = config ≡ config_of tree.objects
