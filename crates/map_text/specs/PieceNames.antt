-- The names of objects and of pieces of code.
use Rattle.std.specs.Prelude.{ℕ, List, ◌++◌, codes, Option, Some, None}
use Rattle.sloth_base.specs.ConfigRange.{resource_name}
use Rattle.sloth_base.specs.Named.{alarm_declaration, declaration}
use Rattle.sloth_base.specs.ServiceCodes.{object_kind, service_name}
use Rattle.sloth_base.specs.declared.config.Config.{Config}
use Rattle.sloth_base.specs.declared.service.ObjectKind.{ObjectKind}
use Rattle.sloth_base.specs.declared.service.ObjectKind.TheVariants as object
use Rattle.sloth_base.specs.declared.service.Service.{Service}

-- two names, joined by `$`, which no name of a text has
abbrev pub joined : (one other : List ℕ) → List ℕ
joined one other = one ++ (codes "$" ++ other)

-- a service joined to its object, or without one to the kernel
abbrev pub service_symbol : Config → (service : List ℕ) → ObjectKind → ℕ → List ℕ
service_symbol config service object.Nothing number = joined (codes "kernel") service
service_symbol config service object.Task number = joined service (declaration config number).name
service_symbol config service object.Resource number = joined service (resource_name config number)
service_symbol config service object.Alarm number = joined service (alarm_declaration config number).name

-- the service with its object that has a place in the table of the services' code
abbrev pub block_symbol : Config → Option Service → ℕ → List ℕ
block_symbol config None number = codes "-"
block_symbol config (Some service) number = service_symbol config (service_name service) (object_kind service) number
