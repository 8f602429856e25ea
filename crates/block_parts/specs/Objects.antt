-- The objects with which a generator makes the code of a service.
use Rattle.std.specs.Prelude.{ℕ}
use Rattle.sloth_base.specs.ServiceCodes.{IsObjectNumber}
use Rattle.sloth_base.specs.declared.service.ObjectKind.{ObjectKind}
use Rattle.sloth_base.specs.declared.service.ObjectKind.TheVariants as object

-- the objects with which services on tasks, resources and events have generated code; those of services on alarms stand in `service_gen` Block
abbrev pub HasServiceCode : ObjectKind → ℕ → Type 0
HasServiceCode object.Alarm number = ⊥
HasServiceCode object.Nothing number = IsObjectNumber object.Nothing number
HasServiceCode object.Task number = IsObjectNumber object.Task number
HasServiceCode object.Resource number = IsObjectNumber object.Resource number
