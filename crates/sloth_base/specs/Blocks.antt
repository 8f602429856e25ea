-- The table of the services' code: a place for each service with each object that it may have.
use Rattle.std.specs.Prelude.{ℕ, ◌+◌, ◌*◌, ◌/◌, ◌%◌, Option}
use Rattle.sloth_base.specs.declared.service.Service.{Service}
use Rattle.sloth_base.specs.ServiceCodes.{code_of, service_of}

-- the places that a service has, one for each object
abbrev pub block_objects : ℕ
block_objects = 40

-- the places of all services
abbrev pub block_count : ℕ
block_count = 640

-- the place of a service with its object
abbrev pub block_number : Service → ℕ → ℕ
block_number served object = code_of served * block_objects + object

-- the code of the service that has a place
abbrev pub block_code : ℕ → ℕ
block_code number = number / block_objects

-- the service that has a place
abbrev pub block_service : ℕ → Option Service
block_service number = service_of (block_code number)

-- the object that it has there
abbrev pub block_object : ℕ → ℕ
block_object number = number % block_objects
