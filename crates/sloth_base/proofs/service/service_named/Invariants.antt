use Rattle.std.proofs.Common.{◌≡◌, drop}
use Rattle.sloth_base.specs.ServiceCodes.{services, service_among}
use Rattle.sloth_base.proofs.service.service_named.Given as goal

abbrev pub invariant-loop-service : goal.invariant-loop-service
invariant-loop-service l = service_among (drop l.service-index l.service-items) l.word ≡ service_among services l.word
