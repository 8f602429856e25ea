-- Places behind those of all services.
use Rattle.std.proofs.Common.{◌≡◌, ◌≤◌, ◌/◌, ℕ, None, arith}
use Rattle.std.proofs.lemmas.Option.{slice_get_past}
use Rattle.sloth_base.specs.Blocks.{block_service}
use Rattle.sloth_base.specs.ServiceCodes.{services}

pub no_service : (number : ℕ) → 640 ≤ number → block_service number ≡ None
no_service number past = slice_get_past services (number / 40) (omega (arith, past))
