-- Tables of ceilings.
use Rattle.std.specs.Prelude.{ℕ, ◌<◌, ◌≡◌, List, length, get_or}
use Rattle.sloth_base.specs.declared.config.Config.{Config}
use Rattle.osek_scheduler.specs.Priority.{ceiling}

-- each entry is the ceiling of its resource
abbrev pub AreResourceCeilings : Config → List ℕ → Type 0
AreResourceCeilings config table = (r : ℕ) → r < length table → get_or table r 0 ≡ ceiling config r
