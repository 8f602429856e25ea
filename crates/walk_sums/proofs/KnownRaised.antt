-- Whether the task is raised before an item, as it is known.
use Rattle.std.specs.Prelude.{ℕ, get_or, Bool}
use Rattle.bound_rules.specs.Items.{reaches_level}
use Rattle.walk_sums.specs.Computed.{KnownBody}

-- the task is raised before item i
abbrev pub known_raised : KnownBody → ℕ → Bool
known_raised k i = reaches_level k.level (get_or k.body.ceilings i 0)
