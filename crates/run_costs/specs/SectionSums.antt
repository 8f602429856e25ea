-- How the makings of sections are found.
use Rattle.std.specs.Prelude.{ℕ, ◌==◌, ◌||◌, not, nat_lt, cond, Bool, true, false}
use Rattle.sloth_base.specs.declared.config.Config.{Config}
use Rattle.sloth_base.specs.Named.{declaration}
use Rattle.osek_scheduler.specs.Apart.{static_priority}
use Rattle.walk_sums.specs.declared.sections.Sum.{Sum}
use Rattle.walk_sums.specs.declared.sections.Sum.TheVariants as sum

-- the sum tells that there are sections
abbrev pub has_some : Sum → Bool
has_some (sum.Counts n) = not (n == 0)
has_some s = true

-- the sum tells that there is no greatest one
abbrev pub is_endless : Sum → Bool
is_endless sum.Endless = true
is_endless s = false

abbrev pub is_lower : Config → (h k : ℕ) → Bool
is_lower config h k = nat_lt (static_priority config k) (static_priority config h)

-- once at most
abbrev pub is_once : Config → (h j k : ℕ) → Bool
is_once config h j k = (declaration config k).non || (h == j)

-- a section of a lower task does what counts, by its top
abbrev pub does : Config → (h k top : ℕ) → Bool
does config h k top = cond (declaration config k).non (nat_lt 0 top) (nat_lt (static_priority config h) top)
