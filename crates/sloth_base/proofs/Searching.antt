-- What a search for the least fault keeps on its way.
use Rattle.std.specs.Prelude.{◌≡◌, Option, Some, None, ◌⊎◌}
use Rattle.sloth_base.specs.declared.refusal.Refusal.{Refusal}
use Rattle.sloth_base.specs.Order.{IsNoLater}

-- the least so far stands no later than r
abbrev pub IsBeaten : Option Refusal → Refusal → Type 0
IsBeaten None r = ⊥
IsBeaten (Some m) r = IsNoLater m r

-- Of the faults F those of G are still to be met; the least of the others is kept.
pub record KeepsLeast (F G : Refusal → Type 0) (o : Option Refusal) : Type 0 where
  pub own : (m : Refusal) → o ≡ Some m → F m
  pub to_come : (r : Refusal) → G r → F r
  pub all : (r : Refusal) → F r → G r ⊎ IsBeaten o r
