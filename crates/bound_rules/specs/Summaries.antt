-- The summaries of functions.
use Rattle.std.specs.Prelude.{ℕ, ◌≤◌, false, List, get_or}
use Rattle.sloth_base.specs.Limits.{size_limit}
use Rattle.bound_rules.specs.declared.bound.Summary.{Summary}

-- a function of which nothing is known
abbrev pub unknown : Summary
unknown = record { is_endless = false; on = 0; back = 0; most = 0; out = 0 }

-- the summary of a function
abbrev pub summary_of : List Summary → ℕ → Summary
summary_of table g = get_or table g unknown

-- no size is above the greatest that is counted
pub record IsCountedUp (s : Summary) : Type 0 where
  pub on : s.on ≤ size_limit
  pub back : s.back ≤ size_limit
  pub most : s.most ≤ size_limit
  pub out : s.out ≤ size_limit

-- the same of each summary of a table
abbrev pub AreCountedUp : List Summary → Type 0
AreCountedUp table = (g : ℕ) → IsCountedUp (summary_of table g)
