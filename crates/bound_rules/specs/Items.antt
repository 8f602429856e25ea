-- Levels that are reached, and the functions that items call.
use Rattle.std.specs.Prelude.{ℕ, leb, cond, List, get_or, Bool, true, Option, Some, None}
use Rattle.bound_rules.specs.declared.bound.Body.{Body}
use Rattle.bound_rules.specs.declared.bound.Summary.{Summary}
use Rattle.bound_rules.specs.Summaries.{summary_of}

-- A level is the priority that a function has to reach by what it holds itself; there is none where its callers have raised the task already.
-- What is held reaches the level.
abbrev pub reaches_level : (level : Option ℕ) → (ceiling : ℕ) → Bool
reaches_level None ceiling = true
reaches_level (Some priority) ceiling = leb priority ceiling

-- the summary of a function that is called at item i: where the task is raised as it is called, and where not
abbrev pub callee_of : Body → Option ℕ → (whole own : List Summary) → (i g : ℕ) → Summary
callee_of body level whole own i g = cond (reaches_level level (get_or body.ceilings i 0)) (summary_of whole g) (summary_of own g)
