use Rattle.std.proofs.Common.{◌≡◌, ℕ, length, get_or, None}
use Rattle.holds_infer.proofs.body_ways.no_lists.Given as goal

abbrev pub invariant-loop-place : goal.invariant-loop-place
invariant-loop-place l = record { count : length l.lists.items ≡ l.place; clear : (k : ℕ) → get_or l.lists.items k None ≡ None }
