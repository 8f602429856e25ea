use Rattle.std.proofs.Common.{◌≡◌, ◌++◌, ◌-◌}
use Rattle.shares_text.specs.Sites.{down_from}
use Rattle.shares_text.proofs.sites.push_down.Given as goal

abbrev pub invariant-loop-step : goal.invariant-loop-step
invariant-loop-step l = l.ordered.items ++ down_from l.ranks l.calls (l.top - l.step) ≡ l.initial.ordered.items ++ down_from l.ranks l.calls l.top
