use Rattle.std.proofs.Common.{◌≡◌, ◌≤◌, ◌-◌}
use Rattle.debug_ways.proofs.cursor.Cursor.reach.Given as goal

abbrev pub invariant-loop-self : goal.invariant-loop-self
invariant-loop-self g l = (l.self.count ≤ l.count) × (g.M.Machine.run l.self.here ≡ g.M.Machine.run l.fn.self.here)

abbrev pub decreases-loop-self : goal.decreases-loop-self
decreases-loop-self g l = l.count - l.self.count
