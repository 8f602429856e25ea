use Rattle.std.proofs.Common.{◌≡◌, ◌≤◌, ◌+◌}
use Rattle.debug_ways.specs.Runs.{Run}
use Rattle.debug_ways.proofs.marks.execute.Given as goal

abbrev pub invariant-loop-done : goal.invariant-loop-done
invariant-loop-done g l = record {
  run : g.M.Machine.run l.machine ≡ g.M.Machine.run l.fn.machine;
  count : g.M.Machine.count l.machine ≡ g.M.Machine.count l.fn.machine + l.done;
  within : g.M.Machine.count l.machine ≤ (g.M.Machine.run l.fn.machine).end;
}
