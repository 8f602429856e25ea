use Rattle.std.proofs.Common.{◌≡◌, ◌≤◌, ◌*◌, length}
use Rattle.debug_ways.specs.Marks.{AreMarks}
use Rattle.debug_ways.specs.Runs.{Run}
use Rattle.debug_ways.proofs.marks.run_marks.Given as goal

abbrev pub invariant-loop-place : goal.invariant-loop-place
invariant-loop-place g l = record {
  run : g.M.Machine.run l.machine ≡ g.M.Machine.run l.fn.machine;
  count : g.M.Machine.count l.machine ≡ l.place * 65536;
  within : g.M.Machine.count l.machine ≤ (g.M.Machine.run l.fn.machine).end;
  are : AreMarks g.M.Machine.run g.M.Machine.count (g.M.Machine.run l.fn.machine) l.marks.items;
  long : length l.marks.items ≡ l.place;
}
