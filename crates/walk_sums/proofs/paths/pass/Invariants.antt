use Rattle.std.proofs.Common.{◌-◌, length}
use Rattle.walk_sums.specs.Loops.{AreAttained, HasGrown}
use Rattle.walk_sums.proofs.paths.pass.Given as goal

abbrev pub invariant-loop-number : goal.invariant-loop-number
invariant-loop-number l = record {
  attained : AreAttained l.ways l.steps l.ends l.table;
  grown : HasGrown l.ways l.steps l.ends l.initial.table l.table (length l.ways - l.number) l.grown;
}
