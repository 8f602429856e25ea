use Rattle.std.proofs.Common.{◌≡◌, ◌≤◌, ◌*◌, take}
use Rattle.std.specs.List.{sum_by}
use Rattle.sloth_base.proofs.Kept.{Loop}
use Rattle.asm_parse.specs.NameFaults.{items_in, BodyNameFault}
use Rattle.asm_parse.proofs.body_faults.body_faults.Given as goal

abbrev pub invariant-loop-n : goal.invariant-loop-n
invariant-loop-n l = record {
  finds : Loop (BodyNameFault l.scope) l.bodies l.n l.least;
  items : l.items ≡ sum_by items_in (take l.n l.bodies);
  few : l.items ≤ 4294967295 * l.n;
}
