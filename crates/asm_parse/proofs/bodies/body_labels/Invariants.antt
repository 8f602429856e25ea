use Rattle.std.proofs.Common.{◌≡◌, ◌≤◌, ◌+◌, ◌++◌, drop}
use Rattle.asm_parse.specs.Apps.{labels_from}
use Rattle.asm_parse.proofs.bodies.body_labels.Given as goal

abbrev pub invariant-loop-n : goal.invariant-loop-n
invariant-loop-n l = record {
  found : l.found.items ++ labels_from l.config l.scope l.labels (l.number + l.n + 1) l.items (drop l.n l.lines) ≡ labels_from l.config l.scope l.labels (l.number + 1) 0 l.lines;
  few : l.items ≤ l.n;
}
