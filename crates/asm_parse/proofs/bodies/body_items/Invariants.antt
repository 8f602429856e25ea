use Rattle.std.proofs.Common.{◌≡◌, ◌+◌, ◌++◌, drop}
use Rattle.asm_parse.specs.Apps.{items_from}
use Rattle.asm_parse.proofs.bodies.body_items.Given as goal

abbrev pub invariant-loop-n : goal.invariant-loop-n
invariant-loop-n l = l.items.items ++ items_from l.config l.scope l.labels (l.number + l.n + 1) (drop l.n l.lines) ≡ items_from l.config l.scope l.labels (l.number + 1) l.lines
