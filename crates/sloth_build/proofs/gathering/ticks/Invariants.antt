use Rattle.std.proofs.Common.{◌≡◌, length}
use Rattle.sloth_build.specs.Prologues.{Each}
use Rattle.sloth_build.specs.Ticks.{IsTickBlock}
use Rattle.sloth_build.proofs.gathering.ticks.Given as goal

abbrev pub invariant-loop-counter : goal.invariant-loop-counter
invariant-loop-counter l = (length l.blocks.items ≡ l.counter) × Each (IsTickBlock l.config l.map) l.blocks.items
