use Rattle.std.proofs.Common.{◌≡◌, length}
use Rattle.sloth_build.specs.Prologues.{IsPrologue, Each}
use Rattle.sloth_build.proofs.gathering.prologues.Given as goal

abbrev pub invariant-loop-task : goal.invariant-loop-task
invariant-loop-task l = (length l.blocks.items ≡ l.task) × Each (IsPrologue l.config l.app l.levels l.map) l.blocks.items
