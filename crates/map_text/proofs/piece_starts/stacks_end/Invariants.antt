use Rattle.std.proofs.Common.{◌≡◌, drop}
use Rattle.map_text.specs.Borders.{stacks_end}
use Rattle.map_text.proofs.piece_starts.stacks_end.Given as goal

abbrev pub invariant-loop-stack : goal.invariant-loop-stack
invariant-loop-stack l = stacks_end (drop l.stack-index l.stacks) l.top ≡ stacks_end l.stacks l.end
