use Rattle.std.proofs.Common.{◌≡◌, ◌+◌, ◌-◌}
use Rattle.symbol_image.specs.Frames.{first_loss}
use Rattle.symbol_image.proofs.frames.first_loss.Given as goal

abbrev pub invariant-loop-k : goal.invariant-loop-k
invariant-loop-k l = first_loss l.what l.memory l.base (l.from + l.k) (l.left - l.k) ≡ first_loss l.what l.memory l.base l.from l.left
