use Rattle.std.proofs.Common.{◌≡◌, ◌<◌, ◌≤◌}
use Rattle.std.specs.Option.{ForSome}
use Rattle.sloth_base.specs.Choose.{best_line_below}
use Rattle.sloth_base.specs.MemoryMap.{line_count}
use Rattle.irq_ctrl.proofs.line_bytes.LineBytes.choose.Given as goal

abbrev pub invariant-loop-line : goal.invariant-loop-line
invariant-loop-line l =
    (l.best ≡ best_line_below l.self l.level l.line) × ForSome l.best (λ b. b < line_count) × (l.line ≤ line_count)
