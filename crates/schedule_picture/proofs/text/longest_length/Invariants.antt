use Rattle.std.proofs.Common.{◌≡◌, ◌≤◌}
use Rattle.sloth_base.specs.Limits.{name_limit}
use Rattle.schedule_picture.specs.Picture.{longest_length}
use Rattle.schedule_picture.proofs.text.longest_length.Given as goal

abbrev pub invariant-loop-i : goal.invariant-loop-i
invariant-loop-i l = (l.longest ≡ longest_length l.names l.i) × (6 ≤ l.longest) × (l.longest ≤ name_limit)
