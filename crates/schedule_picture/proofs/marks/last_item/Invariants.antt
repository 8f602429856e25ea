use Rattle.std.proofs.Common.{◌≡◌, ◌-◌}
use Rattle.schedule_picture.specs.Items.{last_item}
use Rattle.schedule_picture.proofs.marks.last_item.Given as goal

abbrev pub invariant-loop-behind : goal.invariant-loop-behind
invariant-loop-behind l = last_item l.image l.addresses l.from (l.to - l.from) ≡ last_item l.image l.addresses l.from (l.to - l.from - l.behind)
