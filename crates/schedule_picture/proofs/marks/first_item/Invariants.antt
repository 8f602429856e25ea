use Rattle.std.proofs.Common.{◌≡◌, ◌-◌}
use Rattle.schedule_picture.specs.Items.{first_item}
use Rattle.schedule_picture.proofs.marks.first_item.Given as goal

abbrev pub invariant-loop-place : goal.invariant-loop-place
invariant-loop-place l = first_item l.image l.addresses l.from (l.to - l.from) ≡ first_item l.image l.addresses l.place (l.to - l.place)
