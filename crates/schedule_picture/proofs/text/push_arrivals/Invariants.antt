use Rattle.std.proofs.Common.{◌≡◌, ◌++◌, drop}
use Rattle.std.specs.List.{flat_map}
use Rattle.schedule_picture.specs.Picture.{admission_line, shown_arrivals}
use Rattle.schedule_picture.proofs.text.push_arrivals.Given as goal

abbrev pub invariant-loop-admission : goal.invariant-loop-admission
invariant-loop-admission l =
    l.text.items ++ flat_map (admission_line l.scale l.name l.middle) (shown_arrivals l.scale (drop l.admission-index l.admissions) l.line)
    ≡ l.fn.text.items ++ flat_map (admission_line l.scale l.name l.middle) (shown_arrivals l.scale l.admissions l.line)
