use Rattle.std.proofs.Common.{drop}
use Rattle.sloth_region.specs.Region.{first_free_address}
use Rattle.mem_map.specs.Run.{run}
use Rattle.mem_map.proofs.RunStep.{Kept}
use Rattle.mem_map.proofs.zones.place_all.Given as goal

abbrev pub invariant-loop-len : goal.invariant-loop-len
invariant-loop-len l =
    Kept l.align l.initial.region l.region l.extents.items (drop l.len-index l.lengths)
    (run l.align (first_free_address l.initial.region.base l.initial.region.placed) l.lengths)
