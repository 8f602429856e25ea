use Rattle.std.proofs.Common.{◌≡◌, ◌++◌, drop}
use Rattle.mem_map.specs.Sections.{marks_of}
use Rattle.mem_map.proofs.marking.all_marks.Given as goal

abbrev pub invariant-loop-block : goal.invariant-loop-block
invariant-loop-block l = l.marks.items ++ marks_of (drop l.block-index l.blocks) ≡ marks_of l.blocks
