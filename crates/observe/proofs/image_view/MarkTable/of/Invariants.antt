use Rattle.observe.specs.MarkTable.{AreNumbers}
use Rattle.observe.proofs.image_view.MarkTable.of.Given as goal

-- the numbers so far tell of the marks so far
abbrev pub invariant-loop-index : goal.invariant-loop-index
invariant-loop-index l = AreNumbers l.marks l.from l.numbers.items l.index
