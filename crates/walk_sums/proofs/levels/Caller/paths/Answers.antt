use Rattle.std.proofs.Common.{sym, subst}
use Rattle.walk_sums.specs.Graph.{AreInside}
use Rattle.walk_sums.proofs.Filling.{to_items}
use Rattle.walk_sums.proofs.levels.Caller.paths.Goals as goal

pub trail_shape-requires-clause-inside : goal.trail_shape-requires-clause-inside
trail_shape-requires-clause-inside c = subst AreInside (sym c.deref-2.ensures.value) (to_items _ _ _ _ _ _ _ c.in_ok-ways.ensures)
