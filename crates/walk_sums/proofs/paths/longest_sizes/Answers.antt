use Rattle.std.proofs.Common.{sym, subst}
use Rattle.walk_sums.specs.Graph.{AreInside}
use Rattle.walk_sums.proofs.paths.longest_sizes.Goals as goal

pub settled-requires-clause-inside : goal.settled-requires-clause-inside
settled-requires-clause-inside c = subst AreInside (sym c.items-ways.ensures) c.requires.inside
