use Rattle.walk_sums.proofs.Filling.{paths_inside}
use Rattle.walk_sums.proofs.levels.Caller.leaving_trails.Goals as goal

pub longest_sizes-requires-clause-inside : goal.longest_sizes-requires-clause-inside
longest_sizes-requires-clause-inside c = paths_inside c.args.self.now c.args.paths.now c.requires.paths
