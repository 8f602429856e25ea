use Rattle.holds_infer.proofs.Excluded.{ways_exclude}
use Rattle.holds_infer.proofs.laws.ways_exclude_lists.Goals as goal

pub returns : goal.returns
returns c = ways_exclude
