use Rattle.bounds_text.proofs.OneLowerCounts.{one_lower_counts_text}
use Rattle.bounds_text.proofs.laws.one_lower_counts_text.Goals as goal

pub returns : goal.returns
returns c = one_lower_counts_text
