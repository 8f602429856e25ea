use Rattle.run_counts.proofs.Gaps.{short_gaps}
use Rattle.run_counts.proofs.laws.runs_have_short_gaps.Goals as goal

pub returns : goal.returns
returns c = short_gaps
