use Rattle.run_counts.proofs.Gaps.{preempts_within}
use Rattle.run_counts.proofs.laws.runs_preempt_within_items.Goals as goal

pub returns : goal.returns
returns c = preempts_within
