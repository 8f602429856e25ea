use Rattle.shares_text.proofs.Kept.{keeps_sections}
use Rattle.shares_text.proofs.laws.runs_keep_sections.Goals as goal

pub returns : goal.returns
returns c = keeps_sections
