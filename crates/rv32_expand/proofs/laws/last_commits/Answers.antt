use Rattle.rv32_expand.proofs.Committing.{last_commits}
use Rattle.rv32_expand.proofs.laws.last_commits.Goals as goal

pub returns : goal.returns
returns c = last_commits
