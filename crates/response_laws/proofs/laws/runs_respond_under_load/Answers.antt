use Rattle.response_laws.proofs.laws.runs_respond_under_load.Goals as goal
use Rattle.response_laws.proofs.Loaded.{respond_under_load}

pub returns : goal.returns
returns c = respond_under_load
