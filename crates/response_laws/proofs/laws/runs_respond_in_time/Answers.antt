use Rattle.response_laws.proofs.laws.runs_respond_in_time.Goals as goal
use Rattle.response_laws.proofs.Responding.{respond_in_time}

pub returns : goal.returns
returns c = respond_in_time
