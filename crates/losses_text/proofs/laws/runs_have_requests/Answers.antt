use Rattle.losses_text.proofs.Along.{runs_have_requests}
use Rattle.losses_text.proofs.laws.runs_have_requests.Goals as goal

pub returns : goal.returns
returns c = runs_have_requests
