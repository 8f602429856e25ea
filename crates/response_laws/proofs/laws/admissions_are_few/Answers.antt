use Rattle.response_laws.proofs.laws.admissions_are_few.Goals as goal
use Rattle.response_laws.proofs.Arriving.{admissions_are_few}

pub returns : goal.returns
returns c = admissions_are_few
