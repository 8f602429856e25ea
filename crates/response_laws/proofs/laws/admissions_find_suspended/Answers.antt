use Rattle.response_laws.proofs.laws.admissions_find_suspended.Goals as goal
use Rattle.response_laws.proofs.Admissions.{admissions_find_suspended}

pub returns : goal.returns
returns c = admissions_find_suspended
