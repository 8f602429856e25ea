use Rattle.response_laws.proofs.laws.expected_expiries_find_suspended.Goals as goal
use Rattle.response_laws.proofs.Expected.{expected_expiries_find_suspended}

pub returns : goal.returns
returns c = expected_expiries_find_suspended
