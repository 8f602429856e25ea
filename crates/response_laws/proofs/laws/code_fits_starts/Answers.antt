use Rattle.response_laws.proofs.laws.code_fits_starts.Goals as goal
use Rattle.response_laws.proofs.CodeStarts.{code_fits_starts}

pub returns : goal.returns
returns c = code_fits_starts
