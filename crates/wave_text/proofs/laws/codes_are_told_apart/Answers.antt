use Rattle.wave_text.proofs.Codes.{printable, apart}
use Rattle.wave_text.proofs.laws.codes_are_told_apart.Goals as goal

pub returns-clause-printable : goal.returns-clause-printable
returns-clause-printable c = printable

pub returns-clause-apart : goal.returns-clause-apart
returns-clause-apart c = apart
