use Rattle.sim_routines.proofs.entries.resume_law.Goals as goal
use Rattle.sim_routines.proofs.Resume as resume

pub returns : goal.returns
returns c = λ b state end s t place own fits k sane declared e some has_body x2 link ran effect.
    resume.resume_law b state end s t place own fits k sane declared e some has_body x2 link ran effect
