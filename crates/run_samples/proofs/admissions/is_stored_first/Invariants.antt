use Rattle.std.proofs.Common.{◌≡◌, drop}
use Rattle.run_samples.specs.Admissions.{is_stored_first}
use Rattle.run_samples.proofs.admissions.is_stored_first.Given as goal

abbrev pub invariant-loop-access : goal.invariant-loop-access
invariant-loop-access l = is_stored_first l.line (drop l.access-index l.behind) ≡ is_stored_first l.line l.behind
