use Rattle.std.proofs.Common.{◌≡◌, ◌++◌, length}
use Rattle.run_samples.specs.Admissions.{admissions_of}
use Rattle.run_samples.proofs.admissions.push_admissions.Given as goal

abbrev pub invariant-loop-access : goal.invariant-loop-access
invariant-loop-access l = l.all.items ++ admissions_of l.seen l.rest ≡ l.fn.all.items ++ admissions_of l.seen l.accesses

abbrev pub decreases-loop-access : goal.decreases-loop-access
decreases-loop-access l = length l.rest
