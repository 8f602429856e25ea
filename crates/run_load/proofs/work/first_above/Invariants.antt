use Rattle.std.proofs.Common.{◌≡◌, ◌≤◌, drop, None}
use Rattle.std.specs.Prelude.{IfSome}
use Rattle.run_load.specs.Work.{first_above}
use Rattle.run_load.proofs.work.first_above.Given as goal

abbrev pub invariant-loop-place : goal.invariant-loop-place
invariant-loop-place l = record {
  rest : first_above l.cuts l.task l.limit l.begun l.place (drop l.place l.watched) ≡ first_above l.cuts l.task l.limit None 0 l.watched;
  within : IfSome l.begun (λ counts. counts ≤ 4294967295);
}
