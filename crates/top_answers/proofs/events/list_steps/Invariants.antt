use Rattle.std.proofs.Common.{◌≡◌, ◌≤◌, []}
use Rattle.observe.specs.Progress.{expected_count, remaining}
use Rattle.top_answers.proofs.events.list_steps.Given as goal

abbrev pub invariant-loop-line : goal.invariant-loop-line
invariant-loop-line l = record { expected : expected_count l.observer ≡ l.count; drained : remaining l.observer ≡ []; few : l.count ≤ 100 }
