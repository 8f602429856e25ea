use Rattle.response_text.specs.Reasons.{AreReasons}
use Rattle.response_text.proofs.text.reasons.Given as goal

abbrev pub invariant-loop-task : goal.invariant-loop-task
invariant-loop-task l = AreReasons l.walks.config l.walks.app l.costs l.responses l.task l.reasons.items
