use Rattle.response_text.specs.ResponseText.{AreResponses}
use Rattle.response_text.proofs.text.responses.Given as goal

abbrev pub invariant-loop-task : goal.invariant-loop-task
invariant-loop-task l = AreResponses l.run.longest l.run.late l.run.costs l.task l.responses.items
