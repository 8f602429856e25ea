use Rattle.trace_check.proofs.OneAnswer.{one_answer}
use Rattle.trace_check.proofs.laws.one_answer.Goals as goal

pub returns : goal.returns
returns c oil src arr trace n one other a b = one_answer oil src arr trace n one other a b
