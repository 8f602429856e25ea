use Rattle.response_text.proofs.OneTaskText.{one_task_text}
use Rattle.response_text.proofs.laws.one_task_text.Goals as goal

pub returns : goal.returns
returns c = one_task_text
