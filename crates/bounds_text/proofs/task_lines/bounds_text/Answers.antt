use Rattle.std.proofs.lemmas.Result.{IfOk-weaker}
use Rattle.bounds_text.proofs.task_lines.bounds_text.Goals as goal

pub returns-clause-text : goal.returns-clause-text
returns-clause-text c =
    let code = c.in_ok-checked.checked.verified in
    IfOk-weaker c.checked_text.result _ _ (λ text has. record { config = code.config; app = code.app; accepted = c.in_ok-checked.ensures.accepted; has_lines = has })
    c.checked_text.ensures.text
