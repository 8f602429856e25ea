use Rattle.std.proofs.lemmas.Result.{IfOk-weaker}
use Rattle.bounds_text.proofs.task_lines.lower_count_lines.Goals as goal

pub returns-clause-text : goal.returns-clause-text
returns-clause-text c =
    let code = c.in_ok-checked.checked.verified in
    IfOk-weaker c.checked_counts.result _ _ (λ text has. record { config = code.config; app = code.app; accepted = c.in_ok-checked.ensures.accepted; has_counts = has })
    c.checked_counts.ensures.text
