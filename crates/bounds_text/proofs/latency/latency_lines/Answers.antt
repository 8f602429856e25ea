use Rattle.std.proofs.lemmas.Result.{IfOk-weaker}
use Rattle.bounds_text.proofs.latency.latency_lines.Goals as goal

pub returns-clause-text : goal.returns-clause-text
returns-clause-text c =
    let code = c.in_ok-checked.checked.verified in
    IfOk-weaker c.checked_latency.result _ _ (λ text has. record { config = code.config; app = code.app; accepted = c.in_ok-checked.ensures.accepted; has_latency = has })
    c.checked_latency.ensures.text
