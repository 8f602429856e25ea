use Rattle.std.proofs.Common.{Bool, subst}
use Rattle.std.proofs.lemmas.Result.{IfOk-weaker}
use Rattle.response_reasons.specs.Reasons.{IsReasonIf}
use Rattle.response_text.specs.Reasons.{IsReason}
use Rattle.response_text.proofs.text.reason.Goals as goal

pub returns : goal.returns
returns c =
    let w = c.args.walks.now in
    let costs = c.args.costs.now in
    IfOk-weaker c.reason_if.result (IsReasonIf w.config w.app costs c.args.h c.is_numberless.result) (IsReason w.config w.app costs c.args.h c.args.response)
    (λ why is. subst (λ (b : Bool). IsReasonIf w.config w.app costs c.args.h b why) c.is_numberless.ensures is) c.reason_if.ensures
