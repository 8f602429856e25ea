use Rattle.std.proofs.Common.{◌∙◌, List, ap, subst}
use Rattle.std.proofs.lemmas.Result.{IfOk-weaker}
use Rattle.bound_rules.specs.declared.bound.BodyWeights.{BodyWeights}
use Rattle.run_windows.specs.RunWindows.{IsLeastOf}
use Rattle.walk_sums.specs.Counted.{counted_weights}
use Rattle.response_reasons.specs.Reasons.{HasRoundLoop, HasCountedLoop}
use Rattle.response_reasons.proofs.reasons.counted_line.Goals as goal

pub returns : goal.returns
returns c =
    let w = c.args.walks.now in
    let k = c.args.k in
    let is = c.deref.ensures.value ∙ (c.in_ok-weights.ensures.is ∙ ap (counted_weights c.args.counted) c.app.ensures.is) in
    IfOk-weaker c.round_line.result (IsLeastOf (HasRoundLoop w.config w.app c.deref.result.now k)) (IsLeastOf (HasCountedLoop w.config w.app c.args.counted k))
    (λ line l. subst (λ (ws : List BodyWeights). IsLeastOf (HasRoundLoop w.config w.app ws k) line) is l) c.round_line.ensures
