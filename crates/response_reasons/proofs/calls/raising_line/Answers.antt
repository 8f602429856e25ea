use Rattle.std.proofs.Common.{◌≡◌, ◌∙◌, ℕ, List, Option, ap, sym, subst}
use Rattle.sloth_base.specs.declared.service.Service.TheVariants as service
use Rattle.walk_sums.specs.declared.counted.Counted.TheVariants as counts
use Rattle.response_reasons.specs.LoopCode.{line_at}
use Rattle.response_reasons.specs.Calls.{IsCallLine}
use Rattle.response_reasons.proofs.calls.raising_line.Goals as goal

pub returns : goal.returns
returns c =
    let w = c.args.walks.now in
    let lines = c.in_ok-lines.lines.items in
    let b = c.body.result in
    let same : c.numbered_line.result ≡ line_at lines b = c.numbered_line.ensures ∙ ap (λ (l : List (Option ℕ)). line_at l b) c.deref.ensures.value in
    subst (λ n. IsCallLine w.app (counts.Calls service.GetResource) n c.numbered_line.result) c.body.ensures.is
    (subst (IsCallLine w.app (counts.Calls service.GetResource) b) (sym same) (c.in_ok-lines.ensures.each b c.body.ensures.known))
