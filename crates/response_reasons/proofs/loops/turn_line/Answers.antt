use Rattle.std.proofs.Common.{◌≡◌, ◌∙◌, ◌<◌, ℕ, List, length, Option, None, ap, sym, subst}
use Rattle.run_windows.specs.RunWindows.{IsLeastOf}
use Rattle.response_reasons.specs.Loops.{HasLoopAt}
use Rattle.response_reasons.specs.LoopCode.{LoopCode, line_at, IsLeastLine}
use Rattle.response_reasons.proofs.Sections.{of_turns}
use Rattle.response_reasons.proofs.loops.turn_line.Goals as goal

pub returns : goal.returns
returns c =
    let w = c.args.walks.now in
    let lines = c.in_ok-lines.lines.items in
    let b = c.body.result in
    let known = subst (λ (l : LoopCode). b < length l.walks.app.funcs) (sym c.of-loops.ensures) c.body.ensures.known in
    let least = subst (λ (l : LoopCode). IsLeastLine l None b (line_at lines b)) c.of-loops.ensures (c.in_ok-lines.ensures.each b known) in
    let same : c.numbered_line.result ≡ line_at lines b = c.numbered_line.ensures ∙ ap (λ (l : List (Option ℕ)). line_at l b) c.deref-2.ensures.value in
    of_turns w.config w.app c.args.weights.now c.args.task b c.body.ensures.is c.numbered_line.result c.args.kind
    (subst (IsLeastOf (HasLoopAt w.config w.app c.args.weights.now c.args.kind None b)) (sym same) least)
