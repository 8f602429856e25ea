use Rattle.std.proofs.Common.{◌≡◌, ◌∙◌, ◌<◌, ℕ, List, length, Option, None, Some, ap, sym, subst}
use Rattle.sloth_base.specs.declared.config.TaskDecl.{TaskDecl}
use Rattle.run_windows.specs.RunWindows.{IsLeastOf}
use Rattle.walk_sums.specs.declared.levels.Kind.TheVariants as kinds
use Rattle.response_reasons.specs.Loops.{HasLoopAt}
use Rattle.response_reasons.specs.LoopCode.{LoopCode, line_at, IsLeastLine}
use Rattle.response_reasons.proofs.Sections.{of_whole, of_own}
use Rattle.response_reasons.proofs.loops.section_line.Goals as goal

pub returns-then-task : goal.returns-then-task
returns-then-task c =
    let w = c.args.walks.now in
    let lines = c.in_ok-whole.whole.items in
    let b = c.body.result in
    let known = subst (λ (l : LoopCode). b < length l.walks.app.funcs) (sym c.of-loops.ensures) c.body.ensures.known in
    let least = subst (λ (l : LoopCode). IsLeastLine l None b (line_at lines b)) c.of-loops.ensures (c.in_ok-whole.ensures.each b known) in
    let same : c.numbered_line.result ≡ line_at lines b = c.numbered_line.ensures ∙ ap (λ (l : List (Option ℕ)). line_at l b) c.deref-then-task.ensures.value in
    of_whole w.config w.app c.args.weights.now c.args.task b c.body.ensures.is c.numbered_line.result c.args.h (sym (ap (λ (d : TaskDecl). d.non) c.task.ensures.is) ∙ c.if-task.true)
    (subst (IsLeastOf (HasLoopAt w.config w.app c.args.weights.now kinds.Sections None b)) (sym same) least)

pub returns : goal.returns
returns c =
    let w = c.args.walks.now in
    let lines = c.in_ok-own.own.items in
    let b = c.body-2.result in
    let known = subst (λ (l : LoopCode). b < length l.walks.app.funcs) (sym c.of-loops.ensures) c.body-2.ensures.known in
    let least = subst (λ (l : LoopCode). IsLeastLine l (Some c.priority.result) b (line_at lines b)) c.of-loops.ensures (c.in_ok-own.ensures.each b known) in
    let same : c.numbered_line-2.result ≡ line_at lines b = c.numbered_line-2.ensures ∙ ap (λ (l : List (Option ℕ)). line_at l b) c.deref-3.ensures.value in
    of_own w.config w.app c.args.weights.now c.args.task b c.body-2.ensures.is c.numbered_line-2.result c.args.h (sym (ap (λ (d : TaskDecl). d.non) c.task.ensures.is) ∙ c.if-task.false)
    (subst (λ p. IsLeastOf (HasLoopAt w.config w.app c.args.weights.now kinds.Sections (Some p) b) c.numbered_line-2.result) c.priority.ensures
    (subst (IsLeastOf (HasLoopAt w.config w.app c.args.weights.now kinds.Sections (Some c.priority.result) b)) (sym same) least))
