use Rattle.std.proofs.Common.{◌≡◌, ◌+◌, ◌<◌, ◌≤◌, ℕ, false, length, ap, sym, subst, arith}
use Rattle.run_windows.specs.RunWindows.{IsLeastOf}
use Rattle.run_windows.specs.Windows.{is_lower}
use Rattle.run_windows.proofs.Leasts.{Below, one_below_more}
use Rattle.response_reasons.specs.Reasons.{HasSectionMakingLoop, HasLevelLoop}
use Rattle.response_reasons.proofs.reasons.level_line.Goals as goal

pub loop-j-preserved : goal.loop-j-preserved
loop-j-preserved c =
    let w = c.args.walks.now in
    let Kind : ℕ → ℕ → Type 0 = λ j line. (is_lower c.args.costs.now c.args.h j ≡ false) × HasSectionMakingLoop w.config w.app c.args.h c.args.k j line in
    subst (IsLeastOf (Below Kind (c.loop-j.j + 1))) (sym c.lesser-least.ensures)
    (one_below_more Kind c.loop-j.j c.loop-j.least c.in_ok-line.line c.loop-j.invariant c.in_ok-line.ensures)

pub returns : goal.returns
returns c =
    let w = c.args.walks.now in
    let costs = c.args.costs.now in
    let over = c.loop-j-test.false in
    let most = c.loop-j.auto.j-end in
    let one : length c.items-j-end.result.now ≡ length costs.tasks = ap length c.items-j-end.ensures in
    let same : c.loop-j.j ≡ length costs.tasks = omega (arith, over, most, one) in
    subst (λ n. IsLeastOf (HasLevelLoop w.config w.app costs n c.args.h c.args.k) c.loop-j.least) same c.loop-j.invariant
