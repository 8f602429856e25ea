use Rattle.std.proofs.Common.{ℕ, ◌+◌, sym, subst, arith}
use Rattle.run_windows.specs.RunWindows.{IsLeastOf}
use Rattle.run_windows.proofs.Leasts.{Below, none_below, one_below_more}
use Rattle.response_reasons.specs.Calls.{HasCodedServer}
use Rattle.response_reasons.proofs.Servers.{all_coded}
use Rattle.response_reasons.proofs.calls.free_line.Goals as goal

pub loop-code-init : goal.loop-code-init
loop-code-init c = let w = c.args.walks.now in none_below (HasCodedServer w.config w.app c.args.costs.now c.args.h)

pub loop-code-preserved : goal.loop-code-preserved
loop-code-preserved c =
    let w = c.args.walks.now in
    let Kind : ℕ → ℕ → Type 0 = HasCodedServer w.config w.app c.args.costs.now c.args.h in
    subst (IsLeastOf (Below Kind (c.loop-code.code + 1))) (sym c.lesser-least.ensures)
    (one_below_more Kind c.loop-code.code c.loop-code.least c.in_ok-line.line c.loop-code.invariant c.in_ok-line.ensures)

pub returns : goal.returns
returns c =
    let w = c.args.walks.now in
    let test = c.loop-code-test.false in
    all_coded w.config w.app c.args.costs.now c.args.h c.loop-code.code c.loop-code.least (omega (arith, test)) c.loop-code.invariant
