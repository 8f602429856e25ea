use Rattle.std.proofs.Common.{ℕ, Option, sym, subst}
use Rattle.run_windows.specs.RunWindows.{IsNumber}
use Rattle.run_windows.proofs.Within.{number_none}
use Rattle.run_windows.proofs.responses.number.Goals as goal

pub returns-in_err-bound-clause-number : goal.returns-in_err-bound-clause-number
returns-in_err-bound-clause-number c =
    let r = c.args.run.now in
    subst (λ (o : Option ℕ). IsNumber r.longest r.late r.costs c.args.h c.args.opens c.args.start o) (sym c.from_residual.ensures)
    (number_none r.longest r.late r.costs c.args.h c.args.opens c.args.start c.window_of-window.result c.window_of-window.ensures c.in_err-bound.ensures.bound)
