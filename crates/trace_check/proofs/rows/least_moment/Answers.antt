use Rattle.std.proofs.Common.{◌∙◌, ℕ, Bool, Option, cond, get_or, sym, ap}
use Rattle.std.specs.Prelude.{◌==◌}
use Rattle.std.specs.Int.{bit_at}
use Rattle.trace_check.specs.Rows.{lesser_limit}
use Rattle.trace_check.proofs.Within.{no_moment, one_moment_more}
use Rattle.trace_check.proofs.rows.least_moment.Goals as goal

pub loop-line-init : goal.loop-line-init
loop-line-init c = sym (no_moment (λ u. bit_at c.args.row u == 1) c.args.moments.now)

pub loop-line-preserved : goal.loop-line-preserved
loop-line-preserved c =
    let row : ℕ → Bool = λ u. bit_at c.args.row u == 1 in
    let line = c.loop-line.line in
    c.row_limit-limit.ensures
    ∙ ap (λ (o : Option ℕ). cond (row line) (lesser_limit o (get_or c.args.moments.now line 0)) o) c.loop-line.invariant
    ∙ sym (one_moment_more row c.args.moments.now line)
