use Rattle.std.proofs.Common.{◌≡◌, ◌∙◌, sym, arith}
use Rattle.std.proofs.lemmas.Fmt.{decimal_injective}
use Rattle.trace_text.proofs.events.number_below.Goals as goal

pub returns-then-n-limit-clause-none : goal.returns-then-n-limit-clause-none
returns-then-n-limit-clause-none c n le e =
    let is = c.in-Some.ensures.some in
    let word = is.1 in
    let over = c.if-n-limit.true in
    let same : c.in-Some.n ≡ n = decimal_injective c.in-Some.n n (omega (arith, word)) (omega (arith, le, over, word)) (sym is.0 ∙ e) in omega (arith, same, le, over)
