use Rattle.std.proofs.Common.{◌∙◌, ℕ, ◌+◌, sym, ap}
use Rattle.rv32_expand.specs.Long.{size}
use Rattle.rv32_expand.proofs.Counts.{size_invoke}
use Rattle.rv32_expand.proofs.rows.size.Goals as goal

pub returns-in-Invoke-clause-is : goal.returns-in-Invoke-clause-is
returns-in-Invoke-clause-is c =
    ap (λ (n : ℕ). 4 + n) c.frame_words.ensures ∙ sym (size_invoke c.args.app.now c.args.long c.in-Invoke.func)
    ∙ ap (size c.args.app.now c.args.long) (sym c.in-Invoke.is)
