use Rattle.std.proofs.Common.{◌-◌, suc, length, arith, sym, ◌∙◌, ◌≡◌}
use Rattle.std.proofs.lemmas.Bool.{eqb-false}
use Rattle.task_verify.proofs.Lists.{is_last_at}
use Rattle.task_verify.proofs.held_resources.is_last.Goals as goal

pub returns : goal.returns
returns c =
    let held = c.args.held.now in
    let n = eqb-false (length held) 0 (sym c.is_empty.ensures ∙ c.if-is_empty.false) in
    let l : length held ≡ suc (length held - 1) = omega (arith, n) in
    sym (is_last_at c.args.resource (length held - 1) held l)
