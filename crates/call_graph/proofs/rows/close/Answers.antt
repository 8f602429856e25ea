use Rattle.std.proofs.Common.{◌≡◌, ℕ, ◌<◌, length, subst, arith}
use Rattle.call_graph.specs.Rows.{row_has}
use Rattle.call_graph.proofs.Closure.{via, closed}
use Rattle.call_graph.proofs.rows.close.Goals as goal

pub returns : goal.returns
returns c =
    let k : c.loop-k.k ≡ length c.args.rows.now = omega (arith, c.loop-k-test.false, c.loop-k.auto.k-end) in
    closed c.args.rows.now c.loop-k.rows c.loop-k.auto.rows
    (subst (λ (n : ℕ). (i j : ℕ) → i < length c.args.rows.now → row_has c.loop-k.rows i j ≡ via c.args.rows.now n i j) k c.loop-k.invariant)
