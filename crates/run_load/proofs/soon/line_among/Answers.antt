use Rattle.std.proofs.Common.{◌∙◌, ℕ, List, [], sym}
use Rattle.std.specs.Borrow.{Bor}
use Rattle.run_load.proofs.LineNumbers.{found-at, passed-by}
use Rattle.run_load.proofs.soon.line_among.Goals as goal

pub returns-then-is_found : goal.returns-then-is_found
returns-then-is_found c =
    let none : Bor (List ℕ) = record { ref_ptr = (0, 0); now = [] } in
    found-at c.args.lines.now c.loop-n.left c.loop-n.n none c.loop-n-test.true (sym c.is_found.ensures ∙ c.if-is_found.true) ∙ c.loop-n.invariant

pub loop-n-preserved : goal.loop-n-preserved
loop-n-preserved c =
    let none : Bor (List ℕ) = record { ref_ptr = (0, 0); now = [] } in
    passed-by c.args.lines.now c.loop-n.left c.loop-n.n none c.loop-n-test.true _ (sym c.is_found.ensures ∙ c.if-is_found.false) c.left_behind-left.ensures ∙ c.loop-n.invariant
