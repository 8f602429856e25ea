use Rattle.std.proofs.Common.{◌+◌, ◌∙◌, ◌++◌, List, get_or, ap}
use Rattle.std.proofs.lemmas.List.{take_rest}
use Rattle.map_text.specs.declared.piece_starts.Row.{Row}
use Rattle.map_text.specs.Totals.{between_rows}
use Rattle.map_text.proofs.OneRow.{no_row}
use Rattle.map_text.proofs.OneTotal.{filled_more}
use Rattle.map_text.proofs.lines.filled_rows.Goals as goal

pub loop-n-preserved : goal.loop-n-preserved
loop-n-preserved c =
    let rows = c.args.rows.now in
    let n = c.loop-n.n in
    filled_more rows n c.loop-n.filled.items _ _ _ c.loop-n-test.true c.in_ok-push.ensures.items
    (c.in_ok-push_between.ensures ∙ ap (λ (rest : List Row). c.push.new.self.items ++ between_rows (get_or rows n no_row) rest) (take_rest rows (n + 1)))
    c.loop-n.invariant
