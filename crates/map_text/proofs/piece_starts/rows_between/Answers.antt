use Rattle.map_text.proofs.OnePieceRow.{between_more}
use Rattle.map_text.proofs.piece_starts.rows_between.Goals as goal

pub loop-i-preserved : goal.loop-i-preserved
loop-i-preserved c =
    between_more c.args.starts.now c.args.end c.loop-i.i c.loop-i.rows.items _ _ c.first_start.result c.loop-i-test.true c.first_start.ensures c.in_ok-push_row.ensures c.loop-i.invariant
