use Rattle.map_text.proofs.OneRow.{numbered_more}
use Rattle.map_text.proofs.piece_starts.push_numbered.Goals as goal

pub loop-number-preserved : goal.loop-number-preserved
loop-number-preserved c =
    numbered_more c.args.kind c.args.addresses.now c.loop-number.number c.loop-number.starts.items _ _ c.loop-number-test.true c.in_ok-push.ensures.items
    c.loop-number.invariant
