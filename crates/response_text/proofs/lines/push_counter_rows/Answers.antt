use Rattle.response_text.proofs.FirstTasks.{rows_begun, rows_longer}
use Rattle.response_text.proofs.lines.push_counter_rows.Goals as goal

pub loop-counter-init : goal.loop-counter-init
loop-counter-init c = rows_begun c.args.config.now c.args.load.now c.args.tick c.args.text.now.items

pub loop-counter-preserved : goal.loop-counter-preserved
loop-counter-preserved c =
    rows_longer c.args.config.now c.args.load.now c.args.tick c.loop-counter.counter _ _ _ c.loop-counter.invariant c.in_ok-push_counter_row.ensures
