use Rattle.app_gen.specs.Source.{waking_text}
use Rattle.text_pieces.proofs.Ranges.{put_more}
use Rattle.app_gen.proofs.source.put_wakes.Goals as goal

pub loop-task-preserved : goal.loop-task-preserved
loop-task-preserved c = put_more waking_text _ _ _ c.loop-task.task c.args.tasks c.loop-task-test.true c.in_ok-put_wake.ensures c.loop-task.invariant
