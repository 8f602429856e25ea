use Rattle.app_gen.specs.Oil.{event_object}
use Rattle.text_pieces.proofs.Ranges.{put_more}
use Rattle.app_gen.proofs.oil.put_events.Goals as goal

pub loop-task-preserved : goal.loop-task-preserved
loop-task-preserved c = put_more event_object _ _ _ c.loop-task.task c.args.tasks c.loop-task-test.true c.in_ok-put_event.ensures c.loop-task.invariant
