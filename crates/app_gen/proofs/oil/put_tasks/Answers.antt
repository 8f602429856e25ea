use Rattle.app_gen.specs.Oil.{task_object}
use Rattle.text_pieces.proofs.Ranges.{put_more}
use Rattle.app_gen.proofs.oil.put_tasks.Goals as goal

pub loop-task-preserved : goal.loop-task-preserved
loop-task-preserved c = put_more task_object _ _ _ c.loop-task.task c.args.tasks c.loop-task-test.true c.in_ok-put_task.ensures c.loop-task.invariant
