use Rattle.std.proofs.Common.{rules, ◌<◌, length}
use Rattle.mem_map.proofs.SmallLengths.{has_body, one_more}
use Rattle.mem_map.proofs.all_lengths.prologue_lengths.Goals as goal

pub start_length-requires-clause-body : goal.start_length-requires-clause-body
start_length-requires-clause-body c =
    let l : c.loop-task.task < length c.args.config.now.tasks = search rules in
    has_body c.args.config.now c.args.app.now c.requires c.loop-task.task l

pub loop-task-preserved : goal.loop-task-preserved
loop-task-preserved c =
    one_more c.args.config.now c.args.app.now c.loop-task.lengths.items c.push.new.self.items c.loop-task.task c.start_length.result c.in_ok-push.ensures.items c.loop-task.invariant
    c.start_length.ensures
