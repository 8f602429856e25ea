use Rattle.std.proofs.Common.{◌≡◌, length, ap, arith}
use Rattle.response_text.proofs.part_names.first_entry.Goals as goal

pub enter_counts-requires-clause-body : goal.enter_counts-requires-clause-body
enter_counts-requires-clause-body c =
    let lt = c.loop-task-test.true in
    let one : length c.items-task-end.result.now ≡ length c.args.config.now.tasks = ap length c.items-task-end.ensures in
    let body = c.requires.in_range.tasks.body c.loop-task.task (omega (arith, lt, one)) in
    (body.0, body.1.0, body.1.1)

pub enter_counts-requires-clause-frames : goal.enter_counts-requires-clause-frames
enter_counts-requires-clause-frames c = λ i d inside. (c.requires.in_range.bodies i d inside).frame
