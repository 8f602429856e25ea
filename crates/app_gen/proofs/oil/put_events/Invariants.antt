use Rattle.std.proofs.Common.{◌≡◌, ◌++◌, ◌-◌}
use Rattle.std.specs.List.{flat_map, range_with_len}
use Rattle.app_gen.specs.Oil.{event_object}
use Rattle.app_gen.proofs.oil.put_events.Given as goal

abbrev pub invariant-loop-task : goal.invariant-loop-task
invariant-loop-task l =
    l.text.items ++ flat_map event_object (range_with_len l.task (l.tasks - l.task)) ≡ l.fn.text.items ++ flat_map event_object (range_with_len 0 l.tasks)
