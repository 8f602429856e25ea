use Rattle.std.proofs.Common.{◌≡◌, ◌++◌, ◌-◌}
use Rattle.std.specs.List.{flat_map, range_with_len}
use Rattle.app_gen.specs.Source.{waking_text}
use Rattle.app_gen.proofs.source.put_wakes.Given as goal

abbrev pub invariant-loop-task : goal.invariant-loop-task
invariant-loop-task l =
    l.text.items ++ flat_map waking_text (range_with_len l.task (l.tasks - l.task)) ≡ l.fn.text.items ++ flat_map waking_text (range_with_len 1 (l.tasks - 1))
