use Rattle.std.proofs.Common.{◌≡◌, ◌++◌, ◌-◌}
use Rattle.std.specs.List.{flat_map, range_with_len}
use Rattle.app_gen.specs.Draws.{draw}
use Rattle.app_gen.specs.Source.{body}
use Rattle.app_gen.proofs.source.put_bodies.Given as goal

abbrev pub invariant-loop-task : goal.invariant-loop-task
invariant-loop-task l =
    (l.text.items ++ flat_map (body l.fn.draws) (range_with_len l.task (l.tasks - l.task)) ≡ l.fn.text.items ++ flat_map (body l.fn.draws) (range_with_len 1 (l.tasks - 1)))
    × (l.draws ≡ draw l.fn.draws (l.task - 1))
