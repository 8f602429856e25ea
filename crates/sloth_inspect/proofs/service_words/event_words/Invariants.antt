use Rattle.std.proofs.Common.{◌≡◌, ◌-◌, ◌++◌, map, replicate}
use Rattle.std.specs.List.{range_with_len}
use Rattle.sloth_base.specs.Limits.{task_limit}
use Rattle.sloth_region.specs.Layout.{events}
use Rattle.rv32_instr.specs.Ram.{word_at}
use Rattle.sloth_inspect.proofs.service_words.event_words.Given as goal

abbrev pub invariant-loop-task : goal.invariant-loop-task
invariant-loop-task l =
    (l.words ≡ map (λ place. word_at l.fn.bus.ram (events place)) (range_with_len 0 l.task) ++ replicate (task_limit - l.task) 0) × (l.bus ≡ l.fn.bus)
