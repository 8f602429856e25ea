use Rattle.std.proofs.Common.{◌≡◌, ◌-◌, ◌++◌, map, replicate}
use Rattle.std.specs.List.{range_with_len}
use Rattle.sloth_base.specs.Limits.{alarm_limit}
use Rattle.sloth_region.specs.Layout.{alarm_left}
use Rattle.rv32_instr.specs.Ram.{word_at}
use Rattle.sloth_inspect.proofs.service_words.alarm_words.Given as goal

abbrev pub invariant-loop-alarm : goal.invariant-loop-alarm
invariant-loop-alarm l =
    (l.words ≡ map (λ place. word_at l.fn.bus.ram (alarm_left place)) (range_with_len 0 l.alarm) ++ replicate (alarm_limit - l.alarm) 0) × (l.bus ≡ l.fn.bus)
