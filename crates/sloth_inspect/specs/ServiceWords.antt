-- What the service words say of events, counters and alarms.
use Rattle.std.specs.Prelude.{ℕ, List, [], ◌∷◌, map}
use Rattle.std.specs.List.{range_with_len}
use Rattle.sloth_base.specs.Limits.{task_limit, alarm_limit}
use Rattle.sloth_region.specs.Layout.{events, counter_value, alarm_left}
use Rattle.rv32_instr.specs.Ram.{word_at}
use Rattle.sloth_inspect.specs.declared.service_words.ServiceWords.{ServiceWords}

-- the events of each task that are set
abbrev pub event_words : (ram : List ℕ) → List ℕ
event_words ram = map (λ task. word_at ram (events task)) (range_with_len 0 task_limit)

-- the values of the two counters that there may be
abbrev pub counter_words : (ram : List ℕ) → List ℕ
counter_words ram = word_at ram (counter_value 0) ∷ word_at ram (counter_value 1) ∷ []

-- the ticks that each alarm has left, 0 where it is not in use
abbrev pub alarm_words : (ram : List ℕ) → List ℕ
alarm_words ram = map (λ alarm. word_at ram (alarm_left alarm)) (range_with_len 0 alarm_limit)

abbrev pub service_words_in : (ram : List ℕ) → ServiceWords
service_words_in ram = record { events = event_words ram; counters = counter_words ram; alarms = alarm_words ram }
