-- Ticks of counters (OSEK OS 2.2.3, section 9).
use Rattle.std.specs.Prelude.{ℕ, ◌+◌, ◌-◌, cond, ltb}

-- the ticks from a counter's value to the next time that it has the value `to`, where `max` is its greatest value
abbrev pub ticks_to : (max value to : ℕ) → ℕ
ticks_to max value to = cond (ltb value to) (to - value) (to + (max + 1) - value)
