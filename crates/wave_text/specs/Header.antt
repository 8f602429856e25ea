-- The declarations of signals, in front of their changes (IEEE 1364-2005, section 18.2).
use Rattle.std.specs.Prelude.{ℕ, zero, suc, ◌+◌, ◌==◌, if◌then◌else◌, List, [], ◌++◌, codes, decimal, get_or, length}
use Rattle.sloth_base.specs.Limits.{alarm_limit}
use Rattle.sloth_base.specs.declared.image.Image.{Image}
use Rattle.wave_text.specs.declared.signals.Scope.{Scope}
use Rattle.wave_text.specs.declared.signals.Scope.TheVariants as scope
use Rattle.wave_text.specs.declared.signals.Width.{Width}
use Rattle.wave_text.specs.declared.signals.Width.TheVariants as width
use Rattle.wave_text.specs.Signals.{first_code, signal_width, code_text}

-- the name of a scope; the counters' lines stand in that of pending lines
abbrev pub scope_name : Scope → List ℕ
scope_name scope.State = codes "state"
scope_name scope.Runs = codes "runs"
scope_name scope.Pending = codes "pending"
scope_name scope.Counters = codes "pending"
scope_name scope.Values = codes "counters"
scope_name scope.Alarms = codes "alarms"

-- a width in decimal
abbrev pub width_digit : Width → List ℕ
width_digit width.One = codes "1"
width_digit width.Two = codes "2"
width_digit width.Eight = codes "8"
width_digit width.ThirtyTwo = codes "32"

-- the line that declares a signal
unfoldable pub variable_line : Width → (code : ℕ) (name : List ℕ) → List ℕ
variable_line width code name =
    codes "$var wire " ++ width_digit width ++ codes " " ++ code_text code ++ codes " " ++ name ++ codes " $end\n"

-- those of a scope, for the first of these names, so many of them
unfoldable pub variable_lines : Scope → List (List ℕ) → ℕ → List ℕ
variable_lines s names zero = []
variable_lines s names (suc task) = variable_lines s names task ++ variable_line (signal_width s) (first_code s + task) (get_or names task [])

-- the line that opens a scope
unfoldable pub scope_line : Scope → List ℕ
scope_line s = codes "$scope module " ++ scope_name s ++ codes " $end\n"

-- a scope that has a signal for each of these names, and one for the line of each of these counters
abbrev pub scope_text : Scope → (names counters : List (List ℕ)) → List ℕ
scope_text s names counters =
    scope_line s ++ variable_lines s names (length names) ++ variable_lines scope.Counters counters (length counters) ++ codes "$upscope $end\n"

-- the name of an alarm's signal: an image has no names of alarms
unfoldable pub alarm_name : (alarm : ℕ) → List ℕ
alarm_name alarm = codes "alarm" ++ decimal alarm

-- the signals of the first alarms, so many of them
unfoldable pub alarm_lines : ℕ → List ℕ
alarm_lines zero = []
alarm_lines (suc alarm) = alarm_lines alarm ++ variable_line (signal_width scope.Alarms) (first_code scope.Alarms + alarm) (alarm_name alarm)

-- the scopes of these counters' values and of the alarms, where there are counters
unfoldable pub clock_text : (counters : List (List ℕ)) → List ℕ
clock_text counters =
    if length counters == 0 then []
    else scope_text scope.Values counters [] ++ scope_line scope.Alarms ++ alarm_lines alarm_limit ++ codes "$upscope $end\n"

-- What a time unit is and what the values mean, and the signals in their scopes, with the names of an image. An instruction stands for a second,
-- which nobody takes for real time.
unfoldable pub header : Image → List ℕ
header image =
    codes "$comment\n One time unit is one instruction, not a second.\n state: 0 suspended, 1 ready, 2 active, 3 waiting. runs: 1 for the task that runs. Both are unknown while boot runs.\n pending: 1 where the line of the task or counter is pending.\n level: the level that runs, 0 in the idle loop; while a resource is held its ceiling, if that is higher. masked: 1 where interrupts are masked.\n counters: each counter's value. alarms: the ticks that each alarm has left, 0 where it is not in use. Both are of the count of the states.\n$end\n$timescale 1 s $end\n"
    ++ scope_text scope.State image.tasks [] ++ scope_text scope.Runs image.tasks [] ++ scope_text scope.Pending image.tasks image.counters
    ++ codes "$scope module kernel $end\n$var wire 8 { level $end\n$var wire 1 | masked $end\n$upscope $end\n" ++ clock_text image.counters ++ codes "$enddefinitions $end\n"
