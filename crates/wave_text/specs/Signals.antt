-- The signals of waves, and their values: a number, or none where the value is unknown.
use Rattle.std.specs.Prelude.{ℕ, ◌≡◌, ◌<◌, ◌≤◌, ◌+◌, ◌-◌, ◌==◌, nat_lt, Bool, false, cond, if◌then◌else◌, List, [], ◌∷◌, Option, Some, None, get_or}
use Rattle.std.specs.Option.{option_map}
use Rattle.osek_scheduler.specs.declared.state.TaskState.TheVariants as mode
use Rattle.sloth_base.specs.declared.numbers.Owners.{Owners}
use Rattle.sloth_base.specs.Limits.{task_limit, counter_limit, alarm_limit}
use Rattle.sloth_inspect.specs.StateNumbers.{state_number}
use Rattle.sloth_runner.specs.declared.task_states.Seen.{Seen}
use Rattle.wave_text.specs.declared.dump.Moment.{Moment}
use Rattle.wave_text.specs.declared.signals.Scope.{Scope}
use Rattle.wave_text.specs.declared.signals.Scope.TheVariants as scope
use Rattle.wave_text.specs.declared.signals.Width.{Width}
use Rattle.wave_text.specs.declared.signals.Width.TheVariants as width

-- the code of the first signal in a scope; the others follow
abbrev pub first_code : Scope → ℕ
first_code scope.State = 33
first_code scope.Runs = 63
first_code scope.Pending = 93
first_code scope.Counters = 125
first_code scope.Values = 127
first_code scope.Alarms = 129

-- the code of the signal `level`
abbrev pub level_signal : ℕ
level_signal = 123

-- the code of the signal `masked`
abbrev pub masked_code : ℕ
masked_code = 124

-- A code's text: the character that the code is, from `!` to `~`; a further code is told by two, of which the first is `!`.
unfoldable pub code_text : ℕ → List ℕ
code_text code = if nat_lt code 127 then code ∷ [] else 33 ∷ (code - 94) ∷ []

-- a character of codes
abbrev pub IsPrintable : ℕ → Type 0
IsPrintable byte = (33 ≤ byte) × (byte ≤ 126)

-- how many binary digits the signals of a scope have
abbrev pub signal_width : Scope → Width
signal_width scope.State = width.Two
signal_width scope.Runs = width.One
signal_width scope.Pending = width.One
signal_width scope.Counters = width.One
signal_width scope.Values = width.ThirtyTwo
signal_width scope.Alarms = width.ThirtyTwo

-- how many alarms have a signal: all that there may be, or none where no counter ticks
abbrev pub alarm_count : (counters : ℕ) → ℕ
alarm_count counters = if counters == 0 then 0 else alarm_limit

-- how many signals there are of a kind: one for each task, counter or alarm
abbrev pub signal_count : Owners → Scope → ℕ
signal_count owners scope.State = owners.tasks
signal_count owners scope.Runs = owners.tasks
signal_count owners scope.Pending = owners.tasks
signal_count owners scope.Counters = owners.counters
signal_count owners scope.Values = owners.counters
signal_count owners scope.Alarms = alarm_count owners.counters

-- how many there are at most
abbrev pub most_signals : Scope → ℕ
most_signals scope.State = task_limit
most_signals scope.Runs = task_limit
most_signals scope.Pending = task_limit
most_signals scope.Counters = counter_limit
most_signals scope.Values = counter_limit
most_signals scope.Alarms = alarm_limit

-- 1 for true, 0 for false
abbrev pub bit : Bool → ℕ
bit b = cond b 1 0

-- the number of a task's state, where the tasks were seen
abbrev pub state_value : Option Seen → ℕ → Option ℕ
state_value seen task = option_map (λ (s : Seen). state_number (get_or s.tasks task mode.Suspended)) seen

-- whether a task is the running one, where the tasks were seen
abbrev pub running_value : Option Seen → ℕ → Option ℕ
running_value seen task = option_map (λ (s : Seen). bit (s.running == task + 1)) seen

-- a number, where the tasks were seen
abbrev pub number_seen : Option Seen → (number : ℕ) → Option ℕ
number_seen seen number = option_map (λ (s : Seen). number) seen

-- The value of a signal at a moment: the number of a task's state, whether it is the running task, whether its line or that of a counter is
-- pending, a counter's value, the ticks that an alarm has left. All but what is pending are of the last count that found interrupts open, and
-- unknown where none did.
abbrev pub moment_value : Scope → Moment → ℕ → Option ℕ
moment_value scope.State moment task = state_value moment.sample.seen task
moment_value scope.Runs moment task = running_value moment.sample.seen task
moment_value scope.Pending moment task = Some (bit (get_or moment.sample.interrupts.pending task false))
moment_value scope.Counters moment counter = Some (bit (get_or moment.sample.interrupts.counters_pending counter false))
moment_value scope.Values moment counter = number_seen moment.sample.seen (get_or moment.words.counters counter 0)
moment_value scope.Alarms moment alarm = number_seen moment.sample.seen (get_or moment.words.alarms alarm 0)

-- the same, and before the first moment it is unknown
abbrev pub signal_value : Scope → Option Moment → ℕ → Option ℕ
signal_value s None place = None
signal_value s (Some moment) place = moment_value s moment place

-- the value of `level`
abbrev pub level_value : Option Moment → Option ℕ
level_value moment = option_map (λ (m : Moment). m.sample.interrupts.level) moment

-- the value of `masked`
abbrev pub masked_value : Option Moment → Option ℕ
masked_value moment = option_map (λ (m : Moment). bit m.sample.interrupts.masked) moment

-- the first signals of a scope keep their values from one moment to the next
abbrev pub KeepValues : Scope → (count : ℕ) → (before after : Option Moment) → Type 0
KeepValues s count before after = (place : ℕ) → place < count → signal_value s before place ≡ signal_value s after place
