-- The tick of a counter (OSEK OS 2.2.3, section 9).
use Rattle.std.specs.Prelude.{ℕ, suc, ℤ, ◌+◌, ◌*◌, ◌≡◌, ◌<◌, ◌≤◌, ◌==◌, ◌&&◌, Bool, true, false, cond, negsuc, List, [], ◌∷◌, length, slice_index, slice_set, bit_and, bit_or}
use Rattle.std.specs.List.{AllByRecursion}
use Rattle.sloth_base.specs.declared.config.Action.{Action}
use Rattle.sloth_base.specs.declared.config.Action.TheVariants.{Activate, Set}
use Rattle.sloth_base.specs.Machine.{Core, State}
use Rattle.sloth_base.specs.Arithmetic.{plus, sum32}
use Rattle.sloth_base.specs.MemoryMap.{memory_base}
use Rattle.sloth_base.specs.Owners.{counter_line}
use Rattle.sloth_base.specs.Limits.{task_limit}
use Rattle.sloth_region.specs.Layout.{active, events, wait, counter_value, alarm_left, alarm_cycle}
use Rattle.rv32_instr.specs.declared.InstrKind.{InstrKind}
use Rattle.rv32_instr.specs.declared.InstrKind.TheVariants.{Jal}
use Rattle.rv32_instr.specs.Ram.{word_at, with_word}
use Rattle.masked_code.specs.Masked.{Masked, WithArrivals}
use Rattle.masked_code.specs.Place.{offset_state, InPlace}
use Rattle.masked_code.specs.Kernel.{CanRun, HasBases, IsOpenedCore}
use Rattle.service_gen.specs.declared.tick_code.NumberedAlarm.{NumberedAlarm}
use Rattle.service_gen.specs.Alarms.{targets}

-- ---- the effect

-- what a tick may change of the machine, beside scratch registers
pub record Ground : Type 0 where
  pub ram : List ℕ
  pub pending : List ℕ
  pub enabled : List ℕ

-- that of a machine
abbrev pub ground : Core → Ground
ground core = record { ram = core.ram; pending = core.pending; enabled = core.enabled }

-- a machine with this
abbrev pub core_with_ground : Core → Ground → Core
core_with_ground core g = record core { ram = g.ram; pending = g.pending; enabled = g.enabled }

-- a task is Suspended: its line is not pending, but enabled, and it is not Active
abbrev pub is_suspended_task : ℕ → Ground → Bool
is_suspended_task task g = (slice_index g.pending task == 0) && ((slice_index g.enabled task == 1) && (word_at g.ram (active task) == 0))

-- the task's line is pending
abbrev pub raised_ground : ℕ → Ground → Ground
raised_ground task g = record g { pending = slice_set g.pending task 1 }

-- the task's events, with those of a mask
abbrev pub grown_events : (task mask : ℕ) → Ground → ℕ
grown_events task mask g = bit_or (word_at g.ram (events task)) mask

-- the task has these events
abbrev pub with_events : (task set : ℕ) → Ground → Ground
with_events task set g = record g { ram = with_word g.ram (events task) set }

-- the task's line is pending and enabled
abbrev pub woken_ground : ℕ → Ground → Ground
woken_ground task g = record g { pending = slice_set g.pending task 1; enabled = slice_set g.enabled task 1 }

-- events are set, and the task is woken unless it awaits none of them; the word of awaited events is stale where it does not wait
abbrev pub with_set : (task mask : ℕ) → Ground → Ground
with_set task mask g =
    cond (bit_and (grown_events task mask g) (word_at g.ram (wait task)) == 0)
    (with_events task (grown_events task mask g) g)
    (woken_ground task (with_events task (grown_events task mask g) g))

-- an action: a line is raised, or events are set for a task that is not Suspended
abbrev pub action_ground : Action → Ground → Ground
action_ground (Activate task) g = raised_ground task g
action_ground (Set task mask) g = cond (is_suspended_task task g) g (with_set task mask g)

-- one less
abbrev pub less_one : ℕ → ℕ
less_one v = plus v (negsuc 0)

-- an alarm has this many ticks left
abbrev pub with_left : (alarm left : ℕ) → Ground → Ground
with_left alarm left g = record g { ram = with_word g.ram (alarm_left alarm) left }

-- an alarm in use loses a tick; where it expires it has its cycle left, and acts
abbrev pub alarm_ground : NumberedAlarm → Ground → Ground
alarm_ground alarm g =
    cond (word_at g.ram (alarm_left alarm.number) == 0) g
    (cond (less_one (word_at g.ram (alarm_left alarm.number)) == 0)
    (action_ground alarm.action
    (with_left alarm.number (word_at g.ram (alarm_cycle alarm.number))
    (with_left alarm.number (less_one (word_at g.ram (alarm_left alarm.number))) g)))
    (with_left alarm.number (less_one (word_at g.ram (alarm_left alarm.number))) g))

-- the alarms in order
abbrev pub alarms_ground : List NumberedAlarm → Ground → Ground
alarms_ground [] g = g
alarms_ground (alarm ∷ later) g = alarms_ground later (alarm_ground alarm g)

-- the value behind this one
abbrev pub next_value : (max value : ℕ) → ℕ
next_value max value = cond (value == max) 0 (sum32 value 1)

-- the counter's value has grown
abbrev pub counted_ground : (counter max : ℕ) → Ground → Ground
counted_ground counter max g = record g { ram = with_word g.ram (counter_value counter) (next_value max (word_at g.ram (counter_value counter))) }

-- a whole tick of a counter with its greatest value and its alarms
abbrev pub ticked_ground : (counter max : ℕ) → List NumberedAlarm → Ground → Ground
ticked_ground counter max alarms g = alarms_ground alarms (counted_ground counter max g)

-- ---- what it needs, and its contract

-- the offset of a line's vector word
abbrev pub vector : ℕ → ℕ
vector line = 0x400 + 4 * line

-- what tells of a task are bits
pub record AreTaskBits (g : Ground) (task : ℕ) : Type 0 where
  pub is_task : task < task_limit
  pub active_bit : word_at g.ram (active task) < 2
  pub pending_bit : slice_index g.pending task < 2
  pub enabled_bit : slice_index g.enabled task < 2

-- the counter's line has just been taken, and its vector word jumps to the code
pub record MayTick (offset counter : ℕ) (alarms : List NumberedAlarm) (code : List InstrKind) (core : Core) : Type 0 where
  pub can_run : CanRun offset code core
  pub masked : core.mie ≡ false
  pub previous : core.mpie ≡ true
  pub bases : HasBases core.registers
  pub jump : ℤ
  pub vector_word : InPlace core.ram (vector (counter_line counter)) (Jal 0 jump ∷ [])
  pub to_code : plus (memory_base + vector (counter_line counter)) jump ≡ memory_base + offset
  pub told : AllByRecursion (AreTaskBits (ground core)) (targets alarms)

-- The counter's value has grown and its alarms have acted, in order. What was interrupted goes on at its level, and of its registers x1
-- alone holds anything. The line of each task whose events some alarm sets has been touched once.
pub record TickEffect (counter max : ℕ) (alarms : List NumberedAlarm) (touched : List ℕ) (start end : State) : Type 0 where
  pub touches : touched ≡ targets alarms
  pub left : IsOpenedCore (record (core_with_ground start.core (ticked_ground counter max alarms (ground start.core))) { ilevel = start.core.plevel }) end.core
  pub pc : end.pc ≡ start.core.mepc
  pub x2 : slice_index end.core.registers 2 ≡ slice_index start.core.registers 2
  pub kept : (i : ℕ) → 5 ≤ i → slice_index end.core.registers i ≡ slice_index start.core.registers i

-- Code of a tick: the jump of the vector word, and at most as many instructions as it has, lead to its effect, whatever lines arrive.
abbrev pub IsTickCode : (counter max : ℕ) → List NumberedAlarm → List InstrKind → Type 0
IsTickCode counter max alarms code =
    (offset : ℕ) (core : Core) → MayTick offset counter alarms code core
    → Masked (suc (length code)) (offset_state (vector (counter_line counter)) core)
    (WithArrivals (TickEffect counter max alarms) (offset_state (vector (counter_line counter)) core))
