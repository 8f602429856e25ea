-- Pieces of the code of a tick. x4 holds the base of memory but where it says otherwise, and bit T of x3 says whether task T is not Suspended.
use Rattle.std.specs.Prelude.{ℕ, ◌+◌, pos, negsuc, cond, List, [], ◌∷◌, ◌++◌}
use Rattle.sloth_base.specs.declared.config.Action.{Action}
use Rattle.sloth_base.specs.declared.config.Action.TheVariants.{Activate, Set}
use Rattle.sloth_region.specs.Layout.{events, counter_value, alarm_left, alarm_cycle, words_high, controller_high, pending_byte, enabled_byte}
use Rattle.rv32_instr.specs.declared.InstrKind.{InstrKind}
use Rattle.rv32_instr.specs.declared.InstrKind.TheVariants.{Beq, Bne, Lui, Lw, Sw, Sb, Addi, Or, Slli, Mret}
use Rattle.sloth_base.specs.Arithmetic.{hi, lo}
use Rattle.block_parts.specs.Ticks.{passing_distance, look_code, suspension_test, awaited_events_test}
use Rattle.service_gen.specs.declared.tick_code.NumberedAlarm.{NumberedAlarm}
use Rattle.service_gen.specs.Alarms.{is_target}

-- the counter's value grows by one, or goes from the greatest to 0
abbrev pub counting_code : (counter max : ℕ) → List InstrKind
counting_code counter max =
    Lw 1 4 (pos (counter_value counter)) ∷ Lui 3 (hi max) ∷ Addi 3 3 (lo max) ∷ Bne 1 3 (passing_distance 1) ∷ Addi 1 0 (negsuc 0)
    ∷ Addi 1 1 (pos 1) ∷ Sw 4 1 (pos (counter_value counter)) ∷ []

-- no task has been looked at: x3 := 0
abbrev pub look_clearing_code : List InstrKind
look_clearing_code = Addi 3 0 (pos 0) ∷ []

-- ---- the looks at tasks

-- the look at the task whose events an action sets, unless a later alarm looks at it
abbrev pub look_of : Action → (later : List NumberedAlarm) → List InstrKind
look_of (Activate task) later = []
look_of (Set task mask) later = cond (is_target task later) [] (look_code task)

-- the looks of several alarms
abbrev pub looks_code : List NumberedAlarm → List InstrKind
looks_code [] = []
looks_code (alarm ∷ later) = look_of alarm.action later ++ looks_code later

-- x4 := the base of memory
abbrev pub basing_code : List InstrKind
basing_code = Lui 4 words_high ∷ []

-- ---- one alarm

-- the task's line is raised, and its bit becomes 1
abbrev pub activating_code : ℕ → List InstrKind
activating_code task =
    Lui 4 controller_high ∷ Addi 1 0 (pos 1) ∷ Sb 4 1 (pos (pending_byte task)) ∷ Lui 4 words_high ∷ Slli 1 1 task ∷ Or 3 3 1 ∷ []

-- the task's events, with those of the mask, stay in x1
abbrev pub event_adding_code : (task mask : ℕ) → List InstrKind
event_adding_code task mask =
    Lw 1 4 (pos (events task)) ∷ Lui 4 (hi mask) ∷ Addi 4 4 (lo mask) ∷ Or 1 1 4 ∷ Lui 4 words_high ∷ Sw 4 1 (pos (events task)) ∷ []

-- the task's line is raised and enabled; x4 is changed
abbrev pub waking_code : ℕ → List InstrKind
waking_code task = Lui 4 controller_high ∷ Addi 1 0 (pos 1) ∷ Sb 4 1 (pos (pending_byte task)) ∷ Sb 4 1 (pos (enabled_byte task)) ∷ []

-- what an action does
abbrev pub action_code : Action → List InstrKind
action_code (Activate task) = activating_code task
action_code (Set task mask) = suspension_test task ++ (event_adding_code task mask ++ (awaited_events_test task ++ (waking_code task ++ basing_code)))

-- how many instructions that are
abbrev pub action_size : Action → ℕ
action_size (Activate task) = 6
action_size (Set task mask) = 17

-- An alarm in use loses a tick, and where it expires it starts again with its cycle; else it goes on behind the alarm, whose action has so
-- many instructions.
abbrev pub losing_code : (alarm size : ℕ) → List InstrKind
losing_code alarm size =
    Lw 1 4 (pos (alarm_left alarm)) ∷ Beq 1 0 (passing_distance (5 + size)) ∷ Addi 1 1 (negsuc 0) ∷ Sw 4 1 (pos (alarm_left alarm))
    ∷ Bne 1 0 (passing_distance (2 + size)) ∷ Lw 1 4 (pos (alarm_cycle alarm)) ∷ Sw 4 1 (pos (alarm_left alarm)) ∷ []

-- the code of one alarm
abbrev pub alarm_code : NumberedAlarm → List InstrKind
alarm_code alarm = losing_code alarm.number (action_size alarm.action) ++ action_code alarm.action

-- the code of several alarms, in order
abbrev pub alarms_code : List NumberedAlarm → List InstrKind
alarms_code [] = []
alarms_code (alarm ∷ later) = alarm_code alarm ++ alarms_code later

-- ---- the whole

-- x3 := the address of the controller, and back to what was interrupted
abbrev pub returning_code : List InstrKind
returning_code = Lui 3 controller_high ∷ Mret ∷ []

-- the tick of a counter with its greatest value and its alarms
abbrev pub tick_code : (counter max : ℕ) → List NumberedAlarm → List InstrKind
tick_code counter max alarms =
    counting_code counter max ++ (look_clearing_code ++ (looks_code alarms ++ (basing_code ++ (alarms_code alarms ++ returning_code))))
