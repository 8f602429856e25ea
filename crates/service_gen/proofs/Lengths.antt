-- The code of a tick is as long as the table of lengths says, and at most 11 instructions and 34 for each alarm.
use Rattle.std.proofs.Common.{◌≡◌, ℕ, suc, ◌+◌, ◌*◌, ◌≤◌, List, [], ◌∷◌, ◌++◌, length, refl, ap, ◌∙◌, arith, length-append}
use Rattle.std.specs.Prelude.{Bool, true, false, cond, ◌==◌, ◌&&◌, ◌||◌}
use Rattle.sloth_base.specs.declared.config.Action.{Action}
use Rattle.sloth_base.specs.declared.config.Action.TheVariants.{Activate, Set}
use Rattle.sloth_base.specs.declared.config.AlarmDecl.{AlarmDecl}
use Rattle.code_lengths.specs.CodeLengths.{sets_events_of, is_looked_at, action_length, alarms_length, tick_length}
use Rattle.service_gen.specs.declared.tick_code.NumberedAlarm.{NumberedAlarm}
use Rattle.service_gen.specs.Alarms.{alarms_from, is_target}
use Rattle.block_parts.specs.Ticks.{look_code}
use Rattle.service_gen.specs.AlarmPieces.{counting_code, look_clearing_code, look_of, looks_code, basing_code, action_code, action_size, losing_code, alarm_code, alarms_code, returning_code, tick_code}

-- ---- at most

look_few : (action : Action) (later : List NumberedAlarm) → length (look_of action later) ≤ 10
look_few (Activate t) later = let n : length (look_of (Activate t) later) ≡ 0 = refl in omega arith
look_few (Set t mask) later = by (is_target t later)
  where
    by : (b : Bool) → length (cond b [] (look_code t)) ≤ 10
    by true = let n : length (cond true [] (look_code t)) ≡ 0 = refl in omega arith
    by false = let n : length (cond false [] (look_code t)) ≡ 10 = refl in omega arith

looks_few : (alarms : List NumberedAlarm) → length (looks_code alarms) ≤ 10 * length alarms
looks_few [] = let n : length (looks_code []) ≡ 0 = refl in omega arith
looks_few (alarm ∷ later) =
    let a = look_few alarm.action later in
    let b = looks_few later in
    let n = length-append (look_of alarm.action later) (looks_code later) in
    let m : length (alarm ∷ later) ≡ suc (length later) = refl in
    omega arith

action_few : (action : Action) → length (action_code action) ≤ 17
action_few (Activate t) = let n : length (action_code (Activate t)) ≡ 6 = refl in omega arith
action_few (Set t mask) = let n : length (action_code (Set t mask)) ≡ 17 = refl in omega arith

alarm_is : (alarm : NumberedAlarm) → length (alarm_code alarm) ≡ 7 + length (action_code alarm.action)
alarm_is alarm = length-append (losing_code alarm.number (action_size alarm.action)) (action_code alarm.action)

alarms_few : (alarms : List NumberedAlarm) → length (alarms_code alarms) ≤ 24 * length alarms
alarms_few [] = let n : length (alarms_code []) ≡ 0 = refl in omega arith
alarms_few (alarm ∷ later) =
    let a = action_few alarm.action in
    let b = alarms_few later in
    let n = length-append (alarm_code alarm) (alarms_code later) in
    let k = alarm_is alarm in
    let m : length (alarm ∷ later) ≡ suc (length later) = refl in
    omega arith

tick_is : (counter max : ℕ) (alarms : List NumberedAlarm)
    → length (tick_code counter max alarms) ≡ 11 + (length (looks_code alarms) + length (alarms_code alarms))
tick_is counter max alarms =
    let n = length-append (looks_code alarms) (basing_code ++ (alarms_code alarms ++ returning_code)) in
    let m = length-append (alarms_code alarms) returning_code in
    let k = length-append basing_code (alarms_code alarms ++ returning_code) in
    let l = length-append look_clearing_code (looks_code alarms ++ (basing_code ++ (alarms_code alarms ++ returning_code))) in
    let j = length-append (counting_code counter max) (look_clearing_code ++ (looks_code alarms ++ (basing_code ++ (alarms_code alarms ++ returning_code)))) in
    let seven : length (counting_code counter max) ≡ 7 = refl in
    let one : length look_clearing_code ≡ 1 = refl in
    let other : length basing_code ≡ 1 = refl in
    let two : length returning_code ≡ 2 = refl in
    omega arith

-- whatever the alarms are
pub tick_few : (counter max : ℕ) (alarms : List NumberedAlarm) → length (tick_code counter max alarms) ≤ 11 + 34 * length alarms
tick_few counter max alarms =
    let a = looks_few alarms in
    let b = alarms_few alarms in
    let n = tick_is counter max alarms in
    omega arith

-- ---- exactly

-- a task is looked at among a counter's alarms where it is among all
same_target : (counter first task : ℕ) (alarms : List AlarmDecl) → is_target task (alarms_from counter first alarms) ≡ is_looked_at counter task alarms
same_target counter first task [] = refl
same_target counter first task (alarm ∷ later) = by (alarm.counter == counter) (same_target counter (first + 1) task later)
  where
    by : (b : Bool) → is_target task (alarms_from counter (first + 1) later) ≡ is_looked_at counter task later
        → is_target task (cond b (record { number = first; action = alarm.action } ∷ alarms_from counter (first + 1) later) (alarms_from counter (first + 1) later))
        ≡ ((b && sets_events_of task alarm.action) || is_looked_at counter task later)
    by true e = ap (λ x. sets_events_of task alarm.action || x) e
    by false e = e

-- an alarm with its look
one_long : (counter first : ℕ) (action : Action) (number : ℕ) (later : List AlarmDecl)
    → length (look_of action (alarms_from counter first later)) + (7 + length (action_code action)) ≡ action_length counter action later
one_long counter first (Activate t) number later = refl
one_long counter first (Set t mask) number later =
    ap (λ b. length (cond b [] (look_code t)) + 24) (same_target counter first t later) ∙ by (is_looked_at counter t later)
  where
    by : (b : Bool) → length (cond b [] (look_code t)) + 24 ≡ 24 + cond b 0 10
    by true = refl
    by false = refl

all_long : (counter first : ℕ) (alarms : List AlarmDecl)
    → length (looks_code (alarms_from counter first alarms)) + length (alarms_code (alarms_from counter first alarms)) ≡ alarms_length counter alarms
all_long counter first [] = refl
all_long counter first (alarm ∷ later) = by (alarm.counter == counter) (all_long counter (first + 1) later)
  where
    by : (b : Bool)
        → length (looks_code (alarms_from counter (first + 1) later)) + length (alarms_code (alarms_from counter (first + 1) later)) ≡ alarms_length counter later
        → length (looks_code (cond b (record { number = first; action = alarm.action } ∷ alarms_from counter (first + 1) later) (alarms_from counter (first + 1) later)))
        + length (alarms_code (cond b (record { number = first; action = alarm.action } ∷ alarms_from counter (first + 1) later) (alarms_from counter (first + 1) later)))
        ≡ cond b (action_length counter alarm.action later) 0 + alarms_length counter later
    by false e = omega arith
    by true e =
        let rest = alarms_from counter (first + 1) later in
        let one : NumberedAlarm = record { number = first; action = alarm.action } in
        let a = length-append (look_of alarm.action rest) (looks_code rest) in
        let b = length-append (alarm_code one) (alarms_code rest) in
        let c = alarm_is one in
        let d = one_long counter (first + 1) alarm.action first later in
        omega arith

-- of the alarms of a configuration, as in the table
pub tick_long : (counter max : ℕ) (alarms : List AlarmDecl) → length (tick_code counter max (alarms_from counter 0 alarms)) ≡ tick_length counter alarms
tick_long counter max alarms = tick_is counter max (alarms_from counter 0 alarms) ∙ ap (λ n. 11 + n) (all_long counter 0 alarms)
