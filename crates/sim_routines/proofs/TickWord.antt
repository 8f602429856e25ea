-- A tick leaves the word at 0x80000000: it names the task that ran.
use Rattle.std.proofs.Common.{◌≡◌, ◌∙◌, ℕ, List, [], ◌∷◌, refl, arith}
use Rattle.std.specs.Prelude.{◌==◌, bit_and}
use Rattle.std.proofs.lemmas.Bool.{cond_both}
use Rattle.sloth_base.specs.declared.config.Action.{Action}
use Rattle.sloth_base.specs.declared.config.Action.TheVariants.{Activate, Set}
use Rattle.sloth_region.specs.Layout.{cur, events, wait, counter_value, alarm_left, alarm_cycle}
use Rattle.rv32_instr.specs.Ram.{word_at}
use Rattle.service_gen.specs.declared.tick_code.NumberedAlarm.{NumberedAlarm}
use Rattle.service_gen.specs.Tick.{Ground, is_suspended_task, grown_events, with_events, woken_ground, with_set, action_ground, less_one, with_left, alarm_ground, alarms_ground, counted_ground, ticked_ground, next_value}
use Rattle.sim_relation.proofs.Parts.{word_other}

-- the word is the same on both
abbrev SameWord : Ground → Ground → Type 0
SameWord g x = word_at x.ram cur ≡ word_at g.ram cur

events_stay : (task set : ℕ) (g : Ground) → SameWord g (with_events task set g)
events_stay task set g = word_other g.ram (events task) set cur (omega arith) (omega arith) (λ e. absurd (omega (arith, e)))

left_stays : (alarm left : ℕ) (g : Ground) → SameWord g (with_left alarm left g)
left_stays alarm left g = word_other g.ram (alarm_left alarm) left cur (omega arith) (omega arith) (λ e. absurd (omega (arith, e)))

set_stays : (task mask : ℕ) (g : Ground) → SameWord g (with_set task mask g)
set_stays task mask g =
    cond_both (bit_and (grown_events task mask g) (word_at g.ram (wait task)) == 0) (with_events task (grown_events task mask g) g)
    (woken_ground task (with_events task (grown_events task mask g) g)) (SameWord g)
    (λ _. events_stay task (grown_events task mask g) g) (λ _. events_stay task (grown_events task mask g) g)

action_stays : (action : Action) (g : Ground) → SameWord g (action_ground action g)
action_stays (Activate task) g = refl
action_stays (Set task mask) g = cond_both (is_suspended_task task g) g (with_set task mask g) (SameWord g) (λ _. refl) (λ _. set_stays task mask g)

alarm_stays : (alarm : NumberedAlarm) (g : Ground) → SameWord g (alarm_ground alarm g)
alarm_stays alarm g =
    let left = less_one (word_at g.ram (alarm_left alarm.number)) in
    let cycle = word_at g.ram (alarm_cycle alarm.number) in
    let fewer = with_left alarm.number left g in
    let again = with_left alarm.number cycle fewer in
    cond_both (word_at g.ram (alarm_left alarm.number) == 0) g _ (SameWord g) (λ _. refl)
    (λ _. cond_both (left == 0) (action_ground alarm.action again) fewer (SameWord g)
    (λ _. action_stays alarm.action again ∙ left_stays alarm.number cycle fewer ∙ left_stays alarm.number left g)
    (λ _. left_stays alarm.number left g))

alarms_stay : (alarms : List NumberedAlarm) (g : Ground) → SameWord g (alarms_ground alarms g)
alarms_stay [] g = refl
alarms_stay (alarm ∷ later) g = alarms_stay later (alarm_ground alarm g) ∙ alarm_stays alarm g

pub tick_stays : (counter max : ℕ) (alarms : List NumberedAlarm) (g : Ground) → SameWord g (ticked_ground counter max alarms g)
tick_stays counter max alarms g =
    alarms_stay alarms (counted_ground counter max g)
    ∙ word_other g.ram (counter_value counter) (next_value max (word_at g.ram (counter_value counter))) cur (omega arith) (omega arith) (λ e. absurd (omega (arith, e)))
