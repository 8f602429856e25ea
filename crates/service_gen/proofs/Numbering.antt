-- The alarms of a counter of a configuration that is in range are in range, and their numbers are those of their places.
use Rattle.std.proofs.Common.{◌≡◌, ◌∙◌, ℕ, ◌+◌, ◌^◌, ◌<◌, ◌≤◌, List, [], ◌∷◌, ◌++◌, length, get_or, drop, refl, ap, append_assoc, subst, sym, arith}
use Rattle.std.specs.Prelude.{Bool, true, false, cond, ◌==◌}
use Rattle.std.specs.List.{AllByRecursion}
use Rattle.std.proofs.lemmas.List.{drop_more}
use Rattle.std.proofs.lemmas.List.Elements.{recursion_from_All}
use Rattle.sloth_base.specs.declared.config.Action.{Action}
use Rattle.sloth_base.specs.declared.config.Action.TheVariants.{Activate, Set}
use Rattle.sloth_base.specs.declared.config.AlarmDecl.{AlarmDecl}
use Rattle.sloth_base.specs.declared.config.Config.{Config}
use Rattle.sloth_base.specs.ConfigRange.{InRange, IsAlarm, no_event}
use Rattle.sloth_base.specs.ConfigRange as range
use Rattle.sloth_base.specs.Limits.{alarm_limit}
use Rattle.service_gen.specs.declared.tick_code.NumberedAlarm.{NumberedAlarm}
use Rattle.service_gen.specs.Alarms.{IsActionInRange, AreAlarmsInRange, alarms_from, counter_alarms}

module _ (config : Config) (fits : InRange config) where
  action_fits : (action : Action) → range.IsAction config action → IsActionInRange action
  action_fits (Activate task) is = let few = fits.few_tasks in omega (arith, is)
  action_fits (Set task mask) is =
      let few = fits.few_tasks in
      let e = is.1.0 in
      let word = (fits.masks e no_event is.1.1).1 in
      (omega (arith, is.0), subst (λ m. m < 2 ^ 32) (sym is.1.2) word)

  numbered_from : (counter first : ℕ) (alarms : List AlarmDecl) → first + length alarms ≤ alarm_limit → AllByRecursion (IsAlarm config) alarms
      → AreAlarmsInRange (alarms_from counter first alarms)
  numbered_from counter first [] few are = tt
  numbered_from counter first (alarm ∷ later) few are =
      by (alarm.counter == counter) (numbered_from counter (first + 1) later (omega arith) are.1)
    where
      by : (b : Bool) → AreAlarmsInRange (alarms_from counter (first + 1) later)
          → AreAlarmsInRange (cond b (record { number = first; action = alarm.action } ∷ alarms_from counter (first + 1) later) (alarms_from counter (first + 1) later))
      by false rest = rest
      by true rest = (record { number = omega arith; action = action_fits alarm.action are.0.action }, rest)

-- those of each counter
pub numbered : (config : Config) → InRange config → (counter : ℕ) → AreAlarmsInRange (counter_alarms config counter)
numbered config fits counter =
    let few = fits.few_alarms in
    numbered_from config fits counter 0 config.alarms (omega arith) (recursion_from_All (IsAlarm config) config.alarms fits.alarms)

-- one more alarm, and those behind it
pub one_more : (counter first : ℕ) (alarm : AlarmDecl) (later : List AlarmDecl)
    → alarms_from counter first (alarm ∷ later) ≡ alarms_from counter first (alarm ∷ []) ++ alarms_from counter (first + 1) later
one_more counter first alarm later = by (alarm.counter == counter)
  where
    by : (b : Bool) → cond b (record { number = first; action = alarm.action } ∷ alarms_from counter (first + 1) later) (alarms_from counter (first + 1) later)
        ≡ cond b (record { number = first; action = alarm.action } ∷ []) [] ++ alarms_from counter (first + 1) later
    by true = refl
    by false = refl

-- what was found behind one more alarm, before those behind it
pub found_more : (counter i : ℕ) (alarms : List AlarmDecl) (d : AlarmDecl) (found more all : List NumberedAlarm) → i < length alarms
    → more ≡ found ++ alarms_from counter i (get_or alarms i d ∷ []) → found ++ alarms_from counter i (drop i alarms) ≡ all
    → more ++ alarms_from counter (i + 1) (drop (i + 1) alarms) ≡ all
found_more counter i alarms d found more all inside is before =
    let x = get_or alarms i d in
    let later = drop (i + 1) alarms in
    ap (λ l. l ++ alarms_from counter (i + 1) later) is
    ∙ append_assoc found (alarms_from counter i (x ∷ [])) (alarms_from counter (i + 1) later)
    ∙ ap (λ l. found ++ l) (sym (one_more counter i x later))
    ∙ ap (λ l. found ++ alarms_from counter i l) (sym (drop_more alarms i d inside))
    ∙ before
