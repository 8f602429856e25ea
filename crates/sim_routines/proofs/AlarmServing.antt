-- The services on alarms are steps, and the relation stands behind them.
use Rattle.std.proofs.Common.{◌≡◌, ℕ, ◌+◌, ◌-◌, ◌^◌, ◌<◌, ◌≤◌, List, [], ◌∷◌, length, refl, sym, ap, ◌∙◌, subst, arith, ⊎_elim, inl, inr, Bool, true, false, cond}
use Rattle.std.specs.Prelude.{◌⊎◌, ◌≢◌, ◌==◌, ◌&&◌, ◌||◌, not, leb, slice_index, Contains}
use Rattle.std.specs.List.{AllByRecursion}
use Rattle.std.proofs.lemmas.Bool.{cases_eq, cases_lt, eq-eqb, ne_eqb, le-leb, lt-leb, lt-ltb, le-ltb, ltb-true, and_from, and_left, and_right, or_left, or_right}
use Rattle.sloth_base.specs.Machine.{Core, State}
use Rattle.sloth_base.specs.Named.{counter_of, alarm_declaration, undeclared_alarm, undeclared_counter}
use Rattle.sloth_base.specs.Status.{E_OK, E_OS_NOFUNC, E_OS_STATE, E_OS_VALUE}
use Rattle.sloth_base.specs.Ticks.{ticks_to}
use Rattle.sloth_base.specs.declared.config.CounterDecl.{CounterDecl}
use Rattle.sloth_base.specs.declared.service.Service.{Service}
use Rattle.sloth_base.specs.declared.service.Service.TheVariants as service
use Rattle.sloth_base.specs.Limits.{alarm_limit}
use Rattle.sloth_base.specs.MemoryMap.{memory_bytes}
use Rattle.sloth_region.specs.Layout.{cur, counter_value, alarm_left, alarm_cycle}
use Rattle.rv32_instr.specs.Ram.{word_at, with_word}
use Rattle.masked_code.proofs.Words.{word_at-same, length-with_word, get_or-with_word}
use Rattle.block_parts.specs.Back.{BackEffect, a0, a1}
use Rattle.service_gen.specs.CancelAlarm.{left_ticks, HasNoAlarm, HasCancelled, CancelAlarmEffect}
use Rattle.service_gen.specs.GetAlarm.{HasToldLeft, GetAlarmEffect}
use Rattle.service_gen.specs.SetAlarm.{CycleFits, TicksFit, AlarmValueFits, first_operand, second_operand, ticks_until, HasAlarm, HasNoFit, HasAlarmSet, SetAlarmEffect}
use Rattle.osek_scheduler.specs.declared.state.Alarm.{Alarm}
use Rattle.osek_scheduler.specs.State.{Task, System, task, counter, alarm, with_alarm}
use Rattle.osek_scheduler.specs.Services.{is_in_use, allows_cycle, allows_relative, allows_absolute, is_there, ServiceOutcome, GoesOn}
use Rattle.osek_scheduler.proofs.ServiceStates.{answered_state, answered_state_with}
use Rattle.osek_scheduler.specs.Outcomes.{outcome}
use Rattle.sim_relation.specs.Build.{Build, HasFittingPlaces}
use Rattle.sim_relation.specs.Stands.{Stands}
use Rattle.sim_relation.proofs.Parts.{word_other}
use Rattle.sim_routines.specs.Served.{IsServed, IsServiceAnswer}
use Rattle.sim_routines.proofs.GoesOn.{answers_so, answers_status, answers_number, held_registers}
use Rattle.sim_routines.specs.AlarmSteps.{MayUseAlarm}
use Rattle.sim_routines.proofs.AlarmKept.{AlarmAlone, stands_set}

-- ---- what the code tests

cycle_yes : (d : CounterDecl) (c : ℕ) → CycleFits d.max d.min_cycle c → allows_cycle d c ≡ true
cycle_yes d c (inl z) = or_left (c == 0) (leb d.min_cycle c && leb c d.max) (eq-eqb c 0 z)
cycle_yes d c (inr h) = or_right (c == 0) (leb d.min_cycle c && leb c d.max) (and_from (leb d.min_cycle c) (leb c d.max) (le-leb d.min_cycle c h.0) (le-leb c d.max h.1))

cycle_no : (d : CounterDecl) (c : ℕ) → (CycleFits d.max d.min_cycle c → ⊥) → allows_cycle d c ≡ false
cycle_no d c n =
    ap (λ x. x || (leb d.min_cycle c && leb c d.max)) (ne_eqb c 0 (λ z. n (inl z)))
    ∙ ⊎_elim
    (λ (l : c < d.min_cycle). and_left (leb d.min_cycle c) (leb c d.max) (lt-leb d.min_cycle c l))
    (λ (g : d.min_cycle ≤ c).
    ⊎_elim
    (λ (m : d.max < c). and_right (leb d.min_cycle c) (leb c d.max) (lt-leb c d.max m))
    (λ (m : c ≤ d.max). absurd (n (inr (g, m))))
    (cases_lt d.max c))
    (cases_lt c d.min_cycle)

absolute_no : (d : CounterDecl) (start c : ℕ) → ((start ≤ d.max) × CycleFits d.max d.min_cycle c → ⊥) → allows_absolute d start c ≡ false
absolute_no d start c n =
    ⊎_elim
    (λ (l : d.max < start). and_left (leb start d.max) (allows_cycle d c) (lt-leb start d.max l))
    (λ (g : start ≤ d.max). and_right (leb start d.max) (allows_cycle d c) (cycle_no d c (λ f. n (g, f))))
    (cases_lt d.max start)

-- both words of an alarm are written
set_alone : (ram : List ℕ) (a left cycle : ℕ) → a < alarm_limit → left < 2 ^ 32 → cycle < 2 ^ 32 → length ram ≡ memory_bytes
    → AlarmAlone a left cycle ram (with_word (with_word ram (alarm_left a) left) (alarm_cycle a) cycle)
set_alone ram a left cycle few small word long =
    let mid : List ℕ = with_word ram (alarm_left a) left in
    let l1 = length-with_word ram (alarm_left a) left in
    record {
      long = length-with_word mid (alarm_cycle a) cycle ∙ l1;
      high = λ i h. get_or-with_word mid (alarm_cycle a) cycle i (inr (omega (arith, few, h))) ∙ get_or-with_word ram (alarm_left a) left i (inr (omega (arith, few, h)));
      other = λ p x n m. word_other mid (alarm_cycle a) cycle p x (omega arith) m ∙ word_other ram (alarm_left a) left p x (omega arith) n;
      left_is = word_other mid (alarm_cycle a) cycle (alarm_left a) (omega arith) (omega arith) (λ e. omega (arith, e))
          ∙ word_at-same ram (alarm_left a) left (omega (arith, few, long)) small;
      cycle_is = word_at-same mid (alarm_cycle a) cycle (omega (arith, few, long, l1)) word;
    }

module _ (b : Build) (state : State) (s : System) (t : ℕ) (own : Task) (served : Service) (a : ℕ) (touched : List ℕ) (end : State) (fits : HasFittingPlaces b)
    (may : MayUseAlarm b state s t own served a) (there : a < length b.config.alarms) (touches : touched ≡ []) where
  abbrev is : IsServed b state s t own served
  is = may.goes_on.is_served

  abbrev k : Stands b state s
  k = is.stands

  abbrev old : List ℕ
  old = state.core.ram

  abbrev used : Alarm
  used = alarm s a

  few : a < alarm_limit
  few = let f = fits.few_alarms in omega (arith, there, f)

  left_is : left_ticks a state.core ≡ used.left
  left_is = k.clock.left a there

  none : AllByRecursion (Contains (0 ∷ 0 ∷ [])) touched
  none = subst (AllByRecursion (Contains (0 ∷ 0 ∷ []))) (sym touches) tt

  names : is_there b.config own.held served is.opening.block.call.object ≡ true
  names = subst (λ o. is_there b.config own.held served o ≡ true) (sym may.goes_on.object_is) may.goes_on.names

  abbrev mask : ℕ
  mask = is.opening.block.call.mask

  outcome_at : outcome b.config served is.opening.block.call.object mask t s ≡ outcome b.config served a mask t s
  outcome_at = ap (λ o. outcome b.config served o mask t s) may.goes_on.object_is

  -- the status alone
  pub refuses : (status : ℕ) → slice_index end.core.registers a0 ≡ status → BackEffect a0 state.core state end
      → outcome b.config served a mask t s ≡ GoesOn status (answered_state status t s) → IsServiceAnswer b s t served touched end
  refuses status status_is back answer_is =
      answers_status b state s t own served is fits touched end 0 0 none names may.goes_on.followed back status status_is (outcome_at ∙ answer_is)

  -- the alarm is this one now
  pub sets : (left cycle : ℕ) (ram : List ℕ) → AlarmAlone a left cycle old ram → BackEffect a0 (record state.core { ram = ram }) state end
      → slice_index end.core.registers a0 ≡ E_OK
      → outcome b.config served a mask t s ≡ GoesOn E_OK (with_alarm (answered_state E_OK t s) a (record { left = left; cycle = cycle })) → IsServiceAnswer b s t served touched end
  sets left cycle ram alone back status_is answer_is =
      answers_so b state s t own served is fits touched end 0 0 none names E_OK status_is
      (with_alarm (answered_state E_OK t s) a (record { left = left; cycle = cycle })) (outcome_at ∙ answer_is)
      (stands_set b state s t own served is fits may.goes_on.followed end a left cycle there ram alone back E_OK status_is)
      (ap (λ r. word_at r cur) back.left.ram ∙ alone.other cur (omega arith) (λ e. omega (arith, e)) (λ e. omega (arith, e)))

  -- the ticks that are left are told
  pub tells : slice_index end.core.registers a0 ≡ E_OK → (number : ℕ) → slice_index end.core.registers a1 ≡ number → BackEffect a1 state.core state end
      → outcome b.config served a mask t s ≡ GoesOn E_OK (answered_state_with number t s) → IsServiceAnswer b s t served touched end
  tells status_is number number_is back answer_is =
      answers_number b state s t own served is fits touched end 0 0 none names may.goes_on.followed back status_is number number_is (outcome_at ∙ answer_is)

  -- the test whether it is in use
  pub not_used : left_ticks a state.core ≡ 0 → is_in_use s a ≡ false
  not_used z = ap not (eq-eqb used.left 0 (sym left_is ∙ z))

  pub is_used : left_ticks a state.core ≢ 0 → is_in_use s a ≡ true
  is_used n = ap not (ne_eqb used.left 0 (λ z. n (left_is ∙ z)))

  -- the operands
  operand : (i : ℕ) → i < 25 → slice_index state.core.registers (i + 5) ≡ slice_index (task s t).registers i
  operand i h = sym (held_registers b state s t own served is fits i h)

  pub first_is : first_operand state.core ≡ slice_index (task s t).registers 5
  first_is = operand 5 (omega arith)

  pub second_is : second_operand state.core ≡ slice_index (task s t).registers 6
  second_is = operand 6 (omega arith)

  -- ---- SetRelAlarm and SetAbsAlarm: by what fits, and by the ticks that the alarm gets

  module _ (Fit : Core → Type 0) (ticks : Core → ℕ) (allowed : Bool) (all_fit : Fit state.core → allowed ≡ true) (none_fits : (Fit state.core → ⊥) → allowed ≡ false)
      (small : Fit state.core → ticks state.core < 2 ^ 32)
      (decides : (in_use : Bool) → is_in_use s a ≡ in_use → (fits : Bool) → allowed ≡ fits
      → outcome b.config served a mask t s
      ≡ cond in_use (GoesOn E_OS_STATE (answered_state E_OS_STATE t s))
      (cond fits (GoesOn E_OK (with_alarm (answered_state E_OK t s) a (record { left = ticks state.core; cycle = second_operand state.core })))
      (GoesOn E_OS_VALUE (answered_state E_OS_VALUE t s)))) where
    busy : HasAlarm a state end → IsServiceAnswer b s t served touched end
    busy h = refuses E_OS_STATE h.status h.back (decides true (is_used h.used) allowed refl)

    no_fit : HasNoFit a Fit state end → IsServiceAnswer b s t served touched end
    no_fit h = refuses E_OS_VALUE h.status h.back (decides false (not_used h.unused) false (none_fits h.none))

    now_set : HasAlarmSet a Fit ticks state end → IsServiceAnswer b s t served touched end
    now_set h =
        sets (ticks state.core) (second_operand state.core) _
        (set_alone old a (ticks state.core) (second_operand state.core) few (small h.fits) (may.words 11) k.fixed.ram) h.back h.status
        (decides false (not_used h.unused) true (all_fit h.fits))

    pub set_answers : SetAlarmEffect a Fit ticks touched state end → IsServiceAnswer b s t served touched end
    set_answers effect = ⊎_elim busy (λ (e : HasNoFit a Fit state end ⊎ HasAlarmSet a Fit ticks state end). ⊎_elim no_fit now_set e) effect.done

-- ---- the four services

module _ (b : Build) (state : State) (s : System) (t : ℕ) (own : Task) (a : ℕ) (touched : List ℕ) (end : State) (fits : HasFittingPlaces b) where
  abbrev declared : CounterDecl
  declared = counter_of b.config a

  -- CancelAlarm
  pub cancels : MayUseAlarm b state s t own service.CancelAlarm a → CancelAlarmEffect a touched state end → IsServiceAnswer b s t service.CancelAlarm touched end
  cancels may effect =
      let there = ltb-true a (length b.config.alarms) may.goes_on.names in
      let k = may.goes_on.is_served.stands in
      let few : a < alarm_limit = let f = fits.few_alarms in omega (arith, there, f) in
      let cycle : ℕ = (alarm s a).cycle in
      let now : ServiceOutcome = GoesOn E_OK (with_alarm (answered_state E_OK t s) a (record { left = 0; cycle = cycle })) in
      let no : ServiceOutcome = GoesOn E_OS_NOFUNC (answered_state E_OS_NOFUNC t s) in
      ⊎_elim
      (λ (h : HasNoAlarm a state end).
      refuses b state s t own service.CancelAlarm a touched end fits may there effect.touches E_OS_NOFUNC h.status h.back
      (ap (λ c. cond c now no) (not_used b state s t own service.CancelAlarm a touched end fits may there effect.touches h.unused)))
      (λ (h : HasCancelled a state end).
      let ram : List ℕ = with_word state.core.ram (alarm_left a) 0 in
      let long = k.fixed.ram in
      sets b state s t own service.CancelAlarm a touched end fits may there effect.touches 0 cycle ram
      (record {
        long = length-with_word state.core.ram (alarm_left a) 0;
        high = λ i l. get_or-with_word state.core.ram (alarm_left a) 0 i (inr (omega (arith, few, l)));
        other = λ p x n m. word_other state.core.ram (alarm_left a) 0 p x (omega arith) n;
        left_is = word_at-same state.core.ram (alarm_left a) 0 (omega (arith, few, long)) (omega arith);
        cycle_is = word_other state.core.ram (alarm_left a) 0 (alarm_cycle a) (omega arith) (omega arith) (λ e. omega (arith, e)) ∙ k.clock.cycles a there;
      })
      h.back h.status (ap (λ c. cond c now no) (is_used b state s t own service.CancelAlarm a touched end fits may there effect.touches h.used)))
      effect.done

  -- GetAlarm
  pub tells_left : MayUseAlarm b state s t own service.GetAlarm a → GetAlarmEffect a touched state end → IsServiceAnswer b s t service.GetAlarm touched end
  tells_left may effect =
      let there = ltb-true a (length b.config.alarms) may.goes_on.names in
      let now : ServiceOutcome = GoesOn E_OK (answered_state_with (alarm s a).left t s) in
      let no : ServiceOutcome = GoesOn E_OS_NOFUNC (answered_state E_OS_NOFUNC t s) in
      ⊎_elim
      (λ (h : HasNoAlarm a state end).
      refuses b state s t own service.GetAlarm a touched end fits may there effect.touches E_OS_NOFUNC h.status h.back
      (ap (λ c. cond c now no) (not_used b state s t own service.GetAlarm a touched end fits may there effect.touches h.unused)))
      (λ (h : HasToldLeft a state end).
      tells b state s t own service.GetAlarm a touched end fits may there effect.touches h.status (alarm s a).left
      (h.answer ∙ left_is b state s t own service.GetAlarm a touched end fits may there effect.touches) h.back
      (ap (λ c. cond c now no) (is_used b state s t own service.GetAlarm a touched end fits may there effect.touches h.used)))
      effect.done

  -- SetRelAlarm
  pub sets_relative : MayUseAlarm b state s t own service.SetRelAlarm a → SetAlarmEffect a (TicksFit declared.max declared.min_cycle) first_operand touched state end
      → IsServiceAnswer b s t service.SetRelAlarm touched end
  sets_relative may effect =
      let there = ltb-true a (length b.config.alarms) may.goes_on.names in
      let x = first_operand state.core in
      let y = second_operand state.core in
      let x_is = first_is b state s t own service.SetRelAlarm a touched end fits may there effect.touches in
      let y_is = second_is b state s t own service.SetRelAlarm a touched end fits may there effect.touches in
      let one : ServiceOutcome = GoesOn E_OS_STATE (answered_state E_OS_STATE t s) in
      let two : (ticks cycle : ℕ) → ServiceOutcome = λ ticks cycle. GoesOn E_OK (with_alarm (answered_state E_OK t s) a (record { left = ticks; cycle = cycle })) in
      let three : ServiceOutcome = GoesOn E_OS_VALUE (answered_state E_OS_VALUE t s) in
      set_answers b state s t own service.SetRelAlarm a touched end fits may there effect.touches (TicksFit declared.max declared.min_cycle) first_operand
      (allows_relative declared x y)
      (λ f. and_from (not (x == 0)) (leb x declared.max && allows_cycle declared y) (ap not (ne_eqb x 0 f.0))
      (and_from (leb x declared.max) (allows_cycle declared y) (le-leb x declared.max f.1) (cycle_yes declared y f.2)))
      (λ n. ⊎_elim
      (λ (z : x ≡ 0). and_left (not (x == 0)) (leb x declared.max && allows_cycle declared y) (ap not (eq-eqb x 0 z)))
      (λ (m : x ≢ 0). and_right (not (x == 0)) (leb x declared.max && allows_cycle declared y) (absolute_no declared x y (λ f. n (m, f.0, f.1))))
      (cases_eq x 0))
      (λ f. may.words 10)
      (λ in_use u fitting f.
      ap (λ c. cond c one (cond (allows_relative declared (slice_index (task s t).registers 5) (slice_index (task s t).registers 6)) (two (slice_index (task s t).registers 5) (slice_index (task s t).registers 6)) three)) u
      ∙ (ap (λ v. cond in_use one (cond (allows_relative declared v (slice_index (task s t).registers 6)) (two v (slice_index (task s t).registers 6)) three)) (sym x_is)
      ∙ ap (λ v. cond in_use one (cond (allows_relative declared x v) (two x v) three)) (sym y_is))
      ∙ ap (λ c. cond in_use one (cond c (two x y) three)) f)
      effect

  -- SetAbsAlarm
  pub sets_absolute : MayUseAlarm b state s t own service.SetAbsAlarm a
      → SetAlarmEffect a (AlarmValueFits declared.max declared.min_cycle) (ticks_until (alarm_declaration b.config a).counter declared.max) touched state end
      → IsServiceAnswer b s t service.SetAbsAlarm touched end
  sets_absolute may effect =
      let there = ltb-true a (length b.config.alarms) may.goes_on.names in
      let k = may.goes_on.is_served.stands in
      let c : ℕ = (alarm_declaration b.config a).counter in
      let on : c < length b.config.counters = (may.range.alarms a undeclared_alarm there).counter in
      let max : ℕ = declared.max in
      let limit = ((may.range.counters c undeclared_counter on).max).1 in
      let x = first_operand state.core in
      let y = second_operand state.core in
      let v : ℕ = word_at state.core.ram (counter_value c) in
      let v_is : v ≡ (counter s c).value = k.clock.values c on in
      let x_is = first_is b state s t own service.SetAbsAlarm a touched end fits may there effect.touches in
      let y_is = second_is b state s t own service.SetAbsAlarm a touched end fits may there effect.touches in
      let one : ServiceOutcome = GoesOn E_OS_STATE (answered_state E_OS_STATE t s) in
      let two : (ticks cycle : ℕ) → ServiceOutcome = λ ticks cycle. GoesOn E_OK (with_alarm (answered_state E_OK t s) a (record { left = ticks; cycle = cycle })) in
      let three : ServiceOutcome = GoesOn E_OS_VALUE (answered_state E_OS_VALUE t s) in
      set_answers b state s t own service.SetAbsAlarm a touched end fits may there effect.touches (AlarmValueFits max declared.min_cycle) (ticks_until c max)
      (allows_absolute declared x y)
      (λ f. and_from (leb x max) (allows_cycle declared y) (le-leb x max f.0) (cycle_yes declared y f.1))
      (λ n. absolute_no declared x y n)
      (λ f. let le = f.0 in
      ⊎_elim
      (λ (l : v < x). let e : ticks_to max v x ≡ x - v = ap (λ w. cond w (x - v) (x + (max + 1) - v)) (lt-ltb v x l) in omega (arith, e, le, limit))
      (λ (g : x ≤ v). let e : ticks_to max v x ≡ x + (max + 1) - v = ap (λ w. cond w (x - v) (x + (max + 1) - v)) (le-ltb v x g) in omega (arith, e, le, limit, g))
      (cases_lt v x))
      (λ in_use u fitting f.
      ap (λ w. cond w one (cond (allows_absolute declared (slice_index (task s t).registers 5) (slice_index (task s t).registers 6))
      (two (ticks_to max (counter s c).value (slice_index (task s t).registers 5)) (slice_index (task s t).registers 6)) three)) u
      ∙ (ap (λ w. cond in_use one (cond (allows_absolute declared w (slice_index (task s t).registers 6)) (two (ticks_to max (counter s c).value w) (slice_index (task s t).registers 6)) three)) (sym x_is)
      ∙ ap (λ w. cond in_use one (cond (allows_absolute declared x w) (two (ticks_to max (counter s c).value x) w) three)) (sym y_is)
      ∙ ap (λ w. cond in_use one (cond (allows_absolute declared x y) (two (ticks_to max w x) y) three)) (sym v_is))
      ∙ ap (λ w. cond in_use one (cond w (two (ticks_to max v x) y) three)) f)
      effect
