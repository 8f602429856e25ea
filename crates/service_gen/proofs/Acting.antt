-- An alarm's code, and that of several in order.
use Rattle.std.proofs.Common.{◌≡◌, ℕ, suc, ◌+◌, ◌*◌, ◌^◌, ◌<◌, ◌≤◌, List, [], ◌∷◌, ◌++◌, length, refl, sym, ap, ◌∙◌, subst, arith, ⊎_elim, inl, inr, append_assoc, length-append}
use Rattle.std.specs.Prelude.{Bool, true, false, cond, ◌==◌, ◌||◌, set, bit_or, bit_and, ◌≢◌, eqb, not}
use Rattle.std.specs.Int.{bit_at}
use Rattle.std.proofs.lemmas.Bool.{cases_eq, cases_lt, cases_Bool, eq-eqb, ne_eqb}
use Rattle.std.proofs.lemmas.List.{length-set, get_or-set_other}
use Rattle.std.proofs.lemmas.Nat.Bits.{shr_and_one}
use Rattle.sloth_base.specs.Machine.{Core, State}
use Rattle.sloth_base.specs.Arithmetic.{left_shift, right_shift, hi}
use Rattle.sloth_base.specs.MemoryMap.{memory_base, memory_bytes, controller_base, line_count}
use Rattle.sloth_region.specs.Layout.{active, events, wait, alarm_left, alarm_cycle}
use Rattle.rv32_instr.specs.declared.InstrKind.{InstrKind}
use Rattle.rv32_instr.specs.Ram.{word_at, with_word}
use Rattle.masked_code.proofs.Owes.{◌▸◌, writes, loads, stores, raises, sets_enabled, Owes}
use Rattle.masked_code.proofs.Words.{word_at-other}
use Rattle.masked_code.proofs.Parts.{hi_lo}
use Rattle.masked_code.proofs.Leave.{behind}
use Rattle.block_parts.proofs.Landing.{lands}
use Rattle.sloth_base.specs.declared.config.Action.{Action}
use Rattle.sloth_base.specs.declared.config.Action.TheVariants.{Activate, Set}
use Rattle.sloth_base.specs.Limits.{task_limit, alarm_limit}
use Rattle.code_lengths.specs.CodeLengths.{sets_events_of}
use Rattle.service_gen.specs.declared.tick_code.NumberedAlarm.{NumberedAlarm}
use Rattle.service_gen.specs.Alarms.{IsActionInRange, IsAlarmInRange, AreAlarmsInRange, is_target}
use Rattle.block_parts.specs.Ticks.{awaited_events_test}
use Rattle.service_gen.specs.AlarmPieces.{waking_code, basing_code, action_code, action_size, losing_code, alarm_code, alarms_code}
use Rattle.service_gen.specs.Tick.{Ground, is_suspended_task, grown_events, with_events, woken_ground, with_set, action_ground, less_one, with_left, alarm_ground, alarms_ground}
use Rattle.service_gen.proofs.Passing.{passes}
use Rattle.service_gen.proofs.Flags.{KnowsAll, knows_ram, knows_raised, added_one, added_other}

-- ---- words apart

left_active : (ram : List ℕ) (alarm v task : ℕ) → alarm < alarm_limit → task < task_limit → word_at (with_word ram (alarm_left alarm) v) (active task) ≡ word_at ram (active task)
left_active ram alarm v task a t = word_at-other ram (alarm_left alarm) v (active task) (inl (omega arith))

events_active : (ram : List ℕ) (t v u : ℕ) → word_at (with_word ram (events t) v) (active u) ≡ word_at ram (active u)
events_active ram t v u = word_at-other ram (events t) v (active u) (⊎_elim (λ (a : t < u). inr (omega arith)) (λ (a : u ≤ t). inl (omega arith)) (cases_lt t u))

module _ (from to : ℕ) (low : 1024 ≤ from) (E : List ℕ → State → State → Type 0) (start : State) (x2 : ℕ) (tail : List ℕ) (base : Core) (target : ℕ → Bool) where
  -- the machine
  abbrev mach : Ground → ℕ → ℕ → Core
  mach c x1 flags = record base { registers = 0 ∷ x1 ∷ x2 ∷ flags ∷ memory_base ∷ tail; ram = c.ram; pending = c.pending; enabled = c.enabled }

  -- what is owed of code behind which the machine is as this one is after a change
  abbrev pub Leads : List InstrKind → List InstrKind → Ground → Ground → Type 0
  Leads code rest c d =
      (o x1 flags : ℕ) → o + 4 * length (code ++ rest) ≤ memory_bytes → KnowsAll target flags c → length c.pending ≡ line_count
      → ((o2 y1 now : ℕ) → o2 + 4 * length rest ≤ memory_bytes → KnowsAll target now d → length d.pending ≡ line_count
      → Owes from to o2 rest 0 E start (mach d y1 now))
      → Owes from to o (code ++ rest) 0 E start (mach c x1 flags)

  -- ---- actions

  activate_owes : (rest : List InstrKind) (c : Ground) (t : ℕ) → t < task_limit → Leads (action_code (Activate t)) rest c (action_ground (Activate t) c)
  activate_owes rest c t few o x1 flags fits knows long go =
      let now = bit_or flags (left_shift 1 t) in
      let all = length-append (action_code (Activate t)) rest in
      let n : length (action_code (Activate t)) ≡ 6 = refl in
      writes controller_base refl
      ▸ writes 1 refl
      ▸ raises t (omega arith, omega arith) (λ z. absurd (cc))
      ▸ writes memory_base refl
      ▸ writes (left_shift 1 t) refl
      ▸ writes now refl
      ▸ go (behind 6 o) (left_shift 1 t) now (omega arith)
      (knows_raised target flags now t c c.enabled (omega arith) (added_one flags t (omega arith))
      (λ u n. added_other flags 1 t u (omega arith) (omega arith) n) (λ u n. refl) knows)
      (length-set c.pending t 1 ∙ long)

  module _ (rest : List InstrKind) (t mask : ℕ) (few : t < task_limit) (word : mask < 2 ^ 32) (set_t : target t ≡ true) where
    -- the task is not Suspended
    module _ (c : Ground) (awake : is_suspended_task t c ≡ false) where
      abbrev v : ℕ
      v = grown_events t mask c

      abbrev waits_for : ℕ
      waits_for = word_at c.ram (wait t)

      abbrev both : ℕ
      both = bit_and v waits_for

      abbrev d : Ground
      d = with_events t v c

      none_is : both ≡ 0 → action_ground (Set t mask) c ≡ d
      none_is z =
          ap (λ b. cond b c (with_set t mask c)) awake
          ∙ ap (λ b. cond b d (woken_ground t d)) (eq-eqb both 0 z)

      some_is : both ≢ 0 → action_ground (Set t mask) c ≡ woken_ground t d
      some_is n =
          ap (λ b. cond b c (with_set t mask c)) awake
          ∙ ap (λ b. cond b d (woken_ground t d)) (ne_eqb both 0 n)

      knows_d : (flags : ℕ) → KnowsAll target flags c → KnowsAll target flags d
      knows_d flags k = knows_ram target flags c d.ram (λ u h. events_active c.ram t v u) k

    -- behind its new events, at the look at those that it awaits
    awaits : (c : Ground) (s : is_suspended_task t c ≡ false) (o flags : ℕ) → o + 4 * length (awaited_events_test t ++ (waking_code t ++ (basing_code ++ rest))) ≤ memory_bytes
        → bit_at flags t ≡ 1 → KnowsAll target flags c → length c.pending ≡ line_count
        → ((o2 y1 now : ℕ) → o2 + 4 * length rest ≤ memory_bytes → KnowsAll target now (action_ground (Set t mask) c) → length (action_ground (Set t mask) c).pending ≡ line_count
        → Owes from to o2 rest 0 E start (mach (action_ground (Set t mask) c) y1 now))
        → Owes from to o (awaited_events_test t ++ (waking_code t ++ (basing_code ++ rest))) 0 E start (mach (d c s) (v c s) flags)
    awaits c s o flags fits one knows long go =
        loads (wait t) (record { is = omega arith; aligned = omega arith; inside = omega arith }) (waits_for c s) (word_at-other c.ram (events t) (v c s) (wait t) (inr (omega arith)))
        ▸ writes (both c s) refl
        ▸ record {
          passed = 4;
          lands = lands (o + 4 + 4) 20 4 (omega arith) (omega arith) refl;
          when_taken = λ y. ⊎_elim
              (λ (e : both c s ≡ 0).
              let same = none_is c s e in
              writes memory_base refl
              ▸ subst (λ x. Owes from to (behind 8 o) rest 0 E start (mach x (both c s) flags)) same
              (go (behind 8 o) (both c s) flags (omega arith) (subst (KnowsAll target flags) (sym same) (knows_d c s flags knows))
              (ap (λ (x : Ground). length x.pending) same ∙ long)))
              (λ (e : both c s ≢ 0). let f = ne_eqb (both c s) 0 e in absurd (cc))
              (cases_eq (both c s) 0);
          when_not = λ y. ⊎_elim
              (λ (e : both c s ≡ 0). absurd (y (eq-eqb (both c s) 0 e)))
              (λ (e : both c s ≢ 0).
              let same = some_is c s e in
              let enabled = set c.enabled t 1 in
              writes controller_base refl
              ▸ writes 1 refl
              ▸ raises t (omega arith, omega arith) (λ z. absurd (cc))
              ▸ sets_enabled t (omega arith, omega arith)
              ▸ writes memory_base refl
              ▸ subst (λ x. Owes from to (behind 8 o) rest 0 E start (mach x 1 flags)) same
              (go (behind 8 o) 1 flags (omega arith)
              (subst (KnowsAll target flags) (sym same)
              (knows_raised target flags flags t (d c s) enabled (omega arith) one (λ u n. refl)
              (λ u n. get_or-set_other c.enabled t u 1 0 n) (knows_d c s flags knows)))
              (ap (λ (x : Ground). length x.pending) same ∙ length-set c.pending t 1 ∙ long)))
              (cases_eq (both c s) 0);
        }

    sets_owe : (c : Ground) → Leads (action_code (Set t mask)) rest c (action_ground (Set t mask) c)
    sets_owe c o x1 flags fits knows long go =
        let bit = bit_at flags t in
        let all = length-append (action_code (Set t mask)) rest in
        let n : length (action_code (Set t mask)) ≡ 17 = refl in
        let known = knows.each t set_t in
        writes (right_shift flags t) refl
        ▸ writes bit (shr_and_one flags t)
        ▸ record {
          passed = 14;
          lands = lands (o + 4 + 4) 60 14 (omega arith) (omega arith) refl;
          when_taken = λ z. ⊎_elim
              (λ (s : is_suspended_task t c ≡ true).
              let same : action_ground (Set t mask) c ≡ c = ap (λ b. cond b c (with_set t mask c)) s in
              subst (λ x. Owes from to (behind 17 o) rest 0 E start (mach x bit flags)) same
              (go (behind 17 o) bit flags (omega arith) (subst (KnowsAll target flags) (sym same) knows) (ap (λ (x : Ground). length x.pending) same ∙ long)))
              (λ (s : is_suspended_task t c ≡ false).
              let one : bit ≡ 1 = known ∙ ap (λ b. cond b 0 1) s in
              let f : eqb bit 0 ≡ false = ap (λ x. eqb x 0) one in absurd (cc))
              (cases_Bool (is_suspended_task t c));
          when_not = λ n. ⊎_elim
              (λ (s : is_suspended_task t c ≡ true). absurd (n (eq-eqb bit 0 (known ∙ ap (λ b. cond b 0 1) s))))
              (λ (s : is_suspended_task t c ≡ false).
              let one : bit ≡ 1 = known ∙ ap (λ b. cond b 0 1) s in
              loads (events t) (record { is = omega arith; aligned = omega arith; inside = omega arith }) (word_at c.ram (events t)) refl
              ▸ writes (hi mask * 4096) refl
              ▸ writes mask (hi_lo mask word)
              ▸ writes (v c s) refl
              ▸ writes memory_base refl
              ▸ stores (events t) (record { is = omega arith; aligned = omega arith; inside = omega arith }) (inl (omega arith))
              ▸ awaits c s (behind 9 o) flags (omega arith) one knows long go)
              (cases_Bool (is_suspended_task t c));
        }

  acts_owe : (action : Action) → IsActionInRange action → ((u : ℕ) → sets_events_of u action ≡ true → target u ≡ true) → (rest : List InstrKind) (c : Ground)
      → Leads (action_code action) rest c (action_ground action c)
  acts_owe (Activate t) is covered rest c = activate_owes rest c t is
  acts_owe (Set t mask) is covered rest c = sets_owe rest t mask is.0 is.1 (covered t (eq-eqb t t refl)) c

  -- ---- an alarm

  -- an action's code is as long as the table says
  pub size_is : (action : Action) → length (action_code action) ≡ action_size action
  size_is (Activate t) = refl
  size_is (Set t mask) = refl

  -- and at most 17 instructions
  pub size_below : (action : Action) → action_size action ≤ 17
  size_below (Activate t) = omega arith
  size_below (Set t mask) = omega arith

  passes_act : (action : Action) (rest : List InstrKind) (o : ℕ) (c : Core)
      → ((o2 : ℕ) → o2 ≡ o + 4 * action_size action → Owes from to o2 rest 0 E start c)
      → Owes from to o (action_code action ++ rest) (action_size action) E start c
  passes_act action rest o c go = passes from to E start (action_code action) rest (action_size action) o c (size_is action) go

  module _ (alarm : NumberedAlarm) (is : IsAlarmInRange alarm) (covered : (u : ℕ) → sets_events_of u alarm.action ≡ true → target u ≡ true) (rest : List InstrKind) (c : Ground) where
    abbrev number : ℕ
    number = alarm.number

    abbrev size : ℕ
    size = action_size alarm.action

    abbrev ticks_left : ℕ
    ticks_left = word_at c.ram (alarm_left number)

    abbrev fewer : ℕ
    fewer = less_one ticks_left

    abbrev cycle : ℕ
    cycle = word_at c.ram (alarm_cycle number)

    abbrev lost : Ground
    lost = with_left number fewer c

    abbrev anew : Ground
    anew = with_left number cycle lost

    rests_is : ticks_left ≡ 0 → alarm_ground alarm c ≡ c
    rests_is z = ap (λ b. cond b c (cond (fewer == 0) (action_ground alarm.action anew) lost)) (eq-eqb ticks_left 0 z)

    goes_on_is : ticks_left ≢ 0 → fewer ≢ 0 → alarm_ground alarm c ≡ lost
    goes_on_is n m =
        ap (λ b. cond b c (cond (fewer == 0) (action_ground alarm.action anew) lost)) (ne_eqb ticks_left 0 n)
        ∙ ap (λ b. cond b (action_ground alarm.action anew) lost) (ne_eqb fewer 0 m)

    expires_is : ticks_left ≢ 0 → fewer ≡ 0 → alarm_ground alarm c ≡ action_ground alarm.action anew
    expires_is n z =
        ap (λ b. cond b c (cond (fewer == 0) (action_ground alarm.action anew) lost)) (ne_eqb ticks_left 0 n)
        ∙ ap (λ b. cond b (action_ground alarm.action anew) lost) (eq-eqb fewer 0 z)

    knows_lost : (flags : ℕ) → KnowsAll target flags c → KnowsAll target flags lost
    knows_lost flags k = knows_ram target flags c lost.ram (λ u h. left_active c.ram number fewer u is.number h) k

    knows_anew : (flags : ℕ) → KnowsAll target flags c → KnowsAll target flags anew
    knows_anew flags k = knows_ram target flags lost anew.ram (λ u h. left_active lost.ram number cycle u is.number h) (knows_lost flags k)

    alarm_owes : Leads (alarm_code alarm) rest c (alarm_ground alarm c)
    alarm_owes o x1 flags fits knows long go =
        let few = is.number in
        let small = size_below alarm.action in
        let long_code = length-append (action_code alarm.action) rest in
        let long_act = size_is alarm.action in
        let long_own = length-append (alarm_code alarm) rest in
        let long_alarm = length-append (losing_code number size) (action_code alarm.action) in
        let seven : length (losing_code number size) ≡ 7 = refl in
        loads (alarm_left number) (record { is = omega arith; aligned = omega arith; inside = omega arith }) ticks_left refl
        ▸ record {
          passed = suc (suc (suc (suc (suc size))));
          lands = lands (o + 4) (4 + 4 * (5 + size)) (suc (suc (suc (suc (suc size))))) (omega arith) (omega arith) (omega arith);
          when_taken = λ z. ⊎_elim
              (λ (e : ticks_left ≡ 0).
              passes_act alarm.action rest (behind 7 o) (mach c ticks_left flags) (λ o2 f.
              subst (λ x. Owes from to o2 rest 0 E start (mach x ticks_left flags)) (rests_is e)
              (go o2 ticks_left flags (omega arith) (subst (KnowsAll target flags) (sym (rests_is e)) knows)
              (ap (λ (x : Ground). length x.pending) (rests_is e) ∙ long))))
              (λ (n : ticks_left ≢ 0). let f = ne_eqb ticks_left 0 n in absurd (cc))
              (cases_eq ticks_left 0);
          when_not = λ y. ⊎_elim
              (λ (e : ticks_left ≡ 0). absurd (y (eq-eqb ticks_left 0 e)))
              (λ (n : ticks_left ≢ 0).
              writes fewer refl
              ▸ stores (alarm_left number) (record { is = omega arith; aligned = omega arith; inside = omega arith }) (inl (omega arith))
              ▸ record {
                passed = suc (suc size);
                lands = lands (behind 4 o) (4 + 4 * (2 + size)) (suc (suc size)) (omega arith) (omega arith) (omega arith);
                when_taken = λ z. ⊎_elim
                    (λ (e : fewer ≡ 0). let f = ap not (eq-eqb fewer 0 e) in absurd (cc))
                    (λ (m : fewer ≢ 0).
                    let same = goes_on_is n m in
                    passes_act alarm.action rest (behind 7 o) (mach lost fewer flags) (λ o2 f.
                    subst (λ x. Owes from to o2 rest 0 E start (mach x fewer flags)) same
                    (go o2 fewer flags (omega arith) (subst (KnowsAll target flags) (sym same) (knows_lost flags knows))
                    (ap (λ (x : Ground). length x.pending) same ∙ long))))
                    (cases_eq fewer 0);
                when_not = λ z. ⊎_elim
                    (λ (e : fewer ≡ 0).
                    let same = expires_is n e in
                    loads (alarm_cycle number) (record { is = omega arith; aligned = omega arith; inside = omega arith }) cycle
                    (word_at-other c.ram (alarm_left number) fewer (alarm_cycle number) (inr (omega arith)))
                    ▸ stores (alarm_left number) (record { is = omega arith; aligned = omega arith; inside = omega arith }) (inl (omega arith))
                    ▸ acts_owe alarm.action is.action covered rest anew (behind 7 o) cycle flags (omega arith) (knows_anew flags knows) long
                    (λ o2 y1 now fits2 knows2 long2.
                    subst (λ x. Owes from to o2 rest 0 E start (mach x y1 now)) same
                    (go o2 y1 now fits2 (subst (KnowsAll target now) (sym same) knows2) (ap (λ (x : Ground). length x.pending) same ∙ long2))))
                    (λ (m : fewer ≢ 0). absurd (z (ap not (ne_eqb fewer 0 m))))
                    (cases_eq fewer 0);
              })
              (cases_eq ticks_left 0);
        }

  -- ---- alarms in order

  first_target : (u : ℕ) (a b : Bool) → a ≡ true → (a || b) ≡ true
  first_target u a b h = ap (λ x. x || b) h

  second_target : (u : ℕ) (a b : Bool) → b ≡ true → (a || b) ≡ true
  second_target u true b h = refl
  second_target u false b h = h

  -- the code of alarms changes the machine as they do, one behind the other, where each task that they set events of was looked at
  pub alarms_owe : (alarms : List NumberedAlarm) → AreAlarmsInRange alarms → ((u : ℕ) → is_target u alarms ≡ true → target u ≡ true)
      → (rest : List InstrKind) (c : Ground) → Leads (alarms_code alarms) rest c (alarms_ground alarms c)
  alarms_owe [] is covered rest c o x1 flags fits knows long go = go o x1 flags fits knows long
  alarms_owe (alarm ∷ later) is covered rest c o x1 flags fits knows long go =
      let e = append_assoc (alarm_code alarm) (alarms_code later) rest in
      subst (λ code. Owes from to o code 0 E start (mach c x1 flags)) (sym e)
      (alarm_owes alarm is.0 (λ u h. covered u (first_target u (sets_events_of u alarm.action) (is_target u later) h)) (alarms_code later ++ rest) c
      o x1 flags (subst (λ code. o + 4 * length code ≤ memory_bytes) e fits) knows long
      (λ o2 y1 now fits2 knows2 long2.
      alarms_owe later is.1 (λ u h. covered u (second_target u (sets_events_of u alarm.action) (is_target u later) h)) rest (alarm_ground alarm c)
      o2 y1 now fits2 knows2 long2 go))
