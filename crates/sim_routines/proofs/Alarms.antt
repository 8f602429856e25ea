-- What a tick does to the alarms in the machine is what it does to those of the system.
use Rattle.std.proofs.Common.{◌≡◌, ℕ, ◌+◌, ◌-◌, ◌^◌, ◌<◌, ◌≤◌, List, [], ◌∷◌, length, refl, sym, ap, ◌∙◌, subst, arith, ⊎_elim, Bool, true, false, cond}
use Rattle.std.specs.Prelude.{◌≢◌, ◌==◌, set}
use Rattle.std.specs.List.{AllByRecursion}
use Rattle.std.proofs.lemmas.Bool.{cases_eq, eq-eqb, ne_eqb}
use Rattle.std.proofs.lemmas.List.{set-get_or}
use Rattle.sloth_base.specs.declared.config.Action.{Action}
use Rattle.sloth_base.specs.declared.config.AlarmDecl.{AlarmDecl}
use Rattle.sloth_base.specs.Machine.{State}
use Rattle.sloth_base.specs.Limits.{alarm_limit}
use Rattle.sloth_region.specs.Layout.{alarm_left, alarm_cycle, counter_value, below_word}
use Rattle.rv32_instr.specs.Ram.{word_at}
use Rattle.masked_code.proofs.Words.{word_below}
use Rattle.service_gen.specs.Alarms.{alarms_from}
use Rattle.service_gen.specs.Tick.{Ground}
use Rattle.service_gen.specs.Tick as code
use Rattle.osek_scheduler.specs.declared.state.Alarm.{Alarm}
use Rattle.osek_scheduler.specs.State.{System, alarm, no_alarm}
use Rattle.osek_scheduler.specs.Services.{acted_state, with_left, alarm_ticked_state, alarms_ticked_state}
use Rattle.osek_scheduler.specs.Steps.{settled_state}
use Rattle.sim_relation.specs.Build.{Build, HasFittingPlaces}
use Rattle.sim_relation.proofs.Beside.{beside}
use Rattle.sim_relation.proofs.Machines.{changed_machine}
use Rattle.sim_routines.proofs.Acting.{ActsOn, at, Holds, acts_hold}
use Rattle.sim_routines.proofs.Clocks.{OneWord, alarm_set, written, twice}

module _ (b : Build) (end : State) (fits : HasFittingPlaces b) where
  -- the ticks that are left are others now
  left_holds : (a v : ℕ) (ram : List ℕ) (g : Ground) (s : System) → a < length b.config.alarms → OneWord (alarm_left a) v g.ram ram → Holds b end fits g s
      → Holds b end fits (record g { ram = ram }) (with_left a v s)
  left_holds a v ram g s there w h =
      let k = h.stands in
      let few = fits.few_alarms in
      record {
        stands = beside b (at b end fits g) (at b end fits (record g { ram = ram })) (settled_state s) k fits
            (record {
              machine = changed_machine b (at b end fits g) k.fixed end.pc ram g.pending g.enabled w.long refl refl;
              pc = refl;
              x2 = refl;
              x = λ i l. refl;
              level = refl;
              pending = λ t l. refl;
              enabled = refl;
              high = w.high;
              named = λ p l c. w.other p l (λ e. ⊎_elim (λ (x : p < counter_value 0). absurd (omega (arith, x, e))) (λ (x : below_word ≤ p). absurd (omega (arith, x, e, there, few))) c);
            })
            (with_left a v s).clock [] (λ c l. let n = k.lines.counters c l in record { enabled = n.enabled; pending = n.pending; level = n.level })
            (alarm_set b g.ram ram s.clock a v (alarm s a).cycle fits there w.is (w.other (alarm_cycle a) (omega arith) (λ e. omega (arith, e)) ∙ k.clock.cycles a there)
            (λ p l n m. w.other p l n) k.clock);
        bytes = w.bytes;
      }

  module _ (does : Action) (a : ℕ) (g : Ground) (s : System) (there : a < length b.config.alarms) (acts : ActsOn b does) (h : Holds b end fits g s) where
    abbrev v : ℕ
    v = word_at g.ram (alarm_left a)

    abbrev fewer : ℕ
    fewer = code.less_one v

    abbrev cycle : ℕ
    cycle = word_at g.ram (alarm_cycle a)

    v_is : v ≡ (alarm s a).left
    v_is = h.stands.clock.left a there

    cycle_is : cycle ≡ (alarm s a).cycle
    cycle_is = h.stands.clock.cycles a there

    is_alarm : a < alarm_limit
    is_alarm = let f = fits.few_alarms in omega (arith, there, f)

    v_small : v < 2 ^ 32
    v_small = word_below g.ram (alarm_left a) h.bytes

    cycle_small : cycle < 2 ^ 32
    cycle_small = word_below g.ram (alarm_cycle a) h.bytes

    abbrev less : Ground
    less = code.with_left a fewer g

    abbrev anew : Ground
    anew = code.with_left a cycle less

    first_written : OneWord (alarm_left a) fewer g.ram less.ram
    first_written = let f = is_alarm in let l = v_small in written (alarm_left a) fewer g.ram (omega arith) (omega arith) (omega arith) h.stands.fixed.ram h.bytes

    then_written : OneWord (alarm_left a) cycle g.ram anew.ram
    then_written =
        let f = is_alarm in
        let w = first_written in
        twice (alarm_left a) fewer cycle g.ram less.ram anew.ram w
        (written (alarm_left a) cycle less.ram (omega arith) (omega arith) cycle_small (w.long ∙ h.stands.fixed.ram) w.bytes)

    -- what the tick leaves, by what was left
    abbrev Leaves : Ground → Type 0
    Leaves now = Holds b end fits now (alarm_ticked_state does a s)

    abbrev expired : System
    expired = acted_state does (with_left a (alarm s a).cycle s)

    not_expired : (alarm s a).left ≢ 1 → alarm_ticked_state does a s ≡ with_left a ((alarm s a).left - 1) s
    not_expired n = ap (λ c. cond c expired (with_left a ((alarm s a).left - 1) s)) (ne_eqb (alarm s a).left 1 n)

    at_rest : v ≡ 0 → Leaves g
    at_rest z =
        let e : (alarm s a).left ≡ 0 = sym v_is ∙ z in
        let none : (alarm s a).left - 1 ≡ (alarm s a).left = omega (arith, e) in
        let same : set s.clock.alarms a (alarm s a) ≡ s.clock.alarms = set-get_or s.clock.alarms a no_alarm in
        subst (λ y. Holds b end fits g y) (sym (not_expired (λ f. omega (arith, e, f))))
        (subst (λ (y : ℕ). Holds b end fits g (with_left a y s)) (sym none)
        (subst (λ (y : List Alarm). Holds b end fits g (record s { clock = record s.clock { alarms = y } })) (sym same) h))

    goes_on : v ≢ 0 → fewer ≢ 0 → Leaves less
    goes_on m f =
        let e = v_is in
        let l = v_small in
        let fewer_is : fewer ≡ (alarm s a).left - 1 = omega arith in
        subst (λ y. Holds b end fits less y) (sym (not_expired (λ y. f (omega arith))))
        (subst (λ (y : ℕ). Holds b end fits less (with_left a y s)) fewer_is (left_holds a fewer less.ram g s there first_written h))

    expires : v ≢ 0 → fewer ≡ 0 → Leaves (code.action_ground does anew)
    expires m f =
        let e = v_is in
        let l = v_small in
        let one : (alarm s a).left ≡ 1 = omega arith in
        subst (λ y. Holds b end fits (code.action_ground does anew) y)
        (sym (ap (λ c. cond c expired (with_left a ((alarm s a).left - 1) s)) (eq-eqb (alarm s a).left 1 one)))
        (acts_hold b end fits does acts anew (with_left a (alarm s a).cycle s)
        (subst (λ (y : ℕ). Holds b end fits anew (with_left a y s)) cycle_is (left_holds a cycle anew.ram g s there then_written h)))

    pub alarm_holds : Leaves (code.alarm_ground (record { number = a; action = does }) g)
    alarm_holds =
        ⊎_elim
        (λ (z : v ≡ 0). subst Leaves (ap (λ c. cond c g (cond (fewer == 0) (code.action_ground does anew) less)) (sym (eq-eqb v 0 z))) (at_rest z))
        (λ (m : v ≢ 0).
        subst Leaves (ap (λ c. cond c g (cond (fewer == 0) (code.action_ground does anew) less)) (sym (ne_eqb v 0 m)))
        (⊎_elim
        (λ (z : fewer ≡ 0). subst Leaves (ap (λ c. cond c (code.action_ground does anew) less) (sym (eq-eqb fewer 0 z))) (expires m z))
        (λ (f : fewer ≢ 0). subst Leaves (ap (λ c. cond c (code.action_ground does anew) less) (sym (ne_eqb fewer 0 f))) (goes_on m f))
        (cases_eq fewer 0)))
        (cases_eq v 0)

  -- ---- the alarms in order

  -- by whether the first is the counter's
  by_counter : (c first : ℕ) (d : AlarmDecl) (later : List AlarmDecl) (g : Ground) (s : System) → first < length b.config.alarms → ActsOn b d.action
      → ((g : Ground) (s : System) → Holds b end fits g s → Holds b end fits (code.alarms_ground (alarms_from c (first + 1) later) g) (alarms_ticked_state c (first + 1) later s))
      → (is : Bool) → Holds b end fits g s
      → Holds b end fits
      (code.alarms_ground (cond is (record { number = first; action = d.action } ∷ alarms_from c (first + 1) later) (alarms_from c (first + 1) later)) g)
      (alarms_ticked_state c (first + 1) later (cond is (alarm_ticked_state d.action first s) s))
  by_counter c first d later g s there acts rest true h =
      rest (code.alarm_ground (record { number = first; action = d.action }) g) (alarm_ticked_state d.action first s) (alarm_holds d.action first g s there acts h)
  by_counter c first d later g s there acts rest false h = rest g s h

  pub alarms_hold : (c first : ℕ) (ds : List AlarmDecl) → first + length ds ≤ length b.config.alarms → AllByRecursion (λ (d : AlarmDecl). ActsOn b d.action) ds
      → (g : Ground) (s : System) → Holds b end fits g s → Holds b end fits (code.alarms_ground (alarms_from c first ds) g) (alarms_ticked_state c first ds s)
  alarms_hold c first [] few acts g s h = h
  alarms_hold c first (d ∷ later) few acts g s h =
      by_counter c first d later g s (omega arith) acts.0
      (λ now next k. alarms_hold c (first + 1) later (omega arith) acts.1 now next k)
      (d.counter == c) h
