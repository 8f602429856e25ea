-- Ticks make a task Ready or set its events no more often than alarms of their counter expire.
use Rattle.std.proofs.Common.{◌≡◌, ℕ, zero, suc, ◌+◌, ◌-◌, ◌*◌, ◌/◌, ◌<◌, ◌≤◌, ◌⊎◌, ◌==◌, ◌&&◌, ◌||◌, not, List, [], ◌∷◌, ◌++◌, Bool, true, false, cond, min, map, length, get_or, refl, sym, ap, ◌∙◌, subst, arith, inl, inr, le-div_iff_mul-le}
use Rattle.std.specs.List.{AllByRecursion}
use Rattle.std.proofs.lemmas.Bool.{cases_Bool, cond_both, false≢true, eqb-true, ne_eqb, le-ltb, and_parts}
use Rattle.sloth_base.specs.Options.{is_number}
use Rattle.sloth_base.specs.declared.config.Action.{Action}
use Rattle.sloth_base.specs.declared.config.AlarmDecl.{AlarmDecl}
use Rattle.sloth_base.specs.declared.config.Config.{Config}
use Rattle.sloth_base.specs.declared.app.App.{App}
use Rattle.sloth_base.specs.declared.service.Event.{Event}
use Rattle.sloth_base.specs.declared.service.Event.TheVariants as event
use Rattle.sloth_base.specs.Named.{counter_declaration, undeclared_alarm, alarm_declaration, operation}
use Rattle.sloth_base.specs.Owners.{counter_line}
use Rattle.osek_scheduler.specs.declared.state.Alarm.{Alarm}
use Rattle.osek_scheduler.specs.State.{Task, System, task, no_alarm, alarm, opening}
use Rattle.osek_scheduler.specs.Services.{with_left, acted_state, alarm_ticked_state, alarms_ticked_state, counted_on_state}
use Rattle.osek_scheduler.specs.Steps.{OsekStep}
use Rattle.osek_scheduler.proofs.Facts.{facts}
use Rattle.osek_scheduler.proofs.Leading.{follows_leads}
use Rattle.osek_scheduler.proofs.Steps.{opening_valid}
use Rattle.osek_blocking.proofs.Ordering.{opening_ordered}
use Rattle.run_counts.specs.Stages.{Stage, end_of, run_stages}
use Rattle.run_counts.specs.Rounds.{total}
use Rattle.response_laws.specs.Sums.{total_where, count}
use Rattle.response_laws.specs.Turns.{ticking_counter, at_tick, is_ready_for, has_grown, activated, was_set}
use Rattle.response_laws.specs.Ticks.{activates, sets_events}
use Rattle.response_laws.specs.Expiries.{sets_alarm, MarksAlarms, cyclic_expiries, booted_expiries, expiries, expiring, TicksMakeAsAlarmsExpire}
use Rattle.response_laws.proofs.AlarmSteps.{alarm_behind, ticked_other, leaves_alarm}
use Rattle.response_laws.proofs.Linked.{Known, Linked, last_state, last_end, linked_front, linked_behind, each_append, stages_linked, stages_known}
use Rattle.response_laws.proofs.Steps.{activated_between, set_between, at_most_one}
use Rattle.response_laws.proofs.Sums.{one_more}
use Rattle.response_laws.proofs.Ticks.{IsUnmade, IsUnset, first_unmade, first_unset, safe_activates, safe_sets}

-- ---- one alarm

-- 1 where the alarm expires with a tick of counter c
abbrev expired : (c a : ℕ) → Stage → ℕ
expired c a x = cond (at_tick c x) (cond ((alarm x.found a).left == 1) 1 0) 0

-- so many expiries come within m ticks, from where the alarm stands so
abbrev FitsExpiries : Alarm → (m e : ℕ) → Type 0
FitsExpiries k m e = (e ≡ 0) ⊎ ((q : ℕ) × (e ≡ suc q) × (1 ≤ k.left) × (k.left + q * k.cycle ≤ m) × ((q ≡ 0) ⊎ (1 ≤ k.cycle)))

tick_fits : (k next : Alarm) (m e : ℕ) → next ≡ alarm_behind true k → FitsExpiries next m e → FitsExpiries k (1 + m) (cond (k.left == 1) 1 0 + e)
tick_fits k next m e is rest = by (k.left == 1) refl (ap (λ (z : Alarm). z.left) is) (ap (λ (z : Alarm). z.cycle) is) rest
  where
    by : (b : Bool) → (k.left == 1) ≡ b → next.left ≡ cond b k.cycle (k.left - 1) → next.cycle ≡ k.cycle → FitsExpiries next m e → FitsExpiries k (1 + m) (cond b 1 0 + e)
    by true one left cycle (inl none) =
        let here = eqb-true k.left 1 one in
        inr (0, (omega (arith, none)), (omega (arith, here)), (omega (arith, here)), inl refl)
    by true one left cycle (inr (q, some, ahead, fits, which)) =
        let here = eqb-true k.left 1 one in
        let more = one_more q k.cycle in
        let same = ap (λ n. q * n) cycle in
        inr (suc q, (omega (arith, some)), (omega (arith, here)), (omega (arith, here, more, same, fits, left)), inr (omega (arith, ahead, left)))
    by false other left cycle (inl none) = inl (omega (arith, none))
    by false other left cycle (inr (q, some, ahead, fits, which)) =
        let same = ap (λ n. q * n) cycle in
        inr (q, (omega (arith, some)), (omega (arith, ahead, left)), (omega (arith, fits, left, ahead, same)), way which)
      where
        way : (q ≡ 0) ⊎ (1 ≤ next.cycle) → (q ≡ 0) ⊎ (1 ≤ k.cycle)
        way (inl none) = inl none
        way (inr some) = inr (omega (arith, some, cycle))

calm_fits : (k next : Alarm) (m e : ℕ) → (next ≡ k) ⊎ ((next.left ≡ 0) × (next.cycle ≡ k.cycle)) → FitsExpiries next m e → FitsExpiries k (0 + m) (0 + e)
calm_fits k next m e which (inl none) = inl (omega (arith, none))
calm_fits k next m e (inl same) (inr (q, some, ahead, fits, few)) =
    let P : Alarm → Type 0 = λ z. (1 ≤ z.left) × (z.left + q * z.cycle ≤ 0 + m) × ((q ≡ 0) ⊎ (1 ≤ z.cycle)) in
    let there = subst P same (ahead, (omega (arith, fits)), few) in
    inr (q, (omega (arith, some)), there.0, there.1, there.2)
calm_fits k next m e (inr (zero_left, cycle)) (inr (q, some, ahead, fits, few)) = absurd (omega (arith, zero_left, ahead))

pub opened_at : (ds : List AlarmDecl) (i : ℕ) → i < length ds
    → get_or (map (λ (d : AlarmDecl). record { left = d.time; cycle = d.cycle }) ds) i no_alarm
    ≡ record { left = (get_or ds i undeclared_alarm).time; cycle = (get_or ds i undeclared_alarm).cycle }
opened_at [] i lt = absurd (omega (arith, lt))
opened_at (d ∷ ds) zero lt = refl
opened_at (d ∷ ds) (suc i) lt = opened_at ds i (omega (arith, lt))

module _ (config : Config) (app : App) (a : ℕ) (inside : a < length config.alarms) where
  abbrev pub decl : AlarmDecl
  decl = alarm_declaration config a

  -- each expiry is a tick
  expired_few : (c : ℕ) (xs : List Stage) → total (expired c a) xs ≤ count (at_tick c) xs
  expired_few c [] = omega arith
  expired_few c (x ∷ xs) = let rest = expired_few c xs in let here = by (at_tick c x) ((alarm x.found a).left == 1) in omega (arith, rest, here)
    where
      by : (t b : Bool) → cond t (cond b 1 0) 0 ≤ cond t 1 0
      by true true = omega arith
      by true false = omega arith
      by false b = omega arith

  module _ (unset : (f i : ℕ) → sets_alarm a (operation app f i) ≡ false) where
    fits_in : (at : ℕ) (s : System) (xs : List Stage) → Linked at s xs → AllByRecursion (Known config app) xs
        → FitsExpiries (alarm s a) (count (at_tick decl.counter) xs) (total (expired decl.counter a) xs)
    fits_in at s [] l k = inl refl
    fits_in at s (x ∷ xs) l k =
        subst (λ (y : System). FitsExpiries (alarm y a) (count (at_tick decl.counter) (x ∷ xs)) (total (expired decl.counter a) (x ∷ xs))) l.1
        (by (at_tick decl.counter x) refl (fits_in (end_of x) x.next xs l.2 k.1))
      where
        by : (b : Bool) → at_tick decl.counter x ≡ b → FitsExpiries (alarm x.next a) (count (at_tick decl.counter) xs) (total (expired decl.counter a) xs)
            → FitsExpiries (alarm x.found a) (cond b 1 0 + count (at_tick decl.counter) xs)
            (cond b (cond ((alarm x.found a).left == 1) 1 0) 0 + total (expired decl.counter a) xs)
        by true is rest =
            tick_fits (alarm x.found a) (alarm x.next a) (count (at_tick decl.counter) xs) (total (expired decl.counter a) xs)
            ((leaves_alarm config app a inside x.stamped.event x.found x.next (λ _ _ _ h. unset h.at.frame.func h.at.frame.item) k.0.step).0 is) rest
        by false off rest =
            calm_fits (alarm x.found a) (alarm x.next a) (count (at_tick decl.counter) xs) (total (expired decl.counter a) xs)
            ((leaves_alarm config app a inside x.stamped.event x.found x.next (λ _ _ _ h. unset h.at.frame.func h.at.frame.item) k.0.step).1 off) rest

    -- it keeps its cycle; where it does not start with the system, it is not in use
    pub record Stands (s : System) : Type 0 where
      pub cycle : (alarm s a).cycle ≡ decl.cycle
      pub unused : decl.time ≡ 0 → (alarm s a).left ≡ 0

    pub opens : Stands (opening config app)
    opens =
        let is = opened_at config.alarms a inside in
        record { cycle = ap (λ (k : Alarm). k.cycle) is; unused = λ none. ap (λ (k : Alarm). k.left) is ∙ none }

    pub stands_on : (e : Event) (s next : System) → OsekStep config app e s next → Stands s → Stands next
    stands_on e s next step h = by (cases_Bool (is_number decl.counter (ticking_counter e)))
      where
        ticked : alarm next a ≡ alarm_behind true (alarm s a) → Stands next
        ticked is = record {
          cycle = ap (λ (k : Alarm). k.cycle) is ∙ h.cycle;
          unused = λ none. ap (λ (k : Alarm). k.left) is ∙ ap (λ n. cond (n == 1) (alarm s a).cycle (n - 1)) (h.unused none);
        }

        calm : (alarm next a ≡ alarm s a) ⊎ (((alarm next a).left ≡ 0) × ((alarm next a).cycle ≡ (alarm s a).cycle)) → Stands next
        calm (inl same) = record { cycle = ap (λ (k : Alarm). k.cycle) same ∙ h.cycle; unused = λ none. ap (λ (k : Alarm). k.left) same ∙ h.unused none }
        calm (inr (zero_left, cycle)) = record { cycle = cycle ∙ h.cycle; unused = λ none. zero_left }

        by : (is_number decl.counter (ticking_counter e) ≡ true) ⊎ (is_number decl.counter (ticking_counter e) ≡ false) → Stands next
        by (inl is) = ticked ((leaves_alarm config app a inside e s next (λ _ _ _ h. unset h.at.frame.func h.at.frame.item) step).0 is)
        by (inr off) = calm ((leaves_alarm config app a inside e s next (λ _ _ _ h. unset h.at.frame.func h.at.frame.item) step).1 off)

    stands_behind : (at : ℕ) (s : System) (xs : List Stage) → Linked at s xs → AllByRecursion (Known config app) xs → Stands s → Stands (last_state s xs)
    stands_behind at s [] l k h = h
    stands_behind at s (x ∷ xs) l k h =
        stands_behind (end_of x) x.next xs l.2 k.1 (stands_on x.stamped.event x.found x.next k.0.step (subst Stands (sym l.1) h))

    within : (boot : Bool) (s : System) (m most e : ℕ) → Stands s → (boot ≡ true → (alarm s a).left ≡ decl.time) → m ≤ most → FitsExpiries (alarm s a) m e
        → e ≤ cond (decl.time == 0) 0 (cond boot (booted_expiries decl.time decl.cycle most) (cyclic_expiries decl.cycle most))
    within boot s m most e stands first le (inl none) = omega (arith, none)
    within boot s m most e stands first le (inr (q, some, ahead, fits, which)) = by (decl.time == 0) refl
      where
        cyclic : (n : ℕ) → decl.cycle ≡ n → e ≤ cyclic_expiries n most
        cyclic zero is =
            let none = single which in
            let same = ap (λ v. v * (alarm s a).cycle) none in
            omega (arith, some, none, ahead, fits, same, le)
          where
            single : (q ≡ 0) ⊎ (1 ≤ (alarm s a).cycle) → q ≡ 0
            single (inl none) = none
            single (inr positive) = let own = stands.cycle in absurd (omega (arith, positive, own, is))
        cyclic (suc n) is =
            subst (λ b. e ≤ cond b (min most 1) ((most + suc n - 1) / suc n)) (sym (ne_eqb (suc n) 0 (λ z. omega (arith, z))))
            ((le-div_iff_mul-le {k = suc n} {x = e} {y = most + suc n - 1} (omega arith)).1
            (let same = stands.cycle in
            let own : q * (alarm s a).cycle ≡ q * suc n = ap (λ v. q * v) (same ∙ is) in
            let more = one_more q (suc n) in
            let whole = ap (λ v. v * suc n) some in
            omega (arith, ahead, fits, own, more, whole, le)))

        booted : (alarm s a).left ≡ decl.time → (n : ℕ) → decl.cycle ≡ n → e ≤ booted_expiries decl.time n most
        booted left n is =
            subst (λ b. e ≤ cond b 0 (cond (n == 0) 1 (1 + (most - decl.time) / n))) (sym (le-ltb most decl.time (omega (arith, left, fits, le)))) (counted n is)
          where
            counted : (n : ℕ) → decl.cycle ≡ n → e ≤ cond (n == 0) 1 (1 + (most - decl.time) / n)
            counted zero is = let none = single which in omega (arith, some, none)
              where
                single : (q ≡ 0) ⊎ (1 ≤ (alarm s a).cycle) → q ≡ 0
                single (inl none) = none
                single (inr positive) = let own = stands.cycle in absurd (omega (arith, positive, own, is))
            counted (suc n) is =
                subst (λ b. e ≤ cond b 1 (1 + (most - decl.time) / suc n)) (sym (ne_eqb (suc n) 0 (λ z. omega (arith, z))))
                (let own : q * (alarm s a).cycle ≡ q * suc n = ap (λ v. q * v) (stands.cycle ∙ is) in
                let less = (le-div_iff_mul-le {k = suc n} {x = q} {y = most - decl.time} (omega arith)).1 (omega (arith, fits, own, left, le)) in
                omega (arith, some, less))

        either : (b : Bool) → (b ≡ true → (alarm s a).left ≡ decl.time) → e ≤ cond b (booted_expiries decl.time decl.cycle most) (cyclic_expiries decl.cycle most)
        either true left = booted (left refl) decl.cycle refl
        either false left = cyclic decl.cycle refl

        by : (b : Bool) → (decl.time == 0) ≡ b
            → e ≤ cond b 0 (cond boot (booted_expiries decl.time decl.cycle most) (cyclic_expiries decl.cycle most))
        by true is = let none = stands.unused (eqb-true decl.time 0 is) in absurd (omega (arith, none, ahead))
        by false other = either boot first

-- ---- all alarms of a counter

-- of these alarms, from number `first` on, those of counter c that do what passes the test and expire with the next tick
abbrev due : (c : ℕ) → (Action → Bool) → (first : ℕ) → List AlarmDecl → System → ℕ
due c test first [] s = 0
due c test first (d ∷ ds) s = cond ((d.counter == c) && test d.action) (cond ((alarm s first).left == 1) 1 0) 0 + due c test (first + 1) ds s

due_same : (c : ℕ) (test : Action → Bool) (first : ℕ) (ds : List AlarmDecl) (s x : System) → ((b : ℕ) → first ≤ b → alarm x b ≡ alarm s b)
    → due c test first ds x ≡ due c test first ds s
due_same c test first [] s x same = refl
due_same c test first (d ∷ ds) s x same =
    let rest = due_same c test (first + 1) ds s x (λ b le. same b (omega (arith, le))) in
    let here = ap {B = ℕ} (λ (k : Alarm). cond ((d.counter == c) && test d.action) (cond (k.left == 1) 1 0) 0) (same first (omega arith)) in
    omega (arith, rest, here)

module _ (j : ℕ) (P : Task → Type 0) (test : Action → Bool)
    (safe : (does : Action) (x : System) → test does ≡ false → P (task x j) → P (task (acted_state does x) j)) (c : ℕ) where
  one_kept : (does : Action) (a : ℕ) (x : System) → cond (test does) (cond ((alarm x a).left == 1) 1 0) 0 ≤ 0 → P (task x j) → P (task (alarm_ticked_state does a x) j)
  one_kept does a x none h =
      cond_both ((alarm x a).left == 1) (acted_state does (with_left a (alarm x a).cycle x)) (with_left a ((alarm x a).left - 1) x) (λ (y : System). P (task y j))
      (λ is. safe does (with_left a (alarm x a).cycle x) (off is (cases_Bool (test does))) h) (λ _. h)
    where
      off : ((alarm x a).left == 1) ≡ true → (test does ≡ true) ⊎ (test does ≡ false) → test does ≡ false
      off is (inr other) = other
      off is (inl on) =
          let one = ap {B = ℕ} (λ b. cond b (cond ((alarm x a).left == 1) 1 0) 0) on in
          let there = ap {B = ℕ} (λ b. cond b 1 0) is in
          absurd (omega (arith, none, one, there))

  -- where none expires, the fact is kept
  all_kept : (first : ℕ) (ds : List AlarmDecl) (x : System) → due c test first ds x ≤ 0 → P (task x j) → P (task (alarms_ticked_state c first ds x) j)
  all_kept first [] x none h = h
  all_kept first (d ∷ ds) x none h = by (d.counter == c) refl (λ y few p. all_kept (first + 1) ds y few p)
    where
      by : (b : Bool) → (d.counter == c) ≡ b
          → ((y : System) → due c test (first + 1) ds y ≤ 0 → P (task y j) → P (task (alarms_ticked_state c (first + 1) ds y) j))
          → P (task (alarms_ticked_state c (first + 1) ds (cond b (alarm_ticked_state d.action first x) x)) j)
      by true is again =
          let here = ap {B = ℕ} (λ b. cond (b && test d.action) (cond ((alarm x first).left == 1) 1 0) 0) is in
          let same = due_same c test (first + 1) ds x (alarm_ticked_state d.action first x) (λ b le. ticked_other b d.action first x (λ e. omega (arith, e, le))) in
          again (alarm_ticked_state d.action first x) (omega (arith, none, same)) (one_kept d.action first x (omega (arith, none, here)) h)
      by false other again = again x (omega (arith, none)) h

-- ---- sums

total_split : (t : Stage → Bool) (f g : Stage → ℕ) (xs : List Stage)
    → total (λ x. cond (t x) (f x + g x) 0) xs ≡ total (λ x. cond (t x) (f x) 0) xs + total (λ x. cond (t x) (g x) 0) xs
total_split t f g [] = refl
total_split t f g (x ∷ xs) = let rest = total_split t f g xs in let here = by (t x) in omega (arith, rest, here)
  where
    by : (b : Bool) → ◌≡◌ {A = ℕ} (cond b (f x + g x) 0) (cond b (f x) 0 + cond b (g x) 0)
    by true = refl
    by false = refl

total_nothing : (t : Stage → Bool) (xs : List Stage) → total (λ x. cond (t x) 0 0) xs ≤ 0
total_nothing t [] = omega arith
total_nothing t (x ∷ xs) = let rest = total_nothing t xs in let here = by (t x) in omega (arith, rest, here)
  where
    by : (b : Bool) → cond b 0 0 ≤ 0
    by true = omega arith
    by false = omega arith

module _ (config : Config) (app : App) (boot : Bool) (is_set : ℕ → Bool) (marks : MarksAlarms app is_set) (before : List Stage) (boots : boot ≡ true → before ≡ [])
    (xs : List Stage) (known_before : AllByRecursion (Known config app) before)
    (links_before : Linked 0 (opening config app) before) (known : AllByRecursion (Known config app) xs)
    (links : Linked (last_end 0 before) (last_state (opening config app) before) xs) (c most : ℕ) (few : count (at_tick c) xs ≤ most) where
  -- one alarm of the counter
  one_alarm : (a : ℕ) → a < length config.alarms → (alarm_declaration config a).counter ≡ c → total (expired c a) xs ≤ expiries boot (is_set a) (alarm_declaration config a) most
  one_alarm a inside own = by (is_set a) refl
    where
      by : (b : Bool) → is_set a ≡ b → total (expired c a) xs ≤ expiries boot b (alarm_declaration config a) most
      by true is = let le = expired_few config app a inside c xs in let most_ticks = few in omega (arith, le, most_ticks)
      by false off =
          let unset = marks a off in
          let P : ℕ → Type 0 = λ n. FitsExpiries (alarm (last_state (opening config app) before) a) (count (at_tick n) xs) (total (expired n a) xs) in
          within config app a inside unset boot (last_state (opening config app) before) (count (at_tick c) xs) most (total (expired c a) xs)
          (stands_behind config app a inside unset 0 (opening config app) before links_before known_before (opens config app a inside unset))
          (λ is.
          ap (λ bs. (alarm (last_state (opening config app) bs) a).left) (boots is) ∙ ap (λ (k : Alarm). k.left) (opened_at config.alarms a inside)) few
          (subst P own (fits_in config app a inside unset (last_end 0 before) (last_state (opening config app) before) xs links known))

  all_alarms : (test : Action → Bool) (first : ℕ) (ds : List AlarmDecl)
      → ((i : ℕ) → i < length ds → (get_or ds i undeclared_alarm ≡ alarm_declaration config (first + i)) × (first + i < length config.alarms))
      → total (λ x. cond (at_tick c x) (due c test first ds x.found) 0) xs ≤ expiring boot is_set c test most first ds
  all_alarms test first [] are = total_nothing (at_tick c) xs
  all_alarms test first (d ∷ ds) are =
      let rest = all_alarms test (first + 1) ds next in
      let parts = total_split (at_tick c) (λ x. cond ((d.counter == c) && test d.action) (cond ((alarm x.found first).left == 1) 1 0) 0) (λ x. due c test (first + 1) ds x.found) xs in
      let here = by ((d.counter == c) && test d.action) refl in
      omega (arith, rest, parts, here)
    where
      next : (i : ℕ) → i < length ds → (get_or ds i undeclared_alarm ≡ alarm_declaration config (first + 1 + i)) × (first + 1 + i < length config.alarms)
      next i lt =
          let there = are (suc i) (omega (arith, lt)) in
          let same : first + suc i ≡ first + 1 + i = omega arith in
          (there.0 ∙ ap (alarm_declaration config) same, omega (arith, there.1))

      same_first : first + 0 ≡ first
      same_first = omega arith

      own : d ≡ alarm_declaration config first
      own = (are 0 (omega arith)).0 ∙ ap (alarm_declaration config) same_first

      by : (b : Bool) → ((d.counter == c) && test d.action) ≡ b
          → total (λ x. cond (at_tick c x) (cond b (cond ((alarm x.found first).left == 1) 1 0) 0) 0) xs ≤ cond b (expiries boot (is_set first) d most) 0
      by true is =
          let counter = eqb-true d.counter c (and_parts (d.counter == c) (test d.action) is).0 in
          let lt = (are 0 (omega arith)).1 in
          let le = one_alarm first (omega (arith, lt)) (ap (λ (z : AlarmDecl). z.counter) (sym own) ∙ counter) in
          let same = ap (λ (z : AlarmDecl). expiries boot (is_set first) z most) own in
          omega (arith, le, same)
      by false off = total_nothing (at_tick c) xs

  -- what ticks make
  made_few : (test : Action → Bool) (f : Stage → ℕ) → ((x : Stage) → f x ≤ 1)
      → ((x : Stage) → Known config app x → at_tick c x ≡ true → due c test 0 config.alarms x.found ≤ 0 → f x ≤ 0)
      → total_where (at_tick c) f xs ≤ min most (expiring boot is_set c test most 0 config.alarms)
  made_few test f one none =
      let ticks = by_ticks xs in
      let dues = by_due xs known in
      let le = all_alarms test 0 config.alarms (λ i lt. let same : 0 + i ≡ i = omega arith in (ap (alarm_declaration config) (sym same), omega (arith, lt))) in
      let most_ticks = few in
      omega (arith, ticks, dues, le, most_ticks)
    where
      by_ticks : (ys : List Stage) → total_where (at_tick c) f ys ≤ count (at_tick c) ys
      by_ticks [] = omega arith
      by_ticks (x ∷ ys) = let rest = by_ticks ys in let here = by (at_tick c x) in omega (arith, rest, here)
        where
          by : (b : Bool) → cond b (f x) 0 ≤ cond b 1 0
          by true = one x
          by false = omega arith

      by_due : (ys : List Stage) → AllByRecursion (Known config app) ys
          → total_where (at_tick c) f ys ≤ total (λ x. cond (at_tick c x) (due c test 0 config.alarms x.found) 0) ys
      by_due [] k = omega arith
      by_due (x ∷ ys) k = let rest = by_due ys k.1 in let here = by (at_tick c x) refl (due c test 0 config.alarms x.found) refl in omega (arith, rest, here)
        where
          by : (b : Bool) → at_tick c x ≡ b → (n : ℕ) → due c test 0 config.alarms x.found ≡ n → cond b (f x) 0 ≤ cond b n 0
          by true is zero e = none x k.0 is (omega (arith, e))
          by true is (suc n) e = let le = one x in omega (arith, le)
          by false off n e = omega arith

-- ---- a run

pub ticks_make_as_alarms_expire : TicksMakeAsAlarmsExpire
ticks_make_as_alarms_expire config app events is_set s wf osek marks has = record {
  acts = λ c j before xs behind is boots le.
      let few = made_few config app s.is_boot is_set marks before boots xs (known_before before xs behind is) (links_before before xs behind is) (known_part before xs behind is)
      (links_part before xs behind is) c (s.inflow.arrivals (counter_line c)) le (activates j) (activated j) (acts_once j) (acts_due c j) in
      let most = has.acts c j in
      omega (arith, few, most);
  sets = λ c j before xs behind is boots le.
      let few = made_few config app s.is_boot is_set marks before boots xs (known_before before xs behind is) (links_before before xs behind is) (known_part before xs behind is)
      (links_part before xs behind is) c (s.inflow.arrivals (counter_line c)) le (sets_events j) (was_set j) (sets_once j) (sets_due c j) in
      let most = has.sets c j in
      omega (arith, few, most);
}
  where
    all_known : AllByRecursion (Known config app) (run_stages config app events)
    all_known =
        stages_known config app (facts config app wf) 0 (opening config app) osek.0 events (opening_ordered config app) (opening_valid config app)
        (follows_leads config app [] (opening config app) events osek.0 osek.1)

    all_links : Linked 0 (opening config app) (run_stages config app events)
    all_links = stages_linked config app 0 (opening config app) events

    known_before : (before xs behind : List Stage) → run_stages config app events ≡ before ++ (xs ++ behind) → AllByRecursion (Known config app) before
    known_before before xs behind is = (each_append (Known config app) before (xs ++ behind) (subst (AllByRecursion (Known config app)) is all_known)).0

    known_part : (before xs behind : List Stage) → run_stages config app events ≡ before ++ (xs ++ behind) → AllByRecursion (Known config app) xs
    known_part before xs behind is =
        (each_append (Known config app) xs behind (each_append (Known config app) before (xs ++ behind) (subst (AllByRecursion (Known config app)) is all_known)).1).0

    links_before : (before xs behind : List Stage) → run_stages config app events ≡ before ++ (xs ++ behind) → Linked 0 (opening config app) before
    links_before before xs behind is = linked_front 0 (opening config app) before (xs ++ behind) (subst (Linked 0 (opening config app)) is all_links)

    links_part : (before xs behind : List Stage) → run_stages config app events ≡ before ++ (xs ++ behind)
        → Linked (last_end 0 before) (last_state (opening config app) before) xs
    links_part before xs behind is =
        linked_front (last_end 0 before) (last_state (opening config app) before) xs behind
        (linked_behind 0 (opening config app) before (xs ++ behind) (subst (Linked 0 (opening config app)) is all_links))

    acts_once : (j : ℕ) (x : Stage) → activated j x ≤ 1
    acts_once j x = at_most_one (not (is_ready_for false (task x.found j)) && is_ready_for false (task x.next j))

    sets_once : (j : ℕ) (x : Stage) → was_set j x ≤ 1
    sets_once j x =
        at_most_one ((not (is_ready_for true (task x.found j)) && is_ready_for true (task x.next j)) || has_grown (task x.found j).events (task x.next j).events)

    ticked : (c : ℕ) (x : Stage) → Known config app x → at_tick c x ≡ true → OsekStep config app (event.Tick c) x.found x.next
    ticked c x k is = by x.stamped.event k.step is
      where
        by : (e : Event) → OsekStep config app e x.found x.next → is_number c (ticking_counter e) ≡ true → OsekStep config app (event.Tick c) x.found x.next
        by (event.Tick d) step is = subst (λ v. OsekStep config app (event.Tick v) x.found x.next) (eqb-true d c is) step
        by e step is = absurd (false≢true is)

    acts_due : (c j : ℕ) (x : Stage) → Known config app x → at_tick c x ≡ true → due c (activates j) 0 config.alarms x.found ≤ 0 → activated j x ≤ 0
    acts_due c j x k is none =
        let step = ticked c x k is in
        let kept = all_kept j (IsUnmade config app j x.found k.valid) (activates j) (safe_activates config app j x.found k.valid) c 0 config.alarms
        (counted_on_state c (counter_declaration config c).max x.found) (let same = due_same c (activates j) 0 config.alarms x.found
        (counted_on_state c (counter_declaration config c).max x.found) (λ b le. refl) in omega (arith, none, same)) (first_unmade config app j x.found k.valid) in
        let zero = subst (λ (y : System). activated_between (task x.found j) (task y j) ≡ 0) (sym step.2) kept.acts in
        omega (arith, zero)

    sets_due : (c j : ℕ) (x : Stage) → Known config app x → at_tick c x ≡ true → due c (sets_events j) 0 config.alarms x.found ≤ 0 → was_set j x ≤ 0
    sets_due c j x k is none =
        let step = ticked c x k is in
        let kept = all_kept j (IsUnset config app j x.found k.valid) (sets_events j) (safe_sets config app j x.found k.valid) c 0 config.alarms
        (counted_on_state c (counter_declaration config c).max x.found) (let same = due_same c (sets_events j) 0 config.alarms x.found
        (counted_on_state c (counter_declaration config c).max x.found) (λ b le. refl) in omega (arith, none, same)) (first_unset config app j x.found k.valid) in
        let zero = subst (λ (y : System). set_between (task x.found j) (task y j) ≡ 0) (sym step.2) kept.sets in
        omega (arith, zero)
