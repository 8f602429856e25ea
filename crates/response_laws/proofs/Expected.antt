-- Expiries of the only alarm that makes a task Ready find it Suspended.
use Rattle.std.proofs.Common.{◌≡◌, ℕ, ◌+◌, ◌-◌, ◌/◌, ◌<◌, ◌≤◌, ◌⊎◌, ◌==◌, ◌&&◌, List, [], ◌∷◌, ◌++◌, Bool, true, false, cond, max, leb, ltb, refl, sym, ap, ◌∙◌, subst, arith, inl, inr, append_assoc, is_some, Some, None, le-div_iff_mul-le}
use Rattle.std.specs.Prelude.{AllPairs}
use Rattle.std.specs.List.{AllByRecursion}
use Rattle.std.proofs.Math.Nat.{max-le}
use Rattle.std.proofs.lemmas.Bool.{cases_Bool, cases_eq, false≢true, true≢false, eqb-true, eq-eqb, le-leb, lt-ltb, and_from}
use Rattle.sloth_base.specs.Options.{is_number}
use Rattle.sloth_base.specs.Events.{admitted_line}
use Rattle.sloth_base.specs.declared.config.Config.{Config}
use Rattle.sloth_base.specs.declared.app.App.{App}
use Rattle.sloth_base.specs.declared.service.Arrival.{Arrival}
use Rattle.sloth_base.specs.declared.service.Event.TheVariants as event
use Rattle.sloth_base.specs.declared.service.Stamped.{Stamped}
use Rattle.sloth_base.specs.Named.{alarm_declaration}
use Rattle.sloth_base.specs.Owners.{counter_line}
use Rattle.code_rules.specs.WellFormed.{WellFormed}
use Rattle.code_lengths.specs.LongestPaths.{tick_path}
use Rattle.load_text.specs.declared.load_line.Entry.{Entry}
use Rattle.load_text.specs.Loads.{distance, KeepDistances}
use Rattle.osek_scheduler.specs.declared.state.Alarm.{Alarm}
use Rattle.osek_scheduler.specs.declared.state.TaskState.TheVariants as mode
use Rattle.osek_scheduler.specs.State.{System, task, counter, alarm, opening}
use Rattle.osek_scheduler.specs.InTime.{IsOrdered, InTime, is_admit}
use Rattle.osek_scheduler.specs.Runs.{AreStepsTo, OsekRun}
use Rattle.osek_scheduler.specs.Steps.{OsekStep}
use Rattle.osek_scheduler.proofs.Facts.{Facts, facts}
use Rattle.osek_scheduler.proofs.Leading.{leads-parts, follows_leads, one_end, one_step}
use Rattle.osek_blocking.specs.Blocking.{MakesReady}
use Rattle.sim_induction.specs.Events.{stretch_counts}
use Rattle.sim_induction.specs.Weighed.{AreWithinWeights}
use Rattle.run_counts.specs.Rounds.{is_left}
use Rattle.response_laws.specs.Arrivals.{is_inside, passing_inside, HasDistances}
use Rattle.response_laws.specs.Expected.{IsMadeByAlarm, LeavesInCycle, IsExpected, ExpectedExpiriesFindSuspended}
use Rattle.response_laws.proofs.Sums.{product_grows}
use Rattle.response_laws.proofs.Linked.{each_append, each_so, each_both}
use Rattle.response_laws.proofs.Ordering.{ahead, ordered_front, admits_before, admits_behind}
use Rattle.response_laws.proofs.Steps.{at_most_one, balance}
use Rattle.response_laws.proofs.AlarmSteps.{Leaves_it, leaves_alarm}
use Rattle.response_laws.proofs.Expiring.{Stands, opens, stands_on}
use Rattle.response_laws.proofs.Arriving.{few_at, inside-append}
use Rattle.response_laws.proofs.Never.{none_arrives, none_admitted}
use Rattle.response_laws.proofs.DueCounters.{number, pairs_behind, is_tick, is_arrival, at_its_tick, balanced, DueSince, undue, arrived, due_since}
use Rattle.response_laws.proofs.Distant.{few, apart_behind}
use Rattle.response_laws.proofs.Due.{IsExpiry, Since, asleep, made, since}

-- ---- events that pass a test

-- where each stands in a window, they are counted there
all_inside : (test : Stamped → Bool) (low high : ℕ) (es : List Stamped)
    → AllByRecursion (λ e. test e ≡ true → (low ≤ e.stamp.at) × (e.stamp.at < high)) es → number test es ≤ passing_inside test (λ e. e.stamp.at) low high es
all_inside test low high [] each = omega arith
all_inside test low high (e ∷ es) each =
    let rest = all_inside test low high es each.1 in
    let here = by (test e) each.0 in
    omega (arith, here, rest)
  where
    by : (b : Bool) → (b ≡ true → (low ≤ e.stamp.at) × (e.stamp.at < high)) → cond b 1 0 ≤ cond (b && is_inside low high e.stamp.at) 1 0
    by false h = omega arith
    by true h =
        let both = h refl in
        let inside = and_from (leb low e.stamp.at) (ltb e.stamp.at high) (le-leb low e.stamp.at both.0) (lt-ltb e.stamp.at high both.1) in
        let here = ap {B = ℕ} (λ b. cond b 1 0) inside in
        omega (arith, here)

module _ (config : Config) (app : App) (load : List Entry) (n t a : ℕ) (arrivals : List Arrival) (events : List Stamped) (wf : WellFormed config app)
    (in_time : InTime config n arrivals events) (positive : HasDistances load) (keeps : KeepDistances load arrivals) (own : IsMadeByAlarm config app load t a) where
  w : Facts config app
  w = facts config app wf

  abbrev c : ℕ
  c = (alarm_declaration config a).counter

  abbrev line : ℕ
  line = counter_line c

  -- ---- the alarm

  -- from where it stands it expires behind so many ticks
  counted : (es : List Stamped) (s end : System) → AreStepsTo config app es s end → (alarm end a).left ≡ 1
      → (1 ≤ (alarm s a).left) × ((alarm s a).left ≤ number (is_tick c) es + 1)
  counted [] s end leads one = let same = ap (λ (x : System). (alarm x a).left) leads in (omega (arith, same, one), omega (arith, same, one))
  counted (e ∷ es) s end leads one = by (cases_Bool (is_tick c e)) (counted es leads.0 end leads.2 one)
    where
      it : Leaves_it config app a own.inside e.event s leads.0
      it = leaves_alarm config app a own.inside e.event s leads.0 (λ _ _ _ h. own.unset h.at.frame.func h.at.frame.item) leads.1

      ticks : (b : Bool) → ((alarm s a).left == 1) ≡ b → (alarm leads.0 a).left ≡ cond b (alarm s a).cycle ((alarm s a).left - 1) → is_tick c e ≡ true
          → (1 ≤ (alarm leads.0 a).left) × ((alarm leads.0 a).left ≤ number (is_tick c) es + 1) → (1 ≤ (alarm s a).left) × ((alarm s a).left ≤ number (is_tick c) (e ∷ es) + 1)
      ticks true here left is both = let l = eqb-true (alarm s a).left 1 here in (omega (arith, l), omega (arith, l))
      ticks false off left is (some, few) = let count = ap {B = ℕ} (λ b. cond b 1 0) is in (omega (arith, some, left), omega (arith, few, left, some, count))

      by : (is_tick c e ≡ true) ⊎ (is_tick c e ≡ false) → (1 ≤ (alarm leads.0 a).left) × ((alarm leads.0 a).left ≤ number (is_tick c) es + 1)
          → (1 ≤ (alarm s a).left) × ((alarm s a).left ≤ number (is_tick c) (e ∷ es) + 1)
      by (inl is) both = ticks ((alarm s a).left == 1) refl (ap (λ (k : Alarm). k.left) (it.0 is)) is both
      by (inr off) (some, few) = calm (it.1 off)
        where
          calm : (alarm leads.0 a ≡ alarm s a) ⊎ (((alarm leads.0 a).left ≡ 0) × ((alarm leads.0 a).cycle ≡ (alarm s a).cycle))
              → (1 ≤ (alarm s a).left) × ((alarm s a).left ≤ number (is_tick c) (e ∷ es) + 1)
          calm (inl same) = let l = ap (λ (k : Alarm). k.left) same in (omega (arith, some, l), omega (arith, few, l))
          calm (inr cancelled) = let zero = cancelled.0 in absurd (omega (arith, some, zero))

  -- it keeps its cycle
  stands : (es : List Stamped) (s end : System) → AreStepsTo config app es s end → Stands config app a own.inside own.unset s → Stands config app a own.inside own.unset end
  stands [] s end leads h = subst (Stands config app a own.inside own.unset) (sym leads) h
  stands (e ∷ es) s end leads h = stands es leads.0 end leads.2 (stands_on config app a own.inside own.unset e.event s leads.0 leads.1 h)

  -- ---- two expiries, and no leaving between them

  -- what is known of them
  record AreTwo : Type 0 where
    before : List Stamped
    one : Stamped
    behind : List Stamped
    other : Stamped
    last : List Stamped
    is : events ≡ before ++ one ∷ (behind ++ other ∷ last)
    found : System
    leads : AreStepsTo config app before (opening config app) found
    first : System
    makes : MakesReady config app t one.event found first
    second : System
    between : AreStepsTo config app behind first second
    further : System
    step : OsekStep config app other.event second further
    ticks_one : one.event ≡ event.Tick c
    ticks_other : other.event ≡ event.Tick c
    left_one : (alarm found a).left ≡ 1
    left_other : (alarm second a).left ≡ 1
    none : AllByRecursion (λ e. is_left t e.event ≡ false) behind

  module _ (two : AreTwo) where
    no_arrival : (e : Stamped) → e.event ≡ event.Tick c → is_admit e ≡ false
    no_arrival e is = ap (λ x. is_some (admitted_line x)) is

    -- the second expires a cycle behind the first
    cycle : (1 ≤ (alarm_declaration config a).cycle) × ((alarm_declaration config a).cycle ≤ number (is_arrival c) two.behind)
    cycle =
        let stays = (stands two.before (opening config app) two.found two.leads (opens config app a own.inside own.unset)).cycle in
        let left : (alarm two.first a).left ≡ (alarm two.found a).cycle = ap (λ (k : Alarm). k.left) ((leaves_alarm config app a own.inside two.one.event two.found two.first (λ _ _ _ h. own.unset h.at.frame.func h.at.frame.item) two.makes.step).0
        (at_its_tick c two.one two.ticks_one)) ∙ ap (λ m. cond (m == 1) (alarm two.found a).cycle (m - 1)) two.left_one in
        let span = counted two.behind two.first two.second two.between two.left_other in
        let some = span.0 in
        let most = span.1 in
        let all = balanced config app wf c two.behind two.first two.second two.between in
        let begin = balance config app c two.one.event two.found two.first two.makes.step in
        let begins = begin.1 in
        let was = begin.0 in
        let ends = (balance config app c two.other.event two.second two.further two.step).0 in
        let first = ap {B = ℕ} (λ b. cond b 1 0) (at_its_tick c two.one two.ticks_one) in
        let next = ap {B = ℕ} (λ b. cond b 1 0) (at_its_tick c two.other two.ticks_other) in
        let no_due : is_arrival c two.one ≡ false = ap (λ x. is_number line (admitted_line x)) two.ticks_one in
        let off = ap {B = ℕ} (λ b. cond b 1 0) no_due in
        let due = at_most_one (counter two.found c).due in
        (omega (arith, stays, left, some), omega (arith, stays, left, most, all, begins, was, ends, first, next, off, due))

    module _ (more r : ℕ) (l : LeavesInCycle config app load n more t a r events) (weights : AreWithinWeights config app events)
        (front rest : List Stamped) (arrival : Stamped) (before_is : two.before ≡ front ++ arrival ∷ rest) (due : arrival.event ≡ event.Due c)
        (unticked : AllByRecursion (λ e. is_tick c e ≡ false) rest) where
      abbrev d : ℕ
      d = l.apart

      some : 0 < d
      some = by (cases_eq d 0)
        where
          by : (d ≡ 0) ⊎ (d ≡ 0 → ⊥) → 0 < d
          by (inl zero) = absurd (positive line (l.is_distance ∙ ap (λ v. Some v) zero))
          by (inr other) = omega (arith, other)

      -- the first tick spans no more than from one arrival to the next
      spans : two.one.stamp.at < two.one.stamp.from + d
      spans =
          let weight = subst (λ v. two.one.stamp.at < two.one.stamp.from + max 1 (stretch_counts config app two.found v)) two.ticks_one
          (weights two.before (two.behind ++ two.other ∷ two.last) two.one two.found two.is two.leads) in
          let positive_one : 1 ≤ d = let lt = some in omega (arith, lt) in
          let most : max 1 (tick_path config c) ≤ d = max-le positive_one l.brief in
          omega (arith, weight, most)

      pairs : AllPairs IsOrdered (two.one ∷ (two.behind ++ two.other ∷ two.last))
      pairs = pairs_behind two.before (two.one ∷ (two.behind ++ two.other ∷ two.last)) (subst (AllPairs IsOrdered) two.is in_time.placed)

      until : arrival.stamp.at ≤ two.one.stamp.at
      until =
          admits_before arrival two.one
          (each_append (λ x. IsOrdered x two.one) front (arrival ∷ rest)
          (subst (AllByRecursion (λ x. IsOrdered x two.one)) before_is
          (ordered_front two.before two.one (two.behind ++ two.other ∷ two.last) (subst (AllPairs IsOrdered) two.is in_time.placed)))).1.0
          (no_arrival two.one two.ticks_one) (ap (λ x. is_some (admitted_line x)) due)

      abbrev low : ℕ
      low = arrival.stamp.at + d

      abbrev wide : ℕ
      wide = two.other.stamp.at + 1 - low

      -- each arrival between the ticks is at least a distance behind the first, and no later than the second tick
      abbrev Inside : Stamped → Type 0
      Inside e = is_arrival c e ≡ true → (low ≤ e.stamp.at) × (e.stamp.at < low + wide)

      abbrev Apart : Stamped → Type 0
      Apart e = is_arrival c e ≡ true → (arrival.stamp.at + d ≤ e.stamp.at) ⊎ (e.stamp.at + d ≤ arrival.stamp.at)

      inside : (e : Stamped) → (IsOrdered two.one e × IsOrdered e two.other) × Apart e → Inside e
      inside e ((behind, ahead), apart) is = by (apart is)
        where
          admits : is_admit e ≡ true
          admits = which (admitted_line e.event) is
            where
              which : (o : _) → is_number line o ≡ true → is_some o ≡ true
              which (Some k) is = refl
              which None is = absurd (false≢true is)

          from : two.one.stamp.from < e.stamp.at
          from = admits_behind two.one e behind admits (no_arrival two.one two.ticks_one)

          to : e.stamp.at ≤ two.other.stamp.at
          to = admits_before e two.other ahead (no_arrival two.other two.ticks_other) admits

          by : (arrival.stamp.at + d ≤ e.stamp.at) ⊎ (e.stamp.at + d ≤ arrival.stamp.at) → (low ≤ e.stamp.at) × (e.stamp.at < low + wide)
          by (inl later) = let le = to in (later, omega (arith, later, le))
          by (inr sooner) = let first = from in let lt = spans in let le = until in absurd (omega (arith, sooner, first, lt, le))

      all : AllByRecursion Inside two.behind
      all =
          let after = (each_append (IsOrdered two.one) two.behind (two.other ∷ two.last) (ahead two.one (two.behind ++ two.other ∷ two.last) pairs).0).0 in
          let up_to = ordered_front two.behind two.other two.last (ahead two.one (two.behind ++ two.other ∷ two.last) pairs).1 in
          let at : events ≡ front ++ arrival ∷ (rest ++ two.one ∷ (two.behind ++ two.other ∷ two.last)) =
          two.is ∙ ap (λ es. es ++ two.one ∷ (two.behind ++ two.other ∷ two.last)) before_is ∙ append_assoc front (arrival ∷ rest) (two.one ∷ (two.behind ++ two.other ∷ two.last)) in
          let far = apart_behind config load n line d arrivals events in_time positive keeps l.is_distance front (rest ++ two.one ∷ (two.behind ++ two.other ∷ two.last)) arrival at
          (ap (λ x. is_number line (admitted_line x)) due ∙ eq-eqb line line refl) in
          let near = (each_append Apart two.behind (two.other ∷ two.last) (each_append Apart rest (two.one ∷ (two.behind ++ two.other ∷ two.last)) far).1.1).0 in
          each_so (λ e. (IsOrdered two.one e × IsOrdered e two.other) × Apart e) Inside inside two.behind
          (each_both (λ e. IsOrdered two.one e × IsOrdered e two.other) Apart two.behind
          (each_both (IsOrdered two.one) (λ e. IsOrdered e two.other) two.behind after up_to) near)

      -- so the second tick ends later than the response
      never : ⊥
      never =
          let ends = (l.responds.pends two.before two.behind two.last two.one two.other two.found two.first arrival.stamp.at two.is two.leads two.makes (λ e. absurd (true≢false e))
          (inr (record { counter = c; ticks = two.ticks_one; front = front; arrival = arrival; rest = rest; parts = before_is; arrives = due; none = unticked; is = refl }))
          two.none (no_arrival two.other two.ticks_other)).ends in
          let number_few = all_inside (is_arrival c) low (low + wide) two.behind all in
          let parts = ap (passing_inside (is_arrival c) (λ e. e.stamp.at) low (low + wide)) two.is
          ∙ inside-append (is_arrival c) (λ (e : Stamped). e.stamp.at) low (low + wide) two.before (two.one ∷ (two.behind ++ two.other ∷ two.last)) in
          let further = inside-append (is_arrival c) (λ (e : Stamped). e.stamp.at) low (low + wide) two.behind (two.other ∷ two.last) in
          let few_in = few config load n line d arrivals events in_time positive keeps l.is_distance low wide in
          let fits : number (is_arrival c) two.behind ≤ (wide + d - 1) / d = omega (arith, number_few, parts, further, few_in) in
          let product = (le-div_iff_mul-le some).0 fits in
          let positive_d = some in
          let one_cycle = product_grows 1 (alarm_declaration config a).cycle d cycle.0 in
          let cycles = product_grows (alarm_declaration config a).cycle (number (is_arrival c) two.behind) d cycle.1 in
          let short = l.within in
          omega (arith, ends, product, positive_d, one_cycle, cycles, short)

  -- ---- each expiry

  module _ (osek : OsekRun config app events) (weights : AreWithinWeights config app events) (more r : ℕ) (expected : IsExpected config app load n more t a r events) where
    -- nothing arrives that makes the task Ready
    none_admits : AllByRecursion (λ e. is_number t (admitted_line e.event) ≡ false) events
    none_admits =
        none_admitted t events
        (λ k. let few = few_at config n arrivals events in_time k t in let none = none_arrives load k t own.never_arrives arrivals keeps in omega (arith, few, none))

    not_two : AreTwo → ⊥
    not_two two = by expected
      where
        by : IsExpected config app load n more t a r events → ⊥
        by (inl once) = let some = (cycle two).0 in omega (arith, once, some)
        by (inr l) = which (due_since config app wf c two.before two.found two.leads)
          where
            which : DueSince config app wf c two.before two.found → ⊥
            which (undue off) =
                let was = (balance config app c two.one.event two.found two.first two.makes.step).0 in
                let one = ap {B = ℕ} (λ b. cond b 1 0) (at_its_tick c two.one two.ticks_one) in
                let zero = ap {B = ℕ} (λ b. cond b 1 0) off in
                omega (arith, was, one, zero)
            which (arrived front arrival rest at due none) = never two more r l weights front rest arrival at due none

    find_suspended : (before behind : List Stamped) (tick : Stamped) (found : System) → events ≡ before ++ tick ∷ behind → AreStepsTo config app before (opening config app) found
        → (further : System) → OsekStep config app tick.event found further → tick.event ≡ event.Tick c → (alarm found a).left ≡ 1 → (task found t).state ≡ mode.Suspended
    find_suspended before behind tick found is leads further step ticks left = by (since config app w t own.outside before found leads)
      where
        by : Since config app w t own.outside before found → (task found t).state ≡ mode.Suspended
        by (asleep suspended) = suspended
        by (made front one mid at first past led makes opening_event stay) = absurd (which opening_event)
          where
            whole : events ≡ front ++ one ∷ (mid ++ tick ∷ behind)
            whole = is ∙ ap (λ es. es ++ tick ∷ behind) past ∙ append_assoc front (one ∷ mid) (tick ∷ behind)

            which : (one.event ≡ event.Admit t) ⊎ IsExpiry config app w t own.outside one.event at → ⊥
            which (inl admits) =
                false≢true (sym ((each_append (λ e. is_number t (admitted_line e.event) ≡ false) front (one ∷ (mid ++ tick ∷ behind))
                (subst (AllByRecursion (λ e. is_number t (admitted_line e.event) ≡ false)) whole none_admits)).1.0)
                ∙ (ap (λ x. is_number t (admitted_line x)) admits ∙ eq-eqb t t refl))
            which (inr expiry) =
                let same = own.only expiry.number expiry.inside expiry.makes in
                let halves = leads-parts config app front (one ∷ mid) (opening config app) found (subst (λ es. AreStepsTo config app es (opening config app) found) past leads) in
                let start : halves.0 ≡ at = one_end config app front (opening config app) halves.0 at halves.1 led in
                let next : halves.2.0 ≡ first = one_step config app one.event at halves.2.0 first (subst (λ x. OsekStep config app one.event x halves.2.0) start halves.2.1) makes.step in
                not_two (record {
                  before = front;
                  one = one;
                  behind = mid;
                  other = tick;
                  last = behind;
                  is = whole;
                  found = at;
                  leads = led;
                  first = first;
                  makes = makes;
                  second = found;
                  between = subst (λ x. AreStepsTo config app mid x found) next halves.2.2;
                  further = further;
                  step = step;
                  ticks_one = expiry.ticks ∙ ap (λ m. event.Tick (alarm_declaration config m).counter) same;
                  ticks_other = ticks;
                  left_one = subst (λ m. (alarm at m).left ≡ 1) same expiry.left;
                  left_other = left;
                  none = stay;
                })

pub expected_expiries_find_suspended : ExpectedExpiriesFindSuspended
expected_expiries_find_suspended config app load n more t a r arrivals events wf osek in_time weights positive keeps own expected before behind tick found is leads ticks left =
    let all = follows_leads config app [] (opening config app) events osek.0 osek.1 in
    let halves = leads-parts config app before (tick ∷ behind) (opening config app) osek.0 (subst (λ es. AreStepsTo config app es (opening config app) osek.0) is all) in
    let start : halves.0 ≡ found = one_end config app before (opening config app) halves.0 found halves.1 leads in
    find_suspended config app load n t a arrivals events wf in_time positive keeps own osek weights more r expected before behind tick found is leads
    halves.2.0 (subst (λ x. OsekStep config app tick.event x halves.2.0) start halves.2.1) ticks left
