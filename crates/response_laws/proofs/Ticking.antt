-- Ticks end soon after the arrivals of their counters.
use Rattle.std.proofs.Common.{◌≡◌, ℕ, ◌+◌, ◌-◌, ◌*◌, ◌<◌, ◌≤◌, ◌⊎◌, List, [], ◌∷◌, ◌++◌, Bool, true, false, cond, length, is_some, refl, sym, ap, ◌∙◌, subst, arith, inl, inr, append_assoc, append-nil}
use Rattle.std.specs.List.{AllByRecursion}
use Rattle.std.proofs.lemmas.Bool.{cases_Bool, true≢false, false≢true, eq-eqb, eqb-true}
use Rattle.sloth_base.specs.Options.{is_number}
use Rattle.sloth_base.specs.declared.config.Config.{Config}
use Rattle.sloth_base.specs.declared.app.App.{App}
use Rattle.sloth_base.specs.declared.service.Arrival.{Arrival}
use Rattle.sloth_base.specs.declared.service.Event.{Event}
use Rattle.sloth_base.specs.declared.service.Event.TheVariants as event
use Rattle.sloth_base.specs.declared.service.Stamped.{Stamped}
use Rattle.sloth_base.specs.Events.{admitted_line}
use Rattle.sloth_base.specs.Owners.{counter_line}
use Rattle.code_rules.specs.WellFormed.{WellFormed}
use Rattle.code_lengths.specs.LongestPaths.{tick_path}
use Rattle.load_text.specs.declared.load_line.Entry.{Entry}
use Rattle.load_text.specs.Loads.{KeepDistances, arrivals_within}
use Rattle.osek_scheduler.specs.State.{System, counter, opening}
use Rattle.osek_scheduler.specs.InTime.{InTime, is_admit}
use Rattle.osek_scheduler.specs.Next.{no_ticks}
use Rattle.osek_scheduler.specs.Priority.{NoTicks}
use Rattle.osek_scheduler.specs.Runs.{AreStepsTo, OsekRun}
use Rattle.osek_scheduler.specs.Steps.{OsekStep}
use Rattle.osek_scheduler.proofs.Facts.{facts}
use Rattle.osek_scheduler.proofs.Leading.{follows_leads}
use Rattle.osek_scheduler.proofs.Steps.{opening_valid}
use Rattle.osek_scheduler.proofs.Tests.{Decides-no_ticks}
use Rattle.osek_blocking.proofs.Effects.{Ordered}
use Rattle.osek_blocking.proofs.Ordering.{opening_ordered, step_ordered}
use Rattle.sim_induction.specs.Pace.{ItemSizes, AreAtMost}
use Rattle.sim_induction.specs.Spent.{SpendsOnItems}
use Rattle.sim_induction.specs.Weighed.{AreWithinWeights}
use Rattle.run_counts.specs.Stages.{Stage, charged, spanned, end_of, stage, stages, state_behind, run_stages}
use Rattle.run_counts.specs.Rounds.{total}
use Rattle.run_counts.specs.OwnCounts.{IsShared}
use Rattle.run_counts.proofs.SpentStages.{AreSpent}
use Rattle.response_laws.specs.Arrivals.{HasDistances, AreCharged, admission_window}
use Rattle.response_laws.specs.Bounded.{BeginsWithin}
use Rattle.response_laws.specs.Response.{HasPace}
use Rattle.response_laws.specs.Sums.{count, sum_counters}
use Rattle.response_laws.specs.Turns.{ticking_counter, at_tick}
use Rattle.response_laws.specs.Ticking.{HasRoomForTicks, TicksBefore, TicksEndInTime}
use Rattle.response_laws.proofs.Arriving.{near_period, admissions_few}
use Rattle.response_laws.proofs.Booted.{HasStarted, has_started}
use Rattle.response_laws.proofs.Counters.{IsOn, NoTick, on_along, arrived}
use Rattle.response_laws.proofs.Linked.{Known, Linked, last_state, last_state-append, last_end, last_end-append, linked_front, linked_behind, last_within, each_append, each_joined, stages_linked, stages_known, stages-append}
use Rattle.response_laws.proofs.LowerSpending.{spent_in}
use Rattle.response_laws.proofs.Never.{undue_at}
use Rattle.response_laws.proofs.Passing.{Cut, at_one, in_front, behind_it, cut}
use Rattle.response_laws.proofs.Period.{ticks_balance}
use Rattle.response_laws.proofs.Responding.{run_no_less}
use Rattle.response_laws.proofs.Spanned.{IsSpannedWithin, run_spanned, tick_spanned}
use Rattle.response_laws.proofs.Steps.{due_count}
use Rattle.response_laws.proofs.Sums.{product_grows, one_more, sum_below-le, sum_below-join, sum_below-term}
use Rattle.response_laws.proofs.TickGaps.{is_outside, IsOutside, outside_spend}

-- ---- the first tick

-- counter c ticks among these events, or it does not
data Ticking (c : ℕ) (events : List Stamped) : Type 0 where
  first_tick : (front : List Stamped) (tick : Stamped) (rest : List Stamped) → events ≡ front ++ tick ∷ rest
      → AllByRecursion (λ e. is_number c (ticking_counter e.event) ≡ false) front → tick.event ≡ event.Tick c → Ticking c events
  none_ticks : AllByRecursion (λ e. is_number c (ticking_counter e.event) ≡ false) events → Ticking c events

ticking : (c : ℕ) (events : List Stamped) → Ticking c events
ticking c [] = none_ticks tt
ticking c (e ∷ events) = by (cases_Bool (is_number c (ticking_counter e.event))) (ticking c events)
  where
    it_is : (w : Event) → is_number c (ticking_counter w) ≡ true → w ≡ event.Tick c
    it_is (event.Tick d) is = ap (λ v. event.Tick v) (eqb-true d c is)
    it_is w is = absurd (false≢true is)

    by : (is_number c (ticking_counter e.event) ≡ true) ⊎ (is_number c (ticking_counter e.event) ≡ false) → Ticking c events → Ticking c (e ∷ events)
    by (inl is) further = first_tick [] e events refl tt (it_is e.event is)
    by (inr other) (first_tick front tick rest at none is) = first_tick (e ∷ front) tick rest (ap (λ es. e ∷ es) at) (other, none) is
    by (inr other) (none_ticks none) = none_ticks (other, none)

module _ (config : Config) (app : App) where
  -- ---- states in which a counter is due

  abbrev IsBusy : Stage → Type 0
  IsBusy x = no_ticks config x.found ≡ false

  -- where one is, nothing but admissions and ticks comes
  outside_of : (e : Event) (s next : System) → OsekStep config app e s next → HasStarted s → no_ticks config s ≡ false → is_outside e ≡ true
  outside_of e s next step on busy = by e step
    where
      impossible : {P : Type 0} → NoTicks config s → P
      impossible none = absurd (true≢false (sym ((Decides-no_ticks config s).1 none) ∙ busy))

      by : (w : Event) → OsekStep config app w s next → is_outside w ≡ true
      by (event.Admit t) h = refl
      by (event.Due c) h = refl
      by (event.Tick c) h = refl
      by event.Boot h = absurd (true≢false (sym on ∙ h.0))
      by (event.Enter u) h = impossible h.1.no_ticks
      by (event.Run u func item result) h = impossible h.1.top.no_ticks
      by (event.Call u served status) h = impossible h.1.1.top.no_ticks
      by (event.Left u served) h = impossible h.1.1.top.no_ticks
      by (event.Back u) h = impossible h.1.no_ticks
      by event.Idle h = impossible h.2
      by event.Stray h = absurd h

  all_outside : (at : ℕ) (s : System) (xs : List Stage) → Linked at s xs → AllByRecursion (Known config app) xs → HasStarted s → AllByRecursion IsBusy xs
      → AllByRecursion IsOutside xs
  all_outside at s [] l k on busy = tt
  all_outside at s (x ∷ xs) l k on busy = (
    outside_of x.stamped.event x.found x.next k.0.step (subst HasStarted (sym l.1) on) busy.0,
    all_outside (end_of x) x.next xs l.2 k.1 (has_started config app x.stamped.event x.found x.next k.0.step) busy.1,
  )

  -- a counter that is due makes it so
  due_busy : (s : System) (c : ℕ) → c < length config.counters → (counter s c).due ≡ true → no_ticks config s ≡ false
  due_busy s c lt due = by (no_ticks config s) refl
    where
      by : (b : Bool) → no_ticks config s ≡ b → no_ticks config s ≡ false
      by false is = is
      by true is = absurd (true≢false (sym due ∙ (Decides-no_ticks config s).0 is c lt))

  -- up to its tick
  stays_busy : (c : ℕ) → c < length config.counters → (at : ℕ) (s : System) (xs : List Stage) → Linked at s xs → AllByRecursion (Known config app) xs
      → AllByRecursion (λ x. NoTick config app c x.stamped.event) xs → IsOn config app c s → AllByRecursion IsBusy xs
  stays_busy c lt at s [] l k none due = tt
  stays_busy c lt at s (x ∷ xs) l k none due = (
    subst (λ y. no_ticks config y ≡ false) (sym l.1) (due_busy s c lt due),
    stays_busy c lt (end_of x) x.next xs l.2 k.1 none.1 (on_along config app c at s (x ∷ []) (l.0, l.1, tt) (k.0, tt) (none.0, tt) due),
  )

  -- ---- the last stage that finds no counter due

  record Begun (xs : List Stage) : Type 0 where
    before : List Stage
    first : Stage
    behind : List Stage
    parts : xs ≡ before ++ first ∷ behind
    calm : no_ticks config first.found ≡ true
    busy : AllByRecursion IsBusy behind

  scan : (xs : List Stage) → Begun xs ⊎ AllByRecursion IsBusy xs
  scan [] = inr tt
  scan (x ∷ xs) = by (scan xs) (cases_Bool (no_ticks config x.found))
    where
      by : Begun xs ⊎ AllByRecursion IsBusy xs → (no_ticks config x.found ≡ true) ⊎ (no_ticks config x.found ≡ false) → Begun (x ∷ xs) ⊎ AllByRecursion IsBusy (x ∷ xs)
      by (inl b) which =
          inl (record { before = x ∷ b.before; first = b.first; behind = b.behind; parts = ap (λ ys. x ∷ ys) b.parts; calm = b.calm; busy = b.busy })
      by (inr all) (inl is) = inl (record { before = []; first = x; behind = xs; parts = refl; calm = is; busy = all })
      by (inr all) (inr other) = inr (other, all)

  -- ---- what ticks span

  -- all ticks together
  ticks_span : (xs : List Stage) → AllByRecursion (Known config app) xs → AllByRecursion IsOutside xs → AllByRecursion (IsSpannedWithin config app) xs
      → total spanned xs ≤ sum_counters config (λ c. count (at_tick c) xs * tick_path config c)
  ticks_span [] k out within = omega arith
  ticks_span (x ∷ xs) k out within =
      let rest = ticks_span xs k.1 out.1 within.1 in
      let here = one x.stamped.event refl k.0.step out.0 in
      let both = sum_below-join (length config.counters) (λ c. cond (at_tick c x) (tick_path config c) 0) (λ c. count (at_tick c) xs * tick_path config c)
      (λ c. count (at_tick c) (x ∷ xs) * tick_path config c) (λ c. joined c (at_tick c x)) in
      omega (arith, rest, here, both)
    where
      joined : (c : ℕ) (b : Bool) → cond b (tick_path config c) 0 + count (at_tick c) xs * tick_path config c ≤ (cond b 1 0 + count (at_tick c) xs) * tick_path config c
      joined c true = let more = one_more (count (at_tick c) xs) (tick_path config c) in omega (arith, more)
      joined c false =
          let same : 0 + count (at_tick c) xs ≡ count (at_tick c) xs = omega arith in
          let whole = ap (λ m. m * tick_path config c) same in
          omega (arith, whole)

      admits : is_admit x.stamped ≡ true → spanned x ≤ sum_counters config (λ c. cond (at_tick c x) (tick_path config c) 0)
      admits is = let none = ap {B = ℕ} (λ b. cond b 0 (x.stamped.stamp.at + 1 - x.stamped.stamp.from)) is in omega (arith, none)

      one : (e : Event) → x.stamped.event ≡ e → OsekStep config app x.stamped.event x.found x.next → is_outside x.stamped.event ≡ true
          → spanned x ≤ sum_counters config (λ c. cond (at_tick c x) (tick_path config c) 0)
      one (event.Admit t) is step o = admits (ap (λ w. is_some (admitted_line w)) is)
      one (event.Due c) is step o = admits (ap (λ w. is_some (admitted_line w)) is)
      one (event.Tick c) is step o =
          let own : at_tick c x ≡ true = ap (λ w. is_number c (ticking_counter w)) is ∙ eq-eqb c c refl in
          let span = tick_spanned config app c x within.0 own in
          let lt = (subst (λ w. OsekStep config app w x.found x.next) is step).1.declared in
          let term = sum_below-term (length config.counters) (λ d. cond (at_tick d x) (tick_path config d) 0) c lt in
          let this = ap {B = ℕ} (λ b. cond b (tick_path config c) 0) own in
          omega (arith, span, term, this)
      one e is step o = absurd (false≢true (sym (ap is_outside is) ∙ o))

-- ---- a run

module _ (config : Config) (app : App) (size : ItemSizes) (load : List Entry) (n late more longest counts : ℕ) (arrivals : List Arrival) (events : List Stamped)
    (wf : WellFormed config app) (osek : OsekRun config app events) (in_time : InTime config n arrivals events) (pace : HasPace n late more events) (fits : more ≤ longest + late)
    (charges : AreCharged (longest + late) (run_stages config app events)) (weights : AreWithinWeights config app events)
    (shared : AllByRecursion (IsShared config) (run_stages config app events)) (most : AreAtMost size longest)
    (spends : (t : ℕ) → t < length config.tasks → SpendsOnItems config app size longest t events) (positive : HasDistances load) (keeps : KeepDistances load arrivals)
    (room : HasRoomForTicks config load longest late counts) where
  abbrev run : List Stage
  run = run_stages config app events

  leads : AreStepsTo config app events (opening config app) osek.0
  leads = follows_leads config app [] (opening config app) events osek.0 osek.1

  known : AllByRecursion (Known config app) run
  known = stages_known config app (facts config app wf) 0 (opening config app) osek.0 events (opening_ordered config app) (opening_valid config app) leads

  links : Linked 0 (opening config app) run
  links = stages_linked config app 0 (opening config app) events

  -- what holds of each stage of the run holds of those of a part
  part_of : (P : Stage → Type 0) → AllByRecursion P run → (before xs behind : List Stage) → run ≡ before ++ (xs ++ behind) → AllByRecursion P xs
  part_of P all before xs behind is = (each_append P xs behind (each_append P before (xs ++ behind) (subst (AllByRecursion P) is all)).1).0

  -- ---- a period of ticks

  module _ (before : List Stage) (first : Stage) (period behind : List Stage) (part : run ≡ before ++ ((first ∷ period) ++ behind)) (calm : no_ticks config first.found ≡ true)
      (busy : AllByRecursion (IsBusy config app) period) where
    here_known : AllByRecursion (Known config app) (first ∷ period)
    here_known = part_of (Known config app) known before (first ∷ period) behind part

    here_linked : Linked (last_end 0 before) (last_state (opening config app) before) (first ∷ period)
    here_linked =
        linked_front (last_end 0 before) (last_state (opening config app) before) (first ∷ period) behind
        (linked_behind 0 (opening config app) before ((first ∷ period) ++ behind) (subst (Linked 0 (opening config app)) part links))

    outside : AllByRecursion IsOutside period
    outside =
        all_outside config app (end_of first) first.next period here_linked.2 here_known.1
        (has_started config app first.stamped.event first.found first.next here_known.0.step) busy

    -- a beginning of it that begins soon takes no more counts
    few : (front rest : List Stage) → period ≡ front ++ rest → AllByRecursion (BeginsWithin counts first) front → total charged front ≤ counts
    few front rest is begins =
        let at : run ≡ before ++ ((first ∷ front) ++ (rest ++ behind)) =
        part ∙ ap (λ xs. before ++ ((first ∷ xs) ++ behind)) is ∙ ap (λ xs. before ++ first ∷ xs) (append_assoc front rest behind) in
        let at_front : run ≡ (before ++ first ∷ []) ++ (front ++ (rest ++ behind)) = at ∙ sym (append_assoc before (first ∷ []) (front ++ (rest ++ behind))) in
        let its_known = (each_append (Known config app) front rest (subst (AllByRecursion (Known config app)) is here_known.1)).0 in
        let its_outside = (each_append IsOutside front rest (subst (AllByRecursion IsOutside) is outside)).0 in
        let its_links = linked_front (end_of first) first.next front rest (subst (Linked (end_of first) first.next) is here_linked.2) in
        let spent = outside_spend config app size longest most (end_of first) first.next front ordered its_links its_known
        (part_of (IsShared config) shared (before ++ first ∷ []) front (rest ++ behind) at_front)
        (λ t lt.
        subst (λ s. (from : ℕ) × ((spent : ℕ) × AreSpent config app size longest t from spent s front)) (last_state-append (opening config app) before (first ∷ []))
        (spent_in config app size longest n t arrivals events wf osek in_time (spends t lt) (before ++ first ∷ []) front (rest ++ behind) at_front)) its_outside in
        let spans = ticks_span config app front its_known its_outside
        (part_of (IsSpannedWithin config app) (run_spanned config app events osek weights) (before ++ first ∷ []) front (rest ++ behind) at_front) in
        let sums = sum_below-le (length config.counters) (λ c. count (at_tick c) front * tick_path config c)
        (λ c. arrivals_within load (admission_window late (longest + late) counts) (counter_line c) * tick_path config c)
        (λ c lt. product_grows (count (at_tick c) front) (arrivals_within load (admission_window late (longest + late) counts) (counter_line c)) (tick_path config c)
        (let admitted = admissions_few config app load n late more (longest + late) arrivals events osek in_time pace fits charges positive keeps (counter_line c) counts before first front (rest ++ behind) at begins in
        let ticked = ticks_balance config app c (last_end 0 before) (last_state (opening config app) before) (first ∷ front)
        (linked_front (last_end 0 before) (last_state (opening config app) before) (first ∷ front) rest (subst (λ xs. Linked (last_end 0 before) (last_state (opening config app) before) (first ∷ xs)) is here_linked))
        (here_known.0, its_known) in
        let none = undue c lt in
        omega (arith, admitted, ticked, none))) in
        let enough = room in
        omega (arith, spent, spans, sums, enough)
      where
        ordered : Ordered config first.next
        ordered = step_ordered config app first.found first.next here_known.0.ordered first.stamped.event here_known.0.step

        undue : (c : ℕ) → c < length config.counters → due_count c (last_state (opening config app) before) ≡ 0
        undue c lt =
            ap {B = ℕ} (λ b. cond b 1 0)
            (subst (λ (s : System). (counter s c).due ≡ false) here_linked.1 ((Decides-no_ticks config first.found).0 calm c lt))

    -- so each stage of it begins soon
    all_begin : (front rest : List Stage) → period ≡ front ++ rest → AllByRecursion (BeginsWithin counts first) front → AllByRecursion (BeginsWithin counts first) period
    all_begin front [] is begins = subst (AllByRecursion (BeginsWithin counts first)) (sym (is ∙ append-nil front)) begins
    all_begin front (x ∷ rest) is begins =
        all_begin (front ++ x ∷ []) rest (is ∙ sym (append_assoc front (x ∷ []) rest)) (each_joined (BeginsWithin counts first) front (x ∷ []) begins (here, tt))
      where
        here : BeginsWithin counts first x
        here =
            let its_links = subst (Linked (end_of first) first.next) is here_linked.2 in
            let start = (linked_behind (end_of first) first.next front (x ∷ rest) its_links).0 in
            let ends = last_within (end_of first) first.next front (linked_front (end_of first) first.next front (x ∷ rest) its_links) in
            let most_counts = few front (x ∷ rest) is begins in
            omega (arith, start, ends, most_counts)

    -- and it ends soon
    ends_soon : last_end (end_of first) period ≤ end_of first + counts
    ends_soon =
        let ends = last_within (end_of first) first.next period here_linked.2 in
        let most_counts = few period [] (sym (append-nil period)) (all_begin [] period refl tt) in
        omega (arith, ends, most_counts)

  -- ---- an arrival

  module _ (before behind : List Stamped) (arrival : Stamped) (c : ℕ) (is : events ≡ before ++ arrival ∷ behind) (due : arrival.event ≡ event.Due c) where
    abbrev front : List Stage
    front = stages config app 0 (opening config app) before

    abbrev x : Stage
    x = stage config app (last_end 0 front) (last_state (opening config app) front) arrival

    abbrev later : List Stage
    later = stages config app (end_of x) x.next behind

    all : run ≡ front ++ x ∷ later
    all = ap (stages config app 0 (opening config app)) is ∙ stages-append config app 0 (opening config app) before (arrival ∷ behind)

    x_known : Known config app x
    x_known = (each_append (Known config app) front (x ∷ later) (subst (AllByRecursion (Known config app)) all known)).1.0

    on : IsOn config app c x.next × (c < length config.counters)
    on = arrived config app c x x_known due

    -- while its counter stays due
    near : (period further : List Stage) → later ≡ period ++ further → AllByRecursion (IsBusy config app) period → last_end (end_of x) period ≤ arrival.stamp.at + (counts + late)
    near period further same busy = by (scan config app (front ++ x ∷ []))
      where
        by : Begun config app (front ++ x ∷ []) ⊎ AllByRecursion (IsBusy config app) (front ++ x ∷ []) → last_end (end_of x) period ≤ arrival.stamp.at + (counts + late)
        by (inr busy_all) = absurd (first_calm front busy_all links_up)
          where
            links_up : Linked 0 (opening config app) (front ++ x ∷ [])
            links_up =
                linked_front 0 (opening config app) (front ++ x ∷ []) later
                (subst (Linked 0 (opening config app)) (all ∙ sym (append_assoc front (x ∷ []) later)) links)

            calm_opening : no_ticks config (opening config app) ≡ true
            calm_opening = (Decides-no_ticks config (opening config app)).1 (λ d lt. undue_at config.counters d)

            first_calm : (ys : List Stage) → AllByRecursion (IsBusy config app) (ys ++ x ∷ []) → Linked 0 (opening config app) (ys ++ x ∷ []) → ⊥
            first_calm [] b l = true≢false (sym calm_opening ∙ subst (λ s. no_ticks config s ≡ false) l.1 b.0)
            first_calm (y ∷ ys) b l = true≢false (sym calm_opening ∙ subst (λ s. no_ticks config s ≡ false) l.1 b.0)
        by (inl b) =
            let part : run ≡ b.before ++ ((b.first ∷ (b.behind ++ period)) ++ further) =
            all ∙ sym (append_assoc front (x ∷ []) later) ∙ ap (λ ys. ys ++ later) b.parts ∙ ap (λ ys. (b.before ++ b.first ∷ b.behind) ++ ys) same
            ∙ append_assoc b.before (b.first ∷ b.behind) (period ++ further) ∙ ap (λ ys. b.before ++ b.first ∷ ys) (sym (append_assoc b.behind period further)) in
            let soon = ends_soon b.before b.first (b.behind ++ period) further part b.calm (each_joined (IsBusy config app) b.behind period b.busy busy) in
            let near_all = near_period config app load n late more (longest + late) arrivals events osek in_time pace fits charges positive keeps b.before b.first (b.behind ++ period) further part in
            let near_x = at_last (λ y. end_of b.first ≤ y.stamped.stamp.at + late) b.before b.first b.behind b.parts
            (each_append (λ y. end_of b.first ≤ y.stamped.stamp.at + late) (b.first ∷ b.behind) period near_all).0 in
            let up = ap (last_end 0) b.parts ∙ last_end-append 0 b.before (b.first ∷ b.behind) in
            let own = last_end-append 0 front (x ∷ []) in
            let joined = last_end-append (end_of b.first) b.behind period ∙ ap (λ k. last_end k period) (sym up ∙ own) in
            omega (arith, soon, near_x, joined)
          where
            -- x is the last of them
            at_last : (P : Stage → Type 0) (ys : List Stage) (y : Stage) (zs : List Stage) → front ++ x ∷ [] ≡ ys ++ y ∷ zs → AllByRecursion P (y ∷ zs) → P x
            at_last P ys y zs at each = which (cut front x [] ys y zs at)
              where
                which : Cut front x [] ys y zs → P x
                which (at_one e) = subst P (sym e) each.0
                which (in_front mid p q) = absurd (none mid q)
                  where
                    none : (mid : List Stage) → [] ≡ mid ++ y ∷ zs → ⊥
                    none [] e = cc
                    none (m ∷ mid) e = cc
                which (behind_it mid p q) = (each_append P mid (x ∷ []) (subst (AllByRecursion P) q each.1)).1.0

    -- events that are no ticks of it
    unticked : (at : ℕ) (s : System) (es : List Stamped) → AllByRecursion (λ e. is_number c (ticking_counter e.event) ≡ false) es
        → AllByRecursion (λ y. NoTick config app c y.stamped.event) (stages config app at s es)
    unticked at s [] none = tt
    unticked at s (e ∷ es) none = (none.0, unticked (end_of (stage config app at s e)) (state_behind config app e.event s) es none.1)

    later_known : AllByRecursion (Known config app) later
    later_known = (each_append (Known config app) front (x ∷ later) (subst (AllByRecursion (Known config app)) all known)).1.1

    later_links : Linked (end_of x) x.next later
    later_links = (linked_behind 0 (opening config app) front (x ∷ later) (subst (Linked 0 (opening config app)) all links)).2

    tick_follows : arrival.stamp.at + (counts + late) + more ≤ n → TicksBefore c (arrival.stamp.at + (counts + late)) behind
    tick_follows many = by (ticking c behind)
      where
        by : Ticking c behind → TicksBefore c (arrival.stamp.at + (counts + late)) behind
        by (none_ticks none) =
            let busy = stays_busy config app c on.1 (end_of x) x.next later later_links later_known (unticked (end_of x) x.next behind none) on.0 in
            let soon = near later [] (sym (append-nil later)) busy in
            let some = subst (λ es. 1 ≤ length es) (sym is) (some_events before) in
            let reaches = pace.reaches some in
            let no_less = run_no_less config app late osek.0 events some leads in
            let last = ap (last_end 0) all ∙ last_end-append 0 front (x ∷ later) in
            absurd (omega (arith, soon, reaches, no_less, last, many))
          where
            some_events : (es : List Stamped) → 1 ≤ length (es ++ arrival ∷ behind)
            some_events [] = omega arith
            some_events (e ∷ es) = omega arith
        by (first_tick ahead tick rest at none is_tick) =
            let xs = stages config app (end_of x) x.next ahead in
            let y = stage config app (last_end (end_of x) xs) (last_state x.next xs) tick in
            let further = stages config app (end_of y) y.next rest in
            let same : later ≡ (xs ++ y ∷ []) ++ further =
            ap (stages config app (end_of x) x.next) at ∙ stages-append config app (end_of x) x.next ahead (tick ∷ rest) ∙ sym (append_assoc xs (y ∷ []) further) in
            let whole : later ≡ xs ++ y ∷ further = same ∙ append_assoc xs (y ∷ []) further in
            let xs_known = (each_append (Known config app) xs (y ∷ further) (subst (AllByRecursion (Known config app)) whole later_known)).0 in
            let xs_links = linked_front (end_of x) x.next xs (y ∷ further) (subst (Linked (end_of x) x.next) whole later_links) in
            let free = unticked (end_of x) x.next ahead none in
            let busy = stays_busy config app c on.1 (end_of x) x.next xs xs_links xs_known free on.0 in
            let last_busy : no_ticks config y.found ≡ false = due_busy config app (last_state x.next xs) c on.1 (on_along config app c (end_of x) x.next xs xs_links xs_known free on.0) in
            let soon = near (xs ++ y ∷ []) further same (each_joined (IsBusy config app) xs (y ∷ []) busy (last_busy, tt)) in
            let other : is_admit tick ≡ false = ap (λ w. is_some (admitted_line w)) is_tick in
            let ends = last_end-append (end_of x) xs (y ∷ []) ∙ ap {B = ℕ} (λ b. cond b (last_end (end_of x) xs) (tick.stamp.at + 1)) other in
            record { front = ahead; tick = tick; rest = rest; parts = at; first = none; ticks = is_tick; in_time = omega (arith, soon, ends) }

pub ticks_end_in_time : TicksEndInTime
ticks_end_in_time config app size load n late more longest counts arrivals events wf osek in_time pace fits charges weights shared most spends positive keeps room before behind arrival c is due many =
    tick_follows config app size load n late more longest counts arrivals events wf osek in_time pace fits charges weights shared most spends positive keeps room before behind arrival c is due many
