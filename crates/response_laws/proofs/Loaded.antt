-- A task responds in time under a load.
use Rattle.std.proofs.Common.{◌≡◌, ℕ, ◌+◌, ◌<◌, ◌≤◌, ◌⊎◌, List, [], ◌∷◌, ◌++◌, Bool, true, false, cond, refl, sym, ap, ◌∙◌, subst, arith, inl, inr, append_assoc, is_some, length, ◌&&◌}
use Rattle.std.specs.List.{AllByRecursion}
use Rattle.sloth_base.specs.declared.config.Config.{Config}
use Rattle.sloth_base.specs.declared.app.App.{App}
use Rattle.sloth_base.specs.declared.service.Arrival.{Arrival}
use Rattle.sloth_base.specs.declared.service.Stamped.{Stamped}
use Rattle.std.proofs.lemmas.Bool.{true≢false, cases_Bool, false≢true, eqb-true}
use Rattle.sloth_base.specs.Events.{is_boot, served_task, admitted_line}
use Rattle.code_rules.specs.WellFormed.{WellFormed}
use Rattle.load_text.specs.declared.load_line.Entry.{Entry}
use Rattle.load_text.specs.Loads.{KeepDistances}
use Rattle.osek_scheduler.specs.InTime.{InTime, is_admit}
use Rattle.osek_scheduler.specs.Runs.{OsekRun}
use Rattle.osek_scheduler.specs.declared.state.TaskState.TheVariants as mode
use Rattle.osek_scheduler.specs.State.{System, opening, task}
use Rattle.osek_scheduler.proofs.Facts.{facts}
use Rattle.osek_scheduler.proofs.Leading.{follows_leads}
use Rattle.osek_scheduler.proofs.Steps.{opening_valid}
use Rattle.osek_blocking.proofs.Ordering.{opening_ordered}
use Rattle.run_counts.specs.Stages.{Stage, spanned, charged, end_of, run_stages, is_entry}
use Rattle.run_counts.specs.OwnCounts.{IsOwn}
use Rattle.run_counts.proofs.Owned.{own_what_is_charged}
use Rattle.response_laws.specs.Shares.{share_of, lower_counts, LowerSpendWithin}
use Rattle.response_laws.proofs.OwnShares.{own_no_round}
use Rattle.response_laws.proofs.Shares as shares
use Rattle.sloth_base.specs.declared.service.Event.{Event}
use Rattle.sloth_base.specs.declared.service.Event.TheVariants as event
use Rattle.osek_scheduler.specs.Steps.{OsekStep}
use Rattle.osek_scheduler.specs.Apart.{IsActive}
use Rattle.run_counts.specs.Rounds.{goes_on_waiting, total}
use Rattle.response_laws.proofs.Leaving.{none_lower}
use Rattle.response_laws.proofs.RoundEnds.{left_inactive}
use Rattle.response_laws.proofs.RoundSums.{longer, no_round}
use Rattle.response_laws.proofs.Steps.{active_declared}
use Rattle.response_laws.specs.Sums.{count, is_over}
use Rattle.response_laws.specs.Turns.{is_other, comes_at, activated, was_set, at_entry, round_behind, if_turn}
use Rattle.response_laws.specs.Busy.{IsBusyPeriod, is_quiet, LeavesFirst, IsLeaving}
use Rattle.response_laws.specs.Demand.{Costs, Start}
use Rattle.response_laws.specs.Bounded.{BeginsWithin, IsWithinInflow, JoinsWithin, StartsSo, EndsSoon, StartsInOne, left_of, left_over}
use Rattle.response_laws.specs.Arrivals.{HasDistances, AreCharged}
use Rattle.osek_blocking.specs.Sections.{IsLower}
use Rattle.response_laws.specs.Starts.{InSection, OpensSection, AreOfSection, HasSectionBehind, JoinsSo, IsAlone, AreOfOne, Comes, with_one, with_section, IsWithinStart, SomeIsWithin, HaveStarts, begun_item}
use Rattle.response_laws.specs.Response.{HasPace, EntersOnce}
use Rattle.response_laws.specs.Loaded.{IsStartFor, RespondsUnderLoad}
use Rattle.response_laws.proofs.Booted.{HasStarted, has_started, no_boot}
use Rattle.response_laws.proofs.Starting.{IsBusy, due_busy}
use Rattle.response_laws.proofs.Linked.{Known, Linked, last_state, last_end, linked_front, linked_behind, each_append, each_so, stages_linked, stages_known}
use Rattle.response_laws.proofs.Sums.{total-append}
use Rattle.response_laws.proofs.Lower.{admit_is_none, periods_start_so}
use Rattle.response_laws.proofs.Blocking.{IsLowService}
use Rattle.response_laws.proofs.Arriving.{near_period, admissions_few}
use Rattle.response_laws.proofs.Passing.{AreAdmissions, soon_served, soon_active, left_no_admit, leaving_parts}
use Rattle.response_laws.proofs.Tails.{Tail, none_other, one_serves, all_raised, tail, SectionTail, was_raised, gets_raised, section_tail, all_of_section}
use Rattle.response_laws.proofs.Responding.{respond_in_time}
use Rattle.response_laws.proofs.Asleep.{idle_spend, boot_idle}
use Rattle.response_laws.proofs.LowerSpending.{own_where_none}
use Rattle.response_laws.proofs.OneEvent.{no_others, no_admissions, section_front, none_in_front, one_front, lower_where_none, lower_behind_one, others}
use Rattle.response_laws.proofs.LeavingShares.{at_most_itself, rest_own, rest_of, LeavesWithin, step_left, step_admit, has_leaving}

module _ (config : Config) (app : App) (load : List Entry) (n late more heaviest longest : ℕ) (arrivals : List Arrival) (events : List Stamped) (h r : ℕ)
    (cuts : ℕ → Bool) (costs : Costs) (once boot : Bool) (starts : ℕ) (start : ℕ → Start) (enters : once ≡ true → EntersOnce config h cuts) (wf : WellFormed config app) (osek : OsekRun config app events)
    (in_time : InTime config n arrivals events) (pace : HasPace n late more events) (fits : more ≤ heaviest)
    (charges : AreCharged heaviest (run_stages config app events)) (positive : HasDistances load) (keeps : KeepDistances load arrivals)
    (brief : LowerSpendWithin config h longest (run_stages config app events))
    (have : HaveStarts config h longest late once starts start (run_stages config app events))
    (fit : (i : ℕ) → i < starts → IsStartFor config load late heaviest h r cuts once boot costs (run_stages config app events) (start i)) where
  module _ (first : Stage) (period : List Stage) (busy : IsBusyPeriod config h once (run_stages config app events) first period) where
    -- a beginning of the period is a part of the run
    part : (front rest : List Stage) → period ≡ front ++ rest → run_stages config app events ≡ busy.before ++ ((first ∷ front) ++ (rest ++ busy.behind))
    part front rest is =
        busy.part ∙ ap (λ zs. busy.before ++ first ∷ (zs ++ busy.behind)) is ∙ ap (λ zs. busy.before ++ first ∷ zs) (append_assoc front rest busy.behind)

    within : (s : Start) → IsStartFor config load late heaviest h r cuts once boot costs (run_stages config app events) s → (s.is_boot ≡ true → busy.before ≡ [])
        → (front rest : List Stage) → period ≡ front ++ rest
        → AllByRecursion (BeginsWithin s.counts first) front → total (lower_counts config h) front + left_of once h (share_of config h) front ≤ s.inflow.front
        → ((j : ℕ) → is_over config h j ≡ true → others config h (activated j) (first ∷ front) + left_over once h (activated j) (first ∷ front) ≤ s.inflow.acts j)
        → ((j : ℕ) → is_over config h j ≡ true → others config h (was_set j) (first ∷ front) + left_over once h (was_set j) (first ∷ front) ≤ s.inflow.sets j)
        → IsWithinInflow config h once s.inflow first front
    within s is_start boots front rest is begins counts acts sets = record {
      arrivals = λ line.
          let le = admissions_few config app load n late more heaviest arrivals events osek in_time pace fits charges positive keeps line s.counts
          busy.before first front (rest ++ busy.behind) (part front rest is) begins in
          let most = is_start.arrivals line in
          omega (arith, le, most);
      alarm_acts = λ c j. is_start.alarms.acts c j busy.before (first ∷ front) (rest ++ busy.behind) (part front rest is) boots;
      alarm_sets = λ c j. is_start.alarms.sets c j busy.before (first ∷ front) (rest ++ busy.behind) (part front rest is) boots;
      front = counts;
      acts = acts;
      sets = sets;
    }

    -- what holds of each stage of the run holds of those of the period
    of_period : (P : Stage → Type 0) → AllByRecursion P (run_stages config app events) → AllByRecursion P (first ∷ period)
    of_period P each =
        (each_append P (first ∷ period) busy.behind (each_append P busy.before ((first ∷ period) ++ busy.behind) (subst (AllByRecursion P) busy.part each)).1).0

    -- an event may stand in front of where the first one ends
    soon_late : (lead : ℕ) → late ≤ lead → EndsSoon h lead first (first ∷ period)
    soon_late lead le =
        each_so (λ x. end_of first ≤ x.stamped.stamp.at + late) (λ x. comes_at h x ≡ true → end_of first ≤ x.stamped.stamp.at + lead)
        (λ x near _. omega (arith, near, le)) (first ∷ period)
        (near_period config app load n late more heaviest arrivals events osek in_time pace fits charges positive keeps busy.before first period busy.behind busy.part)

    known : AllByRecursion (Known config app) (first ∷ period)
    known =
        (each_append (Known config app) (first ∷ period) busy.behind
        (each_append (Known config app) busy.before ((first ∷ period) ++ busy.behind)
        (subst (AllByRecursion (Known config app)) busy.part
        (stages_known config app (facts config app wf) 0 (opening config app) osek.0 events (opening_ordered config app) (opening_valid config app)
        (follows_leads config app [] (opening config app) events osek.0 osek.1)))).1).0

    links : Linked (end_of first) first.next period
    links =
        (linked_front (last_end 0 busy.before) (last_state (opening config app) busy.before) (first ∷ period) busy.behind
        (linked_behind 0 (opening config app) busy.before ((first ∷ period) ++ busy.behind)
        (subst (Linked 0 (opening config app)) busy.part (stages_linked config app 0 (opening config app) events)))).2

    -- a period with boot is at the beginning of the run
    no_boots : (at : ℕ) (s : System) (xs : List Stage) → Linked at s xs → AllByRecursion (Known config app) xs → HasStarted s
        → AllByRecursion (λ x. is_boot x.stamped.event ≡ false) xs
    no_boots at s [] l k on = tt
    no_boots at s (x ∷ xs) l k on = (
      no_boot config app x.stamped.event x.found x.next k.0.step (subst HasStarted (sym l.1) on),
      no_boots (end_of x) x.next xs l.2 k.1 (has_started config app x.stamped.event x.found x.next k.0.step),
    )

    at_boot : (before : List Stage) → busy.before ≡ before → (AllByRecursion (λ x. is_boot x.stamped.event ≡ false) (first ∷ period) → ⊥) → busy.before ≡ []
    at_boot [] is some = is
    at_boot (y ∷ ys) is some = absurd (some (each_append _ ys (first ∷ period) (no_boots (end_of y) y.next (ys ++ (first ∷ period)) further.0 further.1 started)).1)
      where
        whole : run_stages config app events ≡ (y ∷ (ys ++ (first ∷ period))) ++ busy.behind
        whole =
            busy.part ∙ ap (λ bs. bs ++ ((first ∷ period) ++ busy.behind)) is
            ∙ ap (λ zs. y ∷ zs) (sym (append_assoc ys (first ∷ period) busy.behind))

        all_links : Linked 0 (opening config app) (y ∷ (ys ++ (first ∷ period)))
        all_links =
            linked_front 0 (opening config app) (y ∷ (ys ++ (first ∷ period))) busy.behind
            (subst (Linked 0 (opening config app)) whole (stages_linked config app 0 (opening config app) events))

        all_known : AllByRecursion (Known config app) (y ∷ (ys ++ (first ∷ period)))
        all_known =
            (each_append (Known config app) (y ∷ (ys ++ (first ∷ period))) busy.behind
            (subst (AllByRecursion (Known config app)) whole
            (stages_known config app (facts config app wf) 0 (opening config app) osek.0 events (opening_ordered config app) (opening_valid config app)
            (follows_leads config app [] (opening config app) events osek.0 osek.1)))).0

        further : Linked (end_of y) y.next (ys ++ (first ∷ period)) × AllByRecursion (Known config app) (ys ++ (first ∷ period))
        further = (all_links.2, all_known.1)

        started : HasStarted y.next
        started = has_started config app y.stamped.event y.found y.next all_known.0.step

    quiet_idle : is_quiet config h first.found ≡ true → IsActive first.found h → ⊥
    quiet_idle quiet active =
        true≢false (sym quiet ∙ due_busy config h first.found (active_declared config first.found h known.0.valid.count active) (inr active))

    quiet_no_entry : is_quiet config h first.found ≡ true → at_entry h first ≡ false
    quiet_no_entry quiet = which (cases_Bool (at_entry h first))
      where
        by : (e : Event) → OsekStep config app e first.found first.next → is_entry h e ≡ true → ⊥
        by (event.Enter u) step is =
            let same = eqb-true u h is in
            let ready = subst (λ v. (task first.found v).state ≡ mode.Ready) same step.2 in
            true≢false (sym quiet ∙ due_busy config h first.found (subst (λ v. v < length config.tasks) same step.1.declared) (inl ready))
        by e step is = absurd (false≢true is)

        which : (at_entry h first ≡ true) ⊎ (at_entry h first ≡ false) → at_entry h first ≡ false
        which (inr off) = off
        which (inl is) = absurd (by first.stamped.event known.0.step is)

    longer_own : (xs ys : List Stage) → rest_own config h xs ≤ rest_own config h (xs ++ ys)
    longer_own = shares.longer false h spanned (share_of config h)

    -- where a period begins quietly, h runs in no turn
    nothing_over : is_quiet config h first.found ≡ true → (f : Stage → ℕ) (front rest : List Stage) → period ≡ front ++ rest → left_over once h f (first ∷ front) ≤ 0
    nothing_over quiet f front rest is =
        let none = no_round false h f config app first.start first.found (first ∷ period) (refl, refl, links) known (quiet_idle quiet) in
        let le = longer false h f (first ∷ front) rest in
        let same = ap (λ zs. total (if_turn h f) (round_behind false h (first ∷ zs))) is in
        let few = at_most_itself once (total (if_turn h f) (round_behind false h (first ∷ front))) in
        omega (arith, none, le, same, few)

    nothing_over_behind : is_quiet config h first.found ≡ true → (front rest : List Stage) → period ≡ front ++ rest → left_of once h (share_of config h) front ≤ 0
    nothing_over_behind quiet front rest is =
        let none = own_no_round config app h false first.start first.found (first ∷ period) (refl, refl, links) known (quiet_idle quiet) in
        let le = longer_own front rest in
        let same = ap (rest_own config h) is in
        let few = at_most_itself once (rest_own config h front) in
        let whole = ap (λ e. total (share_of config h) (cond e [] (first ∷ cond (false && goes_on_waiting h first.stamped.event) [] (round_behind false h period))))
        (quiet_no_entry quiet) in
        omega (arith, none, le, same, few, whole)

    abbrev StartsInSome : Type 0
    StartsInSome = (i : ℕ) × (i < starts) × StartsSo config h once (start i) first period × EndsSoon h (start i).lead first (first ∷ period)
        × ((start i).is_boot ≡ true → busy.before ≡ [])

    with_sections : is_quiet config h first.found ≡ true → (b : ℕ) → IsLower config h b → AreOfSection config h b (first ∷ period) → StartsInSome
    with_sections quiet b lower section = by (is_admit first.stamped) refl section
      where
        section_in : (front rest : List Stage) → period ≡ front ++ rest → AreOfSection config h b (first ∷ front)
        section_in front rest is = section_front config h b (first ∷ front) rest (subst (λ zs. AreOfSection config h b (first ∷ zs)) is section)

        joins_so : (s : Start) (front rest : List Stage) → period ≡ front ++ rest → JoinsWithin config h once s (first ∷ front) → JoinsSo config h s b (first ∷ front)
        joins_so s front rest is joining joins =
            let le = joining b joins in
            let none = nothing_over quiet (was_set b) front rest is in
            omega (arith, le, none)

        with_start : (raised : Bool) → ((front rest : List Stage) → period ≡ front ++ rest → HasSectionBehind config h b raised first front)
            → ((lead : ℕ) → cond raised late 0 ≤ lead → EndsSoon h lead first (first ∷ period)) → StartsInSome
        with_start raised behind soon =
            let s = have.section b lower raised in (
              s.0,
              s.1,
              (λ front rest is begins joining.
                  let of_front = section_in front rest is in
                  let joins = joins_so (start s.0) front rest is joining in
                  within (start s.0) (fit s.0 s.1) (λ boots. absurd (true≢false (sym boots ∙ s.2))) front rest is begins
                  (let le = s.4.front busy.before (rest ++ busy.behind) first front (part front rest is) of_front (behind front rest is)
                  (each_append (IsBusy config h) front rest (subst (AllByRecursion (IsBusy config h)) is busy.busy)).0 joins in
                  let none = nothing_over_behind quiet front rest is in omega (arith, le, none))
                  (λ j over.
                  let le = s.4.acts busy.before (rest ++ busy.behind) j (first ∷ front) over (part front rest is) of_front joins in
                  let none = nothing_over quiet (activated j) front rest is in omega (arith, le, none))
                  (λ j over.
                  let le = s.4.sets busy.before (rest ++ busy.behind) j (first ∷ front) over (part front rest is) of_front joins in
                  let none = nothing_over quiet (was_set j) front rest is in omega (arith, le, none))),
              soon (start s.0).lead s.3,
              λ boots. absurd (true≢false (sym boots ∙ s.2)),
            )

        -- with its first stage at the latest the task is raised
        raised_first : InSection config h b period → StartsInSome
        raised_first more = with_start true (λ front rest is. (each_append _ front rest (subst (InSection config h b) is more)).0) (λ lead le. soon_late lead le)

        by : (a : Bool) → is_admit first.stamped ≡ a → OpensSection config h b a (AreOfSection config h b period) first period → StartsInSome
        by false later s = raised_first s.1
        by true admits s =
            of (section_tail config app h b (end_of first) first.next period links known.1 busy.busy (has_started config app first.stamped.event first.found first.next known.0.step) s)
          where
            of : SectionTail config app h b period → StartsInSome
            of (was_raised more) = raised_first more
            of (gets_raised group y rest is all later low) =
                with_start false section_in
                (λ lead le.
                subst (λ zs. EndsSoon h lead first (first ∷ zs)) (sym is)
                (soon_served config app n h arrivals events wf osek in_time busy.before first group y rest busy.behind
                (busy.part ∙ ap (λ zs. busy.before ++ first ∷ (zs ++ busy.behind)) is) (admits, all) later lead low))

    -- what one other event brings is within a start
    record OneStart : Type 0 where
      which : ℕ
      there : which < starts
      has_boot : (start which).is_boot ≡ true → AllByRecursion (λ x. is_boot x.stamped.event ≡ false) (first ∷ period) → ⊥
      front : others config h charged period + begun_item longest (start which) ≤ (start which).inflow.front
      soon : EndsSoon h (start which).lead first (first ∷ period)
      acts : (j : ℕ) → is_over config h j ≡ true → others config h (activated j) (first ∷ period) ≤ (start which).inflow.acts j
      sets : (j : ℕ) → is_over config h j ≡ true → others config h (was_set j) (first ∷ period) ≤ (start which).inflow.sets j

    -- there is none behind the first
    first_start : count (is_other config h) period ≤ 0 → OneStart
    first_start few = by (is_other config h first) refl
      where
        zero : (f : Stage → ℕ) → others config h f period ≤ 0
        zero f = no_others config h f period few

        by : (b : Bool) → is_other config h first ≡ b → OneStart
        by true is =
            let fits = (of_period
            (λ x. is_other config h x ≡ true → (i : ℕ) × (i < starts) × ((start i).is_boot ≡ true → is_boot x.stamped.event ≡ true) × IsWithinStart config h (begun_item longest (start i)) late (start i) x)
            have.opens).0 is in
            let own : (f : Stage → ℕ) → others config h f (first ∷ period) ≤ f first =
            λ f. let rest = zero f in let here = ap {B = ℕ} (λ b. cond b (f first) 0) is in omega (arith, rest, here) in
            record {
              which = fits.0;
              there = fits.1;
              has_boot = λ boots none. true≢false (sym (fits.2 boots) ∙ none.0);
              front = let le = zero charged in let most = fits.3.front in omega (arith, le, most);
              soon = soon_late (start fits.0).lead fits.3.lead;
              acts = λ j over. let le = own (activated j) in let most = fits.3.acts j over in omega (arith, le, most);
              sets = λ j over. let le = own (was_set j) in let most = fits.3.sets j over in omega (arith, le, most);
            }
        by false off =
            let some = have.some in
            let own : (f : Stage → ℕ) → others config h f (first ∷ period) ≤ 0 =
            λ f. let rest = zero f in let here = ap {B = ℕ} (λ b. cond b (f first) 0) off in omega (arith, rest, here) in
            record {
              which = some.0;
              there = some.1;
              has_boot = λ is. absurd (true≢false (sym is ∙ some.2));
              front = let le = zero charged in let most = some.3 in let item = ap {B = ℕ} (λ b. cond b 0 longest) some.2 in omega (arith, le, most, item);
              soon = soon_late (start some.0).lead some.4;
              acts = λ j over. let le = own (activated j) in omega (arith, le);
              sets = λ j over. let le = own (was_set j) in omega (arith, le);
            }

    -- it is a service behind admissions, which came while it was running
    served_start : is_admit first.stamped ≡ true → (group : List Stage) (y : Stage) (rest : List Stage) → period ≡ group ++ y ∷ rest → AreAdmissions group
        → is_admit y.stamped ≡ false → is_other config h y ≡ true → IsLowService config h y → count (is_other config h) rest ≤ 0 → OneStart
    served_start admits group y rest is all later other low few =
        let ServedSo : Stage → Type 0 =
        λ x. is_other config h x ≡ true → is_some (served_task x.stamped.event) ≡ true → SomeIsWithin config h starts start (charged x + longest) 0 x in
        let fits = (each_append ServedSo group (y ∷ rest) (subst (AllByRecursion ServedSo) is (of_period ServedSo have.serves).1)).1.0 other (ap is_some low.serves) in
        let own : (f : Stage → ℕ) → others config h f period ≤ f y =
        λ f.
        let whole = ap (others config h f) is in
        let parts = total-append (λ x. cond (is_other config h x) (f x) 0) group (y ∷ rest) in
        let none = no_admissions config h app f group all in
        let zero = no_others config h f rest few in
        let here = ap {B = ℕ} (λ b. cond b (f y) 0) other in
        omega (arith, whole, parts, none, zero, here) in
        let all_own : (f : Stage → ℕ) → others config h f (first ∷ period) ≤ f y =
        λ f. let le = own f in let here = ap {B = ℕ} (λ b. cond b (f first) 0) (admit_is_none config app h first admits) in omega (arith, le, here) in
        record {
          which = fits.0;
          there = fits.1;
          has_boot = λ boots. absurd (true≢false (sym boots ∙ fits.2));
          front = let le = own charged in let most = fits.3.front in let item = ap {B = ℕ} (λ b. cond b 0 longest) fits.2 in omega (arith, le, most, item);
          soon =
              subst (λ zs. EndsSoon h (start fits.0).lead first (first ∷ zs)) (sym is)
              (soon_served config app n h arrivals events wf osek in_time busy.before first group y rest busy.behind
              (busy.part ∙ ap (λ zs. busy.before ++ first ∷ (zs ++ busy.behind)) is) (admits, all) later (start fits.0).lead low);
          acts = λ j over. let le = all_own (activated j) in let most = fits.3.acts j over in omega (arith, le, most);
          sets = λ j over. let le = all_own (was_set j) in let most = fits.3.sets j over in omega (arith, le, most);
        }

    -- behind boot lower tasks have nothing, else one item and what the event brings
    lower_of_start : (one : OneStart) (front rest : List Stage) → period ≡ front ++ rest → AreOfOne config h (first ∷ front)
        → total (lower_counts config h) front ≤ others config h charged front + begun_item longest (start one.which)
    lower_of_start one front rest is ahead = by (cases_Bool (start one.which).is_boot)
      where
        boots_here : (start one.which).is_boot ≡ true → (is_boot first.stamped.event ≡ true) ⊎ (is_boot first.stamped.event ≡ false) → is_boot first.stamped.event ≡ true
        boots_here on (inl boots) = boots
        boots_here on (inr off) =
            absurd (one.has_boot on (off, no_boots (end_of first) first.next period links known.1 (has_started config app first.stamped.event first.found first.next known.0.step)))

        no_admit : (e : Event) → is_boot e ≡ true → is_some (admitted_line e) ≡ false
        no_admit event.Boot boots = refl
        no_admit e boots = absurd (false≢true boots)

        by : ((start one.which).is_boot ≡ true) ⊎ ((start one.which).is_boot ≡ false)
            → total (lower_counts config h) front ≤ others config h charged front + begun_item longest (start one.which)
        by (inr off) =
            let lower = lower_behind_one config h app longest (run_stages config app events) brief busy.before first front (rest ++ busy.behind) (part front rest is) ahead in
            let item = ap {B = ℕ} (λ b. cond b 0 longest) off in
            omega (arith, lower, item)
        by (inl on) =
            let boots = boots_here on (cases_Bool (is_boot first.stamped.event)) in
            let none : count (is_other config h) front ≤ 0 =
            subst (λ a. IsAlone config h a (AreOfOne config h front) front) (no_admit first.stamped.event boots) ahead in
            let own = own_where_none config h front none in
            let nothing = idle_spend config app h (end_of first) first.next front (linked_front (end_of first) first.next front rest (subst (Linked (end_of first) first.next) is links))
            (each_append (Known config app) front rest (subst (AllByRecursion (Known config app)) is known.1)).0 (boot_idle config app h first known.0 boots) none in
            omega (arith, own, nothing)

    with_single : is_quiet config h first.found ≡ true → AreOfOne config h (first ∷ period) → OneStart
        → StartsInSome
    with_single quiet alone one = (
      one.which,
      one.there,
      (λ front rest is begins joining.
          let smaller : (f : Stage → ℕ) → others config h f (first ∷ front) ≤ others config h f (first ∷ period) =
          λ f.
          let whole = ap (λ zs. others config h f (first ∷ zs)) is in
          let parts = total-append (λ x. cond (is_other config h x) (f x) 0) front rest in
          omega (arith, whole, parts) in
          let behind : others config h charged front ≤ others config h charged period =
          let whole = ap (others config h charged) is in
          let parts = total-append (λ x. cond (is_other config h x) (charged x) 0) front rest in
          omega (arith, whole, parts) in
          within (start one.which) (fit one.which one.there) (λ boots. at_boot busy.before refl (one.has_boot boots)) front rest is begins
          (let a = one.front in
          let none = nothing_over_behind quiet front rest is in
          let ahead = one_front config h (first ∷ front) rest (subst (λ zs. AreOfOne config h (first ∷ zs)) is alone) in
          let lower = lower_of_start one front rest is ahead in
          omega (arith, a, behind, none, lower))
          (λ j over.
          let a = smaller (activated j) in let b = one.acts j over in let none = nothing_over quiet (activated j) front rest is in omega (arith, a, b, none))
          (λ j over.
          let a = smaller (was_set j) in let b = one.sets j over in let none = nothing_over quiet (was_set j) front rest is in omega (arith, a, b, none))),
      one.soon,
      λ boots. at_boot busy.before refl (one.has_boot boots),
    )

    starts_in : is_quiet config h first.found ≡ true → Comes config h (first ∷ period)
        → StartsInSome
    starts_in quiet (with_one alone) = by (is_admit first.stamped) refl alone
      where
        by : (a : Bool) → is_admit first.stamped ≡ a → IsAlone config h a (AreOfOne config h period) period
            → StartsInSome
        by false later few = with_single quiet alone (first_start few)
        by true admits further =
            of (tail config app h (end_of first) first.next period links known.1 busy.busy (has_started config app first.stamped.event first.found first.next known.0.step) further)
          where
            of : Tail config app h period → StartsInSome
            of (none_other few) = with_single quiet alone (first_start few)
            of (one_serves group y rest is all later other low few) = with_single quiet alone (served_start admits group y rest is all later other low few)
            of (all_raised b lower section) =
                with_sections quiet b lower
                (all_of_section config app h b (first ∷ period)
                ((λ is. absurd (true≢false (sym is ∙ admit_is_none config app h first admits))), section))
    starts_in quiet (with_section b lower section) = with_sections quiet b lower section

    -- what it brings is within a start
    record LeavingStart : Type 0 where
      which : ℕ
      there : which < starts
      no_boot_start : (start which).is_boot ≡ false
      front : rest_own config h period + longest ≤ (start which).inflow.front
      soon : EndsSoon h (start which).lead first (first ∷ period)
      acts : (j : ℕ) → is_over config h j ≡ true → rest_of h (activated j) (first ∷ period) ≤ (start which).inflow.acts j
      sets : (j : ℕ) → is_over config h j ≡ true → rest_of h (was_set j) (first ∷ period) ≤ (start which).inflow.sets j

    starts_leaving : once ≡ true → IsLeaving config h first period
        → StartsInSome
    starts_leaving on leaving = (
      found.which,
      found.there,
      (λ front rest is begins joining.
          let prefix : (f : Stage → ℕ) → rest_of h f (first ∷ front) ≤ rest_of h f (first ∷ period) =
          λ f. let le = longer false h f (first ∷ front) rest in let same = ap (λ zs. rest_of h f (first ∷ zs)) is in omega (arith, le, same) in
          let no_other : (f : Stage → ℕ) → others config h f (first ∷ front) ≤ 0 =
          λ f.
          let none = no_others config h f (first ∷ period) none_low in
          let whole = ap (λ zs. others config h f (first ∷ zs)) is in
          let parts = total-append (λ x. cond (is_other config h x) (f x) 0) front rest in
          omega (arith, none, whole, parts) in
          within (start found.which) (fit found.which found.there) (λ boots. absurd (true≢false (sym boots ∙ found.no_boot_start))) front rest is begins
          (let lower = lower_where_none config h app longest (run_stages config app events) brief (busy.before ++ first ∷ []) front (rest ++ busy.behind)
          (part front rest is ∙ sym (append_assoc busy.before (first ∷ []) (front ++ (rest ++ busy.behind))))
          (none_in_front config h front rest
          (let whole = ap (count (is_other config h)) is in let none = none_low in omega (arith, whole, none))) in
          let le = longer_own front rest in
          let same = ap (rest_own config h) is in
          let most = found.front in
          let few = at_most_itself once (rest_own config h front) in
          omega (arith, lower, le, same, most, few))
          (λ j over.
          let none = no_other (activated j) in
          let le = prefix (activated j) in
          let most = found.acts j over in
          let few = over_few (activated j) (first ∷ front) in
          omega (arith, none, le, most, few))
          (λ j over.
          let none = no_other (was_set j) in
          let le = prefix (was_set j) in
          let most = found.sets j over in
          let few = over_few (was_set j) (first ∷ front) in
          omega (arith, none, le, most, few))),
      found.soon,
      λ boots. absurd (true≢false (sym boots ∙ found.no_boot_start)),
    )
      where
        all_within : AllByRecursion (LeavesWithin config h longest late starts start) (first ∷ period)
        all_within = of_period (LeavesWithin config h longest late starts start) (have.leaves on)

        all_owned : AllByRecursion (IsOwn config h) (first ∷ period)
        all_owned = of_period (IsOwn config h) (own_what_is_charged config app n h arrivals events wf osek in_time)

        found : LeavingStart
        found = by leaving.leaves
          where
            -- with its first stage, or behind admissions that came while the service was running
            by : LeavesFirst h (first ∷ period) → LeavingStart
            by (inl is) =
                let own = (all_within.0 is).0 in
                record {
                  which = own.0;
                  there = own.1;
                  no_boot_start = own.2;
                  front =
                      let none = own_no_round config app h false (end_of first) first.next period links known.1
                      (left_inactive config app (facts config app wf) h first known.0 is) in
                      let most = own.3.front in
                      omega (arith, none, most);
                  soon = soon_late (start own.0).lead own.3.lead;
                  acts = λ j over. let a = step_left config app (facts config app wf) h (activated j) first period known.0 links known.1 is in let b = own.3.acts j over in omega (arith, a, b);
                  sets = λ j over. let a = step_left config app (facts config app wf) h (was_set j) first period known.0 links known.1 is in let b = own.3.sets j over in omega (arith, a, b);
                }
            by (inr (admits, leaves)) =
                let rest = has_leaving config app (facts config app wf) h longest late starts start (end_of first) first.next period links known.1 all_owned.1 all_within.1 leaves in
                let at = leaving_parts h period leaves in
                record {
                  which = rest.which;
                  there = rest.there;
                  no_boot_start = rest.no_boot_start;
                  front = rest.front;
                  soon =
                      subst (λ zs. EndsSoon h (start rest.which).lead first (first ∷ zs)) (sym at.are)
                      (soon_active config app n h arrivals events wf osek in_time busy.before first at.group at.left at.rest busy.behind
                      (busy.part ∙ ap (λ zs. busy.before ++ first ∷ (zs ++ busy.behind)) at.are) (admits, at.admits)
                      (left_no_admit h at.left.stamped.event at.leaves) (start rest.which).lead at.leaves leaving.active);
                  acts = λ j over. let a = step_admit config app (facts config app wf) h (activated j) first period admits in let b = rest.acts j over in omega (arith, a, b);
                  sets = λ j over. let a = step_admit config app (facts config app wf) h (was_set j) first period admits in let b = rest.sets j over in omega (arith, a, b);
                }

        none_low : count (is_other config h) (first ∷ period) ≤ 0
        none_low = none_lower config app (facts config app wf) h cuts (enters on) first period known.0 links known.1 busy.busy leaving.leaves

        over_few : (f : Stage → ℕ) (xs : List Stage) → left_over once h f xs ≤ rest_of h f xs
        over_few f xs = at_most_itself once (rest_of h f xs)

    starts_so : (is_quiet config h first.found ≡ true) ⊎ ((once ≡ true) × IsLeaving config h first period)
        → StartsInSome
    starts_so (inl quiet) = starts_in quiet (periods_start_so config app events h once wf osek first period busy)
    starts_so (inr (on, leaving)) = starts_leaving on leaving

  pub all_start : StartsInOne config h once starts start (run_stages config app events)
  all_start first period busy = starts_so first period busy busy.begins

pub respond_under_load : RespondsUnderLoad
respond_under_load config app load n late more heaviest longest arrivals events h r cuts costs once boot starts start enters wf osek in_time pace fits charges positive keeps shared brief bounds have fit =
    respond_in_time config app n late more arrivals events h r cuts costs once boot starts start enters wf osek in_time pace shared bounds
    (all_start config app load n late more heaviest longest arrivals events h r cuts costs once boot starts start enters wf osek in_time pace fits charges positive keeps brief have fit)
    (λ i lt. (fit i lt).joining) (λ i lt. (fit i lt).enough) (λ i lt. (fit i lt).lasts)
