-- Arrivals of a counter find it not due, where its ticks end within their distance.
use Rattle.std.proofs.Common.{◌≡◌, ℕ, ◌+◌, ◌<◌, ◌≤◌, ◌⊎◌, List, [], ◌∷◌, ◌++◌, true, false, sym, ap, ◌∙◌, subst, arith, inl, inr, append_assoc, is_some, Some}
use Rattle.std.specs.Prelude.{AllPairs, IsTrue}
use Rattle.std.specs.List.{AllByRecursion}
use Rattle.std.proofs.lemmas.Bool.{true≢false}
use Rattle.std.proofs.lemmas.List.Elements.{All-from_recursion}
use Rattle.sloth_base.specs.Options.{is_number}
use Rattle.sloth_base.specs.Events.{admitted_line}
use Rattle.sloth_base.specs.declared.config.Config.{Config}
use Rattle.sloth_base.specs.declared.app.App.{App}
use Rattle.sloth_base.specs.declared.service.Arrival.{Arrival}
use Rattle.sloth_base.specs.declared.service.Event.TheVariants as event
use Rattle.sloth_base.specs.declared.service.Stamped.{Stamped}
use Rattle.sloth_base.specs.Owners.{counter_line}
use Rattle.code_rules.specs.WellFormed.{WellFormed}
use Rattle.load_text.specs.declared.load_line.Entry.{Entry}
use Rattle.load_text.specs.Loads.{distance, KeepDistances}
use Rattle.osek_scheduler.specs.State.{System, counter, opening}
use Rattle.osek_scheduler.specs.InTime.{IsOrdered, InTime, is_admit}
use Rattle.osek_scheduler.specs.Runs.{AreStepsTo}
use Rattle.response_laws.specs.Arrivals.{HasDistances}
use Rattle.response_laws.specs.Response.{HasPace}
use Rattle.response_laws.specs.Ticking.{TicksBefore, TicksWithin, ArrivalsAreServed}
use Rattle.response_laws.specs.Turns.{ticking_counter}
use Rattle.response_laws.proofs.Admissions.{Others, first_other, follow_apart}
use Rattle.response_laws.proofs.Distant.{apart}
use Rattle.response_laws.proofs.DueCounters.{pairs_behind, is_tick, at_its_tick, at_its_arrival, DueSince, undue, arrived, due_since}
use Rattle.response_laws.proofs.Linked.{each_append, each_joined}
use Rattle.response_laws.proofs.Ordering.{ahead, ordered_front, admits_before, admits_behind}
use Rattle.response_laws.proofs.Passing.{Cut, at_one, in_front, behind_it, cut}

module _ (config : Config) (app : App) (load : List Entry) (n late more r c d : ℕ) (arrivals : List Arrival) (events : List Stamped) (wf : WellFormed config app)
    (in_time : InTime config n arrivals events) (pace : HasPace n late more events) (positive : HasDistances load) (keeps : KeepDistances load arrivals)
    (within : TicksWithin n more r events) (is_distance : distance load (counter_line c) ≡ Some d) (brief : late ≤ r) (short : r ≤ d) where
  admits : (e : Stamped) → e.event ≡ event.Due c → is_admit e ≡ true
  admits e is = ap (λ x. is_some (admitted_line x)) is

  -- two arrivals of the counter, and no tick of it between them
  module _ (before behind rest : List Stamped) (one other : Stamped) (is : events ≡ before ++ one ∷ (behind ++ other ∷ rest)) (due_one : one.event ≡ event.Due c)
      (due_other : other.event ≡ event.Due c) (none : AllByRecursion (λ e. is_tick c e ≡ false) behind) where
    pairs : AllPairs IsOrdered (one ∷ (behind ++ other ∷ rest))
    pairs = pairs_behind before (one ∷ (behind ++ other ∷ rest)) (subst (AllPairs IsOrdered) is in_time.placed)

    -- an event between them would span too much
    not_between : Others behind → other.stamp.at + d ≤ one.stamp.at → ⊥
    not_between o earlier =
        let after = (each_append (IsOrdered one) o.group (o.next ∷ o.rest)
        (subst (AllByRecursion (IsOrdered one)) o.are (each_append (IsOrdered one) behind (other ∷ rest) (ahead one (behind ++ other ∷ rest) pairs).0).0)).1.0 in
        let up_to = (each_append (λ e. IsOrdered e other) o.group (o.next ∷ o.rest)
        (subst (AllByRecursion (λ e. IsOrdered e other)) o.are (ordered_front behind other rest (ahead one (behind ++ other ∷ rest) pairs).1))).1.0 in
        let until = admits_before one o.next after o.other (admits one due_one) in
        let from = admits_behind o.next other up_to (admits other due_other) o.other in
        let at : events ≡ (before ++ one ∷ o.group) ++ o.next ∷ (o.rest ++ other ∷ rest) =
        is ∙ ap (λ es. before ++ one ∷ (es ++ other ∷ rest)) o.are ∙ ap (λ es. before ++ one ∷ es) (append_assoc o.group (o.next ∷ o.rest) (other ∷ rest))
        ∙ sym (append_assoc before (one ∷ o.group) (o.next ∷ (o.rest ++ other ∷ rest))) in
        let span = (each_append (λ e. e.stamp.at < e.stamp.from + late) (before ++ one ∷ o.group) (o.next ∷ (o.rest ++ other ∷ rest))
        (subst (AllByRecursion (λ e. e.stamp.at < e.stamp.from + late)) at pace.brief)).1.0 in
        let few = brief in
        let fits = short in
        omega (arith, earlier, until, from, span, few, fits)

    in_order : AllByRecursion (λ e. is_admit e ≡ true) behind → one.stamp.at + d ≤ other.stamp.at
    in_order all =
        follow_apart load (counter_line c) d is_distance one behind other arrivals (ap admitted_line due_one) (ap admitted_line due_other)
        (in_time.in_order before (one ∷ (behind ++ other ∷ [])) rest (is ∙ ap (λ es. before ++ one ∷ es) (sym (append_assoc behind (other ∷ []) rest)))
        (All-from_recursion (λ e. IsTrue (is_admit e)) (one ∷ (behind ++ other ∷ []))
        (admits one due_one, each_joined (λ e. is_admit e ≡ true) behind (other ∷ []) all (admits other due_other, tt)))) keeps

    later : one.stamp.at + d ≤ other.stamp.at
    later =
        by (apart config load n (counter_line c) d arrivals events in_time positive keeps is_distance before behind rest one other is (at_its_arrival c one due_one) (at_its_arrival c other due_other))
        (first_other behind)
      where
        by : (one.stamp.at + d ≤ other.stamp.at) ⊎ (other.stamp.at + d ≤ one.stamp.at) → Others behind ⊎ AllByRecursion (λ e. is_admit e ≡ true) behind
            → one.stamp.at + d ≤ other.stamp.at
        by (inl le) between = le
        by (inr earlier) (inl o) = absurd (not_between o earlier)
        by (inr earlier) (inr all) = in_order all

    -- the tick of the first ends before the second
    never : other.stamp.at + more ≤ n → ⊥
    never many = by (cut behind other rest ended.front ended.tick ended.rest ended.parts)
      where
        le : one.stamp.at + d ≤ other.stamp.at
        le = later

        ended : TicksBefore c (one.stamp.at + r) (behind ++ other ∷ rest)
        ended = within before (behind ++ other ∷ rest) one c is due_one (let far = le in let fits = short in omega (arith, far, fits, many))

        ticks : is_tick c ended.tick ≡ true
        ticks = at_its_tick c ended.tick ended.ticks

        by : Cut behind other rest ended.front ended.tick ended.rest → ⊥
        by (at_one same) = true≢false (sym ticks ∙ (ap (λ (e : Stamped). is_tick c e) (sym same) ∙ ap (λ x. is_number c (ticking_counter x)) due_other))
        by (behind_it mid front parts) =
            true≢false (sym ticks ∙ (each_append (λ e. is_tick c e ≡ false) ended.front (ended.tick ∷ mid) (subst (AllByRecursion (λ e. is_tick c e ≡ false)) front none)).1.0)
        by (in_front mid front parts) =
            let at : behind ++ other ∷ rest ≡ (behind ++ other ∷ mid) ++ ended.tick ∷ ended.rest =
            ended.parts ∙ ap (λ es. es ++ ended.tick ∷ ended.rest) front in
            let placed = ordered_front (behind ++ other ∷ mid) ended.tick ended.rest (subst (AllPairs IsOrdered) at (ahead one (behind ++ other ∷ rest) pairs).1) in
            let until = admits_before other ended.tick (each_append (λ e. IsOrdered e ended.tick) behind (other ∷ mid) placed).1.0
            (ap (λ x. is_some (admitted_line x)) ended.ticks) (admits other due_other) in
            let ends = ended.in_time in
            let far = le in
            let fits = short in
            omega (arith, until, ends, far, fits)

  find_undue : (before behind : List Stamped) (arrival : Stamped) (found : System) → events ≡ before ++ arrival ∷ behind → AreStepsTo config app before (opening config app) found
      → arrival.event ≡ event.Due c → arrival.stamp.at + more ≤ n → (counter found c).due ≡ false
  find_undue before behind arrival found is leads due many = by (due_since config app wf c before found leads)
    where
      by : DueSince config app wf c before found → (counter found c).due ≡ false
      by (undue off) = off
      by (arrived front one rest at due_one none) =
          absurd (never front rest behind one arrival (is ∙ ap (λ es. es ++ arrival ∷ behind) at ∙ append_assoc front (one ∷ rest) (arrival ∷ behind)) due_one due none many)

pub arrivals_are_served : ArrivalsAreServed
arrivals_are_served config app load n late more r c d arrivals events wf osek in_time pace positive keeps within is_distance brief short before behind arrival found is leads due many =
    find_undue config app load n late more r c d arrivals events wf in_time pace positive keeps within is_distance brief short before behind arrival found is leads due many
