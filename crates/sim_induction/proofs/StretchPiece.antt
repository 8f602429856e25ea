-- A stretch is a piece of the run.
use Rattle.std.proofs.Common.{◌≡◌, ℕ, zero, suc, ◌+◌, ◌<◌, ◌≤◌, List, [], ◌∷◌, ◌++◌, length, take, refl, sym, ap, ◌∙◌, subst, arith, Bool, true, false, cond, inr, filter, Some}
use Rattle.std.specs.Prelude.{map, not, Contains}
use Rattle.std.proofs.lemmas.Bool.{not_from_true, true≢false}
use Rattle.std.proofs.lemmas.List.{length-take}
use Rattle.sloth_base.specs.declared.service.Arrival.{Arrival}
use Rattle.sloth_base.specs.declared.service.Stamped.{Stamped}
use Rattle.sloth_base.specs.declared.numbers.Step.{Step}
use Rattle.sloth_base.specs.Machine.{State}
use Rattle.sloth_base.specs.Arrivals.{moments}
use Rattle.sloth_base.specs.Owners.{owners_in, IsOwned, AreOwned}
use Rattle.sloth_base.specs.Take.{line_to_take}
use Rattle.sloth_base.proofs.Stretches.{begins_later, within_longest}
use Rattle.rv32_machine.specs.Run.{state_after_from, state_with_arrivals}
use Rattle.rv32_instr.specs.Ram.{word_at}
use Rattle.masked_code.specs.Trace.{Trace, touched_lines, early_arrivals, late_arrivals}
use Rattle.observe.specs.Pieces.{Stretch, is_outside, begins}
use Rattle.observe.specs.Observe.{admission, stamp, is_early, last_of, stretch_event, piece_events}
use Rattle.osek_scheduler.specs.State.{System, task, opening}
use Rattle.osek_scheduler.specs.Runs.{AreStepsTo, AreStepsBehind}
use Rattle.osek_scheduler.specs.InTime.{is_admit, admits_at, arrivals_at, IsOrdered, StandsBefore, HasSpanFor, KeepsOrder}
use Rattle.sim_induction.specs.Short.{AreShort, IsShortAt, TouchesOnly}
use Rattle.sim_induction.specs.Admits.{Setting, IsSetting, lines_at, with_admits, admit_event, arrivals_before_event, arrivals_behind_event}
use Rattle.sim_induction.proofs.Lines.{spans_admit, admit_before, admit_behind, admits_ordered}
use Rattle.sim_induction.specs.Observed.{IsTraced}
use Rattle.osek_blocking.specs.Pace.{last_count}
use Rattle.sim_induction.specs.Pace.{AreAtMost, next_size_of, gap_counts}
use Rattle.sim_induction.specs.Weighed.{AreWeighedTo}
use Rattle.sim_induction.specs.Paced.{ArePacedTo, GoesInPace}
use Rattle.sim_induction.specs.Advances.{RunTo, EachPair, IsInCounts, found_events, IsWithinItem, IsNamedByWord, HasSpent, Spends, Advances}
use Rattle.std.specs.List.{AllByRecursion}
use Rattle.sim_induction.specs.PieceLaws.{Passed, StretchLaw, IsMeasure, seen_step_at}
use Rattle.sim_induction.specs.Spent.{is_running, spent_behind, AreSpentTo}
use Rattle.sim_induction.proofs.Follow.{leads-append, follows-append, booted_admits, follows_admits, leads_admits}
use Rattle.sim_induction.proofs.Events.{IsFrom, each-append, each_arrival, admit_pairs, pairs-append, before_within, behind_within}
use Rattle.sim_induction.proofs.Runs.{one_after}
use Rattle.sim_induction.proofs.Schedule.{from_zero, owned_at, admits_are, moments-split}
use Rattle.sim_induction.proofs.Counts.{admits-append, arrivals-append, admits_of, other_counts, arrivals_parted}
use Rattle.sim_induction.proofs.Order.{orders-append, admits_order, parted_order}
use Rattle.sim_induction.proofs.Shown.{stretch_long}
use Rattle.sim_induction.proofs.Traces.{lines_before, lines_behind, is_traced, lines_trace, steps_touch, each_step-take}
use Rattle.std.proofs.lemmas.List.Elements.{All-from_recursion}
use Rattle.sim_induction.proofs.MaskedRun.{MaskedRun, masked_steps, masked_inside, trace_long, going_moment, Flags, flag_first, ShowsState}
use Rattle.sim_induction.proofs.Cut.{cut_whole, cut_short}
use Rattle.sim_induction.proofs.Weighing.{weighed-append, weighed_admits}
use Rattle.sim_induction.proofs.Pacing.{gap_enough, named_no_boot, last_admits, last_between, paced-append, paced_admits}
use Rattle.sim_induction.proofs.Passing.{ran_before, rested_before}
use Rattle.sim_induction.proofs.Running.{runs_greatest}
use Rattle.sim_induction.proofs.Spending.{spent_admits, spent_between, stretch_spends, stretch_within}

-- ---- the events of a stretch with this event

abbrev pub masked_events : ℕ → Trace → Stamped → List Stamped
masked_events k t e = map admit_event (arrivals_before_event k t) ++ (e ∷ map admit_event (arrivals_behind_event k t))

pub within_admits : (from to : ℕ) (a : Arrival) → IsFrom from to a → IsInCounts from to (admit_event a)
within_admits from to a h = record { begins = h.0; ordered = omega arith; ends = h.1; spans = spans_admit a }

-- an event of the counts from k to below k + 1 + j, with the arrivals of the counts behind k
module _ (k j : ℕ) (t : Trace) (e : Stamped) (long : length t ≡ j) (from_is : e.stamp.from ≡ k) (at_is : e.stamp.at ≡ k + j) (other : is_admit e ≡ false) where
  pub masked_placed : EachPair IsOrdered (masked_events (k + 1) t e)
  masked_placed =
      pairs-append IsOrdered (map admit_event (arrivals_before_event (k + 1) t)) (e ∷ map admit_event (arrivals_behind_event (k + 1) t))
      (admit_pairs (arrivals_before_event (k + 1) t))
      (each_arrival (IsOrdered e) (IsFrom (k + 1) (k + 1 + j)) (λ a h. after_it a h) (arrivals_behind_event (k + 1) t) (behind_within (k + 1) (k + 1 + j) (k + 1) t (omega arith) (omega arith)), admit_pairs (arrivals_behind_event (k + 1) t))
      (each_arrival (λ x. AllByRecursion (IsOrdered x) (e ∷ map admit_event (arrivals_behind_event (k + 1) t))) (IsFrom (k + 1) (k + 1 + j)) (λ a h. (before_it a h, all a (arrivals_behind_event (k + 1) t))) (arrivals_before_event (k + 1) t) (before_within (k + 1) (k + 1 + j) (k + 1) t (omega arith) (omega arith)))
    where
      before_it : (a : Arrival) → IsFrom (k + 1) (k + 1 + j) a → IsOrdered (admit_event a) e
      before_it a h = admit_before a e (subst (λ b. StandsBefore true b (admit_event a).stamp e.stamp) (sym other) (let l : a.at ≤ e.stamp.at = omega arith in l))

      after_it : (a : Arrival) → IsFrom (k + 1) (k + 1 + j) a → IsOrdered e (admit_event a)
      after_it a h = admit_behind a e (subst (λ b. StandsBefore b true e.stamp (admit_event a).stamp) (sym other) (let l : e.stamp.from < a.at = omega arith in l))

      all : (a : Arrival) (ys : List Arrival) → AllByRecursion (IsOrdered (admit_event a)) (map admit_event ys)
      all a [] = tt
      all a (y ∷ ys) = (admits_ordered a y, all a ys)

  pub masked_later : AllByRecursion (λ x. is_admit x ≡ true → k < x.stamp.at) (masked_events (k + 1) t e)
  masked_later =
      each-append (λ x. is_admit x ≡ true → k < x.stamp.at) (map admit_event (arrivals_before_event (k + 1) t)) (e ∷ map admit_event (arrivals_behind_event (k + 1) t))
      (each_arrival (λ x. is_admit x ≡ true → k < x.stamp.at) (IsFrom (k + 1) (k + 1 + j)) (λ a h z. omega arith) (arrivals_before_event (k + 1) t) (before_within (k + 1) (k + 1 + j) (k + 1) t (omega arith) (omega arith)))
      ((λ z. let q = other in absurd (true≢false (sym z ∙ q))), each_arrival (λ x. is_admit x ≡ true → k < x.stamp.at) (IsFrom (k + 1) (k + 1 + j)) (λ a h z. omega arith) (arrivals_behind_event (k + 1) t) (behind_within (k + 1) (k + 1 + j) (k + 1) t (omega arith) (omega arith)))

  pub masked_stamps : IsInCounts k (k + suc j) e → AllByRecursion (IsInCounts k (k + suc j)) (masked_events (k + 1) t e)
  masked_stamps w =
      each-append (IsInCounts k (k + suc j)) (map admit_event (arrivals_before_event (k + 1) t)) (e ∷ map admit_event (arrivals_behind_event (k + 1) t))
      (each_arrival (IsInCounts k (k + suc j)) (IsFrom k (k + suc j)) (within_admits k (k + suc j)) (arrivals_before_event (k + 1) t) (before_within k (k + suc j) (k + 1) t (omega arith) (omega arith)))
      (w, each_arrival (IsInCounts k (k + suc j)) (IsFrom k (k + suc j)) (within_admits k (k + suc j)) (arrivals_behind_event (k + 1) t) (behind_within k (k + suc j) (k + 1) t (omega arith) (omega arith)))

-- the admits of a stretch whose inner arrivals are parted by a test
pub stretch_arrivals : (i t : ℕ) (e : Stamped) (found inside before behind : List Arrival) (p : Arrival → Bool) → is_admit e ≡ false → filter p inside ≡ before → filter (λ a. not (p a)) inside ≡ behind
    → admits_at i t (map admit_event found ++ (map admit_event before ++ (e ∷ map admit_event behind))) ≡ arrivals_at i t (found ++ inside)
stretch_arrivals i t e found inside before behind p other b c =
    let a1 = admits-append i t (map admit_event found) (map admit_event before ++ (e ∷ map admit_event behind)) in
    let a2 = admits-append i t (map admit_event before) (e ∷ map admit_event behind) in
    let a3 = other_counts i t e (map admit_event behind) other in
    let n1 = admits_of i t found in
    let n2 = admits_of i t before in
    let n3 = admits_of i t behind in
    let r = arrivals-append i t found inside in
    let q : arrivals_at i t before + arrivals_at i t (filter (λ a. not (p a)) inside) ≡ arrivals_at i t inside =
    ap (λ u. arrivals_at i t u + arrivals_at i t (filter (λ a. not (p a)) inside)) (sym b) ∙ arrivals_parted i t p inside in
    let q2 : arrivals_at i t before + arrivals_at i t behind ≡ arrivals_at i t inside = ap {A = List Arrival} {B = ℕ} (λ u. arrivals_at i t before + arrivals_at i t u) (sym c) ∙ q in
    omega arith

-- ---- the piece

module _ (given : Setting) (setting : IsSetting given) (R : Passed → State → System → Type 0) (progress : State → System → ℕ) (passed behind : Passed) (k : ℕ) (late_k : 0 < k)
    (m : State) (s : System) (x1 : State) (t : Trace) (x : State) (law : StretchLaw given (R behind) progress passed behind k m s x1 t x) (s_booted : s.booted ≡ true) (after_booted : law.after.booted ≡ true)
    (measure : IsMeasure given progress m s) where
  abbrev A : List Arrival
  A = given.arrivals

  abbrev first : Step
  first = seen_step_at given k m x1

  r : MaskedRun A law.more (k + 1) x1 t x
  r = masked_steps A law.more (k + 1) x1 t x law.steps law.ends

  outside : is_outside [] first ≡ false
  outside = not_from_true (begins first) law.starts

  flags : Flags (first ∷ r.steps)
  flags = flag_first x1 first r.steps refl (λ e. ap (λ (y : State). y.core.mie) (sym (r.nil e)) ∙ law.ends) r.some r.flags

  last_is : ShowsState x (last_of first r.steps) × ((last_of first r.steps).count + 1 ≡ k + 1 + law.more)
  last_is = r.last first refl (refl, refl)

  abbrev event : Stamped
  event = stamp k (k + law.more) law.what

  event_is : stamp k (last_of first r.steps).count (stretch_event given.view first (last_of first r.steps)) ≡ event
  event_is =
      let w = law.what_is (last_of first r.steps) last_is.0.0 last_is.0.1 in
      let n = last_is.1 in
      let a : (last_of first r.steps).count ≡ k + law.more = omega arith in
      ap (λ v. stamp k v (stretch_event given.view first (last_of first r.steps))) a ∙ ap (λ v. stamp k (k + law.more) v) w

  other : is_admit event ≡ false
  other =
      let w = law.what_is (last_of first r.steps) last_is.0.0 last_is.0.1 in
      subst (λ v. is_admit (stamp k (k + law.more) v) ≡ false) w (stretch_long given.view first (last_of first r.steps)).0

  within : IsInCounts k (k + suc law.more) event
  within =
      let w = law.what_is (last_of first r.steps) last_is.0.0 last_is.0.1 in
      record { begins = omega arith; ordered = omega arith; ends = omega arith; spans = subst (λ v. HasSpanFor v event) w ((stretch_long given.view first (last_of first r.steps)).1 event) }

  abbrev others : List Stamped
  others = masked_events (k + 1) t event

  traced : IsTraced A (k + 1) (first ∷ []) r.steps
  traced = is_traced A (from_zero A setting.ordered) (k + 1) (first ∷ []) r.steps (omega arith, tt) r.from

  abbrev early_inside : Arrival → Bool
  early_inside = is_early (first ∷ r.steps)

  inside_before : filter early_inside (moments (k + 1) (k + 1 + length r.steps) A) ≡ arrivals_before_event (k + 1) t
  inside_before = traced.before ∙ ap (arrivals_before_event (k + 1)) r.trace

  inside_behind : filter (λ a. not (early_inside a)) (moments (k + 1) (k + 1 + length r.steps) A) ≡ arrivals_behind_event (k + 1) t
  inside_behind = traced.behind ∙ ap (arrivals_behind_event (k + 1)) r.trace

  in_range : AreOwned (owners_in given.config) (early_arrivals t) × AreOwned (owners_in given.config) (late_arrivals t)
  in_range = lines_trace (IsOwned (owners_in given.config)) law.more (k + 1) (lines_at A) x1 t x (owned_at given setting) law.steps

  lines_in : (a : List Arrival) → AreOwned (owners_in given.config) (map (λ y. y.line) a) → map (admission given.view) a ≡ map admit_event a
  lines_in = admits_are given setting

  owned_before : AreOwned (owners_in given.config) (map (λ a. a.line) (arrivals_before_event (k + 1) t))
  owned_before = subst (AreOwned (owners_in given.config)) (sym (lines_before (k + 1) t)) in_range.0

  owned_behind : AreOwned (owners_in given.config) (map (λ a. a.line) (arrivals_behind_event (k + 1) t))
  owned_behind = subst (AreOwned (owners_in given.config)) (sym (lines_behind (k + 1) t)) in_range.1

  -- as the observer lists them
  abbrev listed : List Arrival → List Arrival → List Arrival → Stamped → List Stamped
  listed found before behind e = map (admission given.view) found ++ (map (admission given.view) before ++ (e ∷ map (admission given.view) behind))

  events_are : piece_events given.view A (Stretch (first ∷ r.steps)) ≡ found_events given k ++ others
  events_are =
      let n = last_is.1 in
      let n2 = r.long in
      let last : (last_of first r.steps).count + 1 ≡ k + 1 + length r.steps = omega arith in
      let e = stamp k (last_of first r.steps).count (stretch_event given.view first (last_of first r.steps)) in
      let found = moments k (k + 1) A in
      let p = early_inside in
      ap (λ b. listed (moments k (cond b (k + 1) k) A) (filter p (moments (cond b (k + 1) k) ((last_of first r.steps).count + 1) A)) (filter (λ a. not (p a)) (moments (cond b (k + 1) k) ((last_of first r.steps).count + 1) A)) e) law.finds
      ∙ ap (λ v. listed found (filter p (moments (k + 1) v A)) (filter (λ a. not (p a)) (moments (k + 1) v A)) e) last
      ∙ ap (λ v. listed found v (filter (λ a. not (p a)) (moments (k + 1) (k + 1 + length r.steps) A)) e) inside_before
      ∙ ap (λ v. listed found (arrivals_before_event (k + 1) t) v e) inside_behind
      ∙ ap (λ v. listed found (arrivals_before_event (k + 1) t) (arrivals_behind_event (k + 1) t) v) event_is
      ∙ ap (λ v. v ++ (map (admission given.view) (arrivals_before_event (k + 1) t) ++ (event ∷ map (admission given.view) (arrivals_behind_event (k + 1) t)))) (lines_in found (owned_at given setting k))
      ∙ ap (λ v. found_events given k ++ (v ++ (event ∷ map (admission given.view) (arrivals_behind_event (k + 1) t)))) (lines_in (arrivals_before_event (k + 1) t) owned_before)
      ∙ ap (λ v. found_events given k ++ (map admit_event (arrivals_before_event (k + 1) t) ++ (event ∷ v))) (lines_in (arrivals_behind_event (k + 1) t) owned_behind)

  abbrev s1 : System
  s1 = with_admits (lines_at A k) s

  s1_booted : s1.booted ≡ true
  s1_booted = booted_admits (lines_at A k) s ∙ s_booted

  lead_others : AreStepsTo given.config given.app others s1 (with_admits (late_arrivals t) law.after)
  lead_others =
      leads-append given.config given.app (map admit_event (arrivals_before_event (k + 1) t)) (event ∷ map admit_event (arrivals_behind_event (k + 1) t)) s1 (with_admits (early_arrivals t) s1) (with_admits (late_arrivals t) law.after)
      (subst (λ a. AreStepsTo given.config given.app (map admit_event (arrivals_before_event (k + 1) t)) s1 (with_admits a s1)) (lines_before (k + 1) t) (leads_admits given.config given.app (arrivals_before_event (k + 1) t) s1 setting.few_tasks s1_booted owned_before)) (
        law.after,
        law.step_is,
        subst (λ a. AreStepsTo given.config given.app (map admit_event (arrivals_behind_event (k + 1) t)) law.after (with_admits a law.after)) (lines_behind (k + 1) t) (leads_admits given.config given.app (arrivals_behind_event (k + 1) t) law.after setting.few_tasks after_booted owned_behind),
      )

  weighed_others : AreWeighedTo given.config given.app others s1 (with_admits (late_arrivals t) law.after)
  weighed_others =
      weighed-append given.config given.app (map admit_event (arrivals_before_event (k + 1) t)) (event ∷ map admit_event (arrivals_behind_event (k + 1) t)) s1 (with_admits (early_arrivals t) s1) (with_admits (late_arrivals t) law.after)
      (subst (λ a. AreWeighedTo given.config given.app (map admit_event (arrivals_before_event (k + 1) t)) s1 (with_admits a s1)) (lines_before (k + 1) t) (weighed_admits given.config given.app (arrivals_before_event (k + 1) t) s1 setting.few_tasks s1_booted owned_before)) (
        law.after,
        (let w = law.within in omega (arith, w)),
        law.step_is,
        subst (λ a. AreWeighedTo given.config given.app (map admit_event (arrivals_behind_event (k + 1) t)) law.after (with_admits a law.after)) (lines_behind (k + 1) t) (weighed_admits given.config given.app (arrivals_behind_event (k + 1) t) law.after setting.few_tasks after_booted owned_behind),
      )

  goes : (longest at : ℕ) → AreAtMost given.size longest → k ≤ at + 1 + progress m s → IsWithinItem given progress m s
      → GoesInPace given.config given.app given.size longest at (with_admits (early_arrivals t) s1) event
  goes longest at most near item =
      let gap = gap_enough given progress m s measure longest most (lines_at A k) (early_arrivals t) law.what law.named in
      let span = law.within in
      record {
        begins = λ other later. omega (arith, near, gap);
        preempts = λ takes u runs.
            let before = ran_before given.config (early_arrivals t) u s1 runs in
            let first = ran_before given.config (lines_at A k) u s before.0 in
            let few = item.of_task u first.0 in
            let same : next_size_of given.size (task (with_admits (early_arrivals t) s1) u) ≡ next_size_of given.size (task s u) =
            ap (next_size_of given.size) (before.1 ∙ first.1) in
            omega (arith, near, few, same);
        idles = λ takes rests.
            let none = item.idle (rested_before given.config (lines_at A k) s (rested_before given.config (early_arrivals t) s1 rests)) in
            omega (arith, near, none);
        ends = λ other later. omega (arith, near, gap, span);
      }

  paced_others : (longest at : ℕ) → AreAtMost given.size longest → k ≤ at + 1 + progress m s → IsWithinItem given progress m s
      → ArePacedTo given.config given.app given.size longest at others s1 (with_admits (late_arrivals t) law.after)
  paced_others longest at most near item =
      paced-append given.config given.app given.size longest (map admit_event (arrivals_before_event (k + 1) t)) (event ∷ map admit_event (arrivals_behind_event (k + 1) t)) at at s1
      (with_admits (early_arrivals t) s1) (with_admits (late_arrivals t) law.after) (last_admits at (arrivals_before_event (k + 1) t))
      (subst (λ a. ArePacedTo given.config given.app given.size longest at (map admit_event (arrivals_before_event (k + 1) t)) s1 (with_admits a s1)) (lines_before (k + 1) t)
      (paced_admits given.config given.app given.size longest at (arrivals_before_event (k + 1) t) s1 setting.few_tasks s1_booted owned_before)) (
        law.after,
        goes longest at most near item,
        law.step_is,
        subst (λ a. ArePacedTo given.config given.app given.size longest (cond (is_admit event) at event.stamp.at) (map admit_event (arrivals_behind_event (k + 1) t)) law.after (with_admits a law.after))
            (lines_behind (k + 1) t)
            (paced_admits given.config given.app given.size longest (cond (is_admit event) at event.stamp.at) (arrivals_behind_event (k + 1) t) law.after setting.few_tasks after_booted owned_behind),
      )

  -- a task that runs at the event ran before, and the word names it
  names : IsNamedByWord given m s → (u : ℕ) → u < length given.config.tasks → is_running given.config (with_admits (early_arrivals t) s1) u ≡ true → word_at m.core.ram 0 ≡ u + 1
  names named u declared is =
      let runs = runs_greatest given.config (with_admits (early_arrivals t) s1) u declared is in
      named u (ran_before given.config (lines_at A k) u s (ran_before given.config (early_arrivals t) u s1 runs).0).0

  spends_others : (u at spent : ℕ) → u < length given.config.tasks → IsNamedByWord given m s → HasSpent (word_at m.core.ram 0) (progress m s) passed k at u spent
      → Spends given u at spent others s1 (with_admits (late_arrivals t) law.after) (word_at x.core.ram 0) (progress x (with_admits (late_arrivals t) law.after)) behind (k + suc law.more)
  spends_others u at spent declared named h =
      let found = with_admits (early_arrivals t) s1 in
      let end = with_admits (late_arrivals t) law.after in
      let left = spent_behind given.config u at spent found event in
      let to_task = names named u declared in
      let after = progress x (with_admits (late_arrivals t) law.after) in
      record {
        to = k + law.more;
        left = left;
        leads = λ longest.
            spent_between given.config given.app given.size longest u at spent (arrivals_before_event (k + 1) t) (arrivals_behind_event (k + 1) t) event s1 found law.after end other
            (subst (λ a. AreSpentTo given.config given.app given.size longest u at spent (map admit_event (arrivals_before_event (k + 1) t)) s1 (with_admits a s1) at spent)
            (lines_before (k + 1) t)
            (spent_admits given.config given.app given.size longest u at spent (arrivals_before_event (k + 1) t) s1 setting.few_tasks s1_booted owned_before))
            (stretch_within given k law.more at u spent (word_at m.core.ram 0) (word_at x.core.ram 0) (progress m s) after passed behind found h to_task
            (λ v is. measure.turn v is (lines_at A k) (early_arrivals t)) longest law.what law.named law.within)
            law.step_is
            (subst (λ a. AreSpentTo given.config given.app given.size longest u (k + law.more) left (map admit_event (arrivals_behind_event (k + 1) t)) law.after (with_admits a law.after)
            (k + law.more) left) (lines_behind (k + 1) t)
            (spent_admits given.config given.app given.size longest u (k + law.more) left (arrivals_behind_event (k + 1) t) law.after setting.few_tasks after_booted owned_behind));
        holds = stretch_spends given k law.more at u spent (word_at m.core.ram 0) (word_at x.core.ram 0) (progress m s) after passed behind found h to_task law.what law.named law.goes_on;
      }

  reaches : (at to : ℕ) → k + suc (length r.steps) ≤ last_count at others + 1 + to
  reaches at to =
      let last : last_count at others ≡ k + law.more = last_between at (arrivals_before_event (k + 1) t) (arrivals_behind_event (k + 1) t) event other in
      let n = r.long in
      omega (arith, last, n)

  follow_others : (past : List Stamped) → AreStepsTo given.config given.app past (opening given.config given.app) s1 → AreStepsBehind given.config given.app past s1 others (with_admits (late_arrivals t) law.after)
  follow_others past h =
      follows-append given.config given.app past s1 (with_admits (early_arrivals t) s1) (with_admits (late_arrivals t) law.after) (map admit_event (arrivals_before_event (k + 1) t)) (event ∷ map admit_event (arrivals_behind_event (k + 1) t))
      (subst (λ a. AreStepsBehind given.config given.app past s1 (map admit_event (arrivals_before_event (k + 1) t)) (with_admits a s1)) (lines_before (k + 1) t) (follows_admits given.config given.app past (arrivals_before_event (k + 1) t) s1 setting.few_tasks s1_booted owned_before)) (
        law.after,
        law.step_is,
        law.passes past h,
        subst (λ a. AreStepsBehind given.config given.app ((past ++ map admit_event (arrivals_before_event (k + 1) t)) ++ event ∷ []) law.after (map admit_event (arrivals_behind_event (k + 1) t)) (with_admits a law.after)) (lines_behind (k + 1) t)
            (follows_admits given.config given.app ((past ++ map admit_event (arrivals_before_event (k + 1) t)) ++ event ∷ []) (arrivals_behind_event (k + 1) t) law.after setting.few_tasks after_booted owned_behind),
      )

  touching : AllByRecursion (TouchesOnly law.lines) r.steps
  touching = steps_touch A law.lines r.steps (subst (λ u. AllByRecursion (Contains law.lines) (touched_lines u)) (sym r.trace) law.touches)

  short_at : (steps : List Step) → length steps ≤ length r.steps → AllByRecursion (TouchesOnly law.lines) steps → AreShort given.config (first ∷ steps)
  short_at steps l h =
      let few = law.few in
      let n = r.long in
      subst (λ beginning. IsShortAt given.config beginning (first ∷ steps)) (sym (begins_later first late_k))
      (omega arith, (law.lines, law.few_lines, All-from_recursion (TouchesOnly law.lines) (first ∷ steps) (law.touches_first, h)))

  counts : (i u : ℕ) → admits_at i u (found_events given k ++ others) ≡ arrivals_at i u (moments k (k + suc (length r.steps)) A)
  counts i u =
      let n : k + suc (length r.steps) ≡ k + 1 + length r.steps = omega arith in
      stretch_arrivals i u event (moments k (k + 1) A) (moments (k + 1) (k + 1 + length r.steps) A) (arrivals_before_event (k + 1) t) (arrivals_behind_event (k + 1) t) early_inside other inside_before inside_behind
      ∙ ap (arrivals_at i u) (sym (moments-split 0 k (k + 1) (k + 1 + length r.steps) A (from_zero A setting.ordered) (omega arith) (omega arith)))
      ∙ ap (λ v. arrivals_at i u (moments k v A)) (sym n)

  keeps : KeepsOrder (moments k (k + suc (length r.steps)) A) (found_events given k ++ others)
  keeps =
      let n : k + suc (length r.steps) ≡ k + 1 + length r.steps = omega arith in
      let inside = moments (k + 1) (k + 1 + length r.steps) A in
      subst (λ v. KeepsOrder (moments k v A) (found_events given k ++ others)) (sym n)
      (subst (λ v. KeepsOrder v (found_events given k ++ others)) (sym (moments-split 0 k (k + 1) (k + 1 + length r.steps) A (from_zero A setting.ordered) (omega arith) (omega arith)))
      (orders-append (moments k (k + 1) A) inside (found_events given k) others (admits_order (moments k (k + 1) A))
      (subst (λ v. KeepsOrder inside (map admit_event v ++ (event ∷ map admit_event (arrivals_behind_event (k + 1) t)))) inside_before
      (subst (λ v. KeepsOrder inside (map admit_event (filter early_inside inside) ++ (event ∷ map admit_event v))) inside_behind
      (parted_order early_inside (λ a. not (early_inside a)) inside event other)))))

  closed_at : (i : ℕ) → 0 < i → i < suc (length r.steps) → (y : State) → state_after_from i A k m ≡ Some y → y.core.mie ≡ false
  closed_at zero p l y e = absurd (omega arith)
  closed_at (suc i) p l y e =
      let n = r.long in
      masked_inside A law.more (k + 1) x1 t x law.steps i (omega arith) y (sym (one_after i k A m x1 first (going_moment A k m x1 law.goes)) ∙ e)

  pub stretch_advances : Advances given R progress passed k m s
  stretch_advances =
      let cut = cut_whole r.steps [] first outside flags in
      let long = trace_long law.more (k + 1) (lines_at A) x1 t x law.steps in
      let few = law.few in
      let most = within_longest given.config (line_to_take (state_with_arrivals A k m)) in
      let n = r.long in
      let one : k + 1 ≡ suc k = omega arith in
      record {
        first = first;
        rest = r.steps;
        next = x;
        runs = (first, x1, going_moment A k m x1 law.goes, (r.steps, refl, subst (λ i. RunTo A i (k + 1) x1 r.steps x) (sym r.long) r.runs));
        piece = Stretch (first ∷ r.steps);
        pieces_are = cut.0;
        cut_is = cut.1;
        unfinished = λ i l. cut_short r.steps [] first i outside flags l;
        finds = (refl, inr law.finds);
        closed = closed_at;
        others = others;
        events = events_are;
        stamps = subst (λ j. AllByRecursion (IsInCounts k (k + suc j)) others) (sym n) (masked_stamps k law.more t event long refl refl other within);
        later = masked_later k law.more t event long refl refl other;
        placed = masked_placed k law.more t event long refl refl other;
        counted = counts;
        keeps = keeps;
        few = omega arith;
        brief = λ heaviest stretches.
            let span = law.within in
            let le = stretches.each law.what (with_admits (early_arrivals t) s1) law.after law.step_is
            (named_no_boot (word_at m.core.ram 0) law.what law.named) in
            omega (arith, n, span, le);
        short = short_at r.steps (omega arith) touching;
        short_front = λ i l. short_at (take i r.steps) (let z = length-take i r.steps in omega arith) (each_step-take (TouchesOnly law.lines) i r.steps touching);
        after = with_admits (late_arrivals t) law.after;
        leads = lead_others;
        weighed = weighed_others;
        behind = behind;
        spends = λ u at spent declared named h.
            subst (λ j. Spends given u at spent others s1 (with_admits (late_arrivals t) law.after) (word_at x.core.ram 0) (progress x (with_admits (late_arrivals t) law.after)) behind (k + suc j))
            (sym n) (spends_others u at spent declared named h);
        follows = follow_others;
        paced = λ longest at most near item. (paced_others longest at most near item, reaches at (progress x (with_admits (late_arrivals t) law.after)));
        progresses = λ before l. omega arith;
        related = law.related;
      }
