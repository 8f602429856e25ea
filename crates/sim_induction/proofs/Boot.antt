-- Every run from the start is sound.
use Rattle.std.proofs.Common.{◌≡◌, ℕ, zero, suc, ◌+◌, ◌-◌, ◌<◌, ◌≤◌, List, [], ◌∷◌, ◌++◌, length, take, refl, sym, ap, ◌∙◌, subst, arith, append_assoc, Bool, true, false, cond, Option, Some, ⊎_elim, filter}
use Rattle.std.specs.Prelude.{map, not, Contains}
use Rattle.std.specs.List.{flat_map, AllByRecursion}
use Rattle.std.proofs.lemmas.Bool.{cases_lt, true≢false, false≢true}
use Rattle.std.proofs.lemmas.List.{length-take}
use Rattle.std.proofs.lemmas.List.Elements.{filter-append, All-from_recursion}
use Rattle.sloth_base.specs.declared.service.Arrival.{Arrival}
use Rattle.sloth_base.specs.declared.service.Event.TheVariants as event
use Rattle.sloth_base.specs.declared.service.Stamped.{Stamped}
use Rattle.sloth_base.specs.declared.numbers.Step.{Step}
use Rattle.sloth_base.specs.Machine.{State}
use Rattle.sloth_base.specs.Arrivals.{moments}
use Rattle.sloth_base.specs.Arrive.{state_arrive}
use Rattle.rv32_instr.specs.Execute.{touched}
use Rattle.rv32_machine.specs.Advance.{Goes}
use Rattle.rv32_machine.specs.Run.{state_after_from, moment, run_from, state_with_arrivals}
use Rattle.masked_code.specs.Trace.{Trace, touched_lines, early_arrivals, late_arrivals}
use Rattle.sloth_base.specs.Owners.{owners_in, IsOwned, AreOwned}
use Rattle.sloth_base.specs.Stretches.{Boots, stretch_limit}
use Rattle.observe.specs.Pieces.{Stretch, pieces, cut_off_steps}
use Rattle.observe.specs.Observe.{observe, piece_events, found_admits, admission, stamp, is_early, last_of}
use Rattle.observe.proofs.Cutting.{pieces-append, cut_off-append}
use Rattle.observe.proofs.Moments.{moments-none, moments-later}
use Rattle.osek_scheduler.specs.State.{System, opening}
use Rattle.osek_scheduler.specs.Runs.{AreStepsTo, AreStepsBehind}
use Rattle.osek_scheduler.specs.InTime.{is_admit, admits_at, arrivals_at, IsOrdered, KeepsOrder, longest_cut_off_stretch}
use Rattle.sim_induction.specs.Short.{AreShort, IsShortPiece, TouchesOnly, HasShortGaps}
use Rattle.sim_induction.specs.Sound.{stands_before}
use Rattle.sim_induction.specs.Admits.{Setting, IsSetting, lines_at, with_admits, admit_event, arrivals_before_event, arrivals_behind_event}
use Rattle.sim_induction.proofs.Lines.{spans_admit, admit_behind}
use Rattle.sim_induction.specs.Observed.{trace_of, IsTraced}
use Rattle.osek_blocking.specs.Pace.{last_count}
use Rattle.sim_induction.specs.Weighed.{AreWeighedTo}
use Rattle.sim_induction.specs.Paced.{ArePacedTo}
use Rattle.sim_induction.specs.Advances.{RunTo, EachPair, IsInCounts}
use Rattle.sim_induction.specs.PieceLaws.{Passed, BootLaw, seen_step_at}
use Rattle.sim_induction.specs.Spent.{spent_behind, AreSpentTo}
use Rattle.sim_induction.specs.Related.{IsSimulation}
use Rattle.sim_induction.proofs.Follow.{leads-append, follows-append, follows_leads, follows_admits, booted_admits}
use Rattle.sim_induction.proofs.Events.{IsFrom, filter_all, each_map, each-append, each_arrival, admit_pairs, behind_within, before}
use Rattle.sim_induction.proofs.Schedule.{from_zero, moments-split, owned_at, admits_are}
use Rattle.sim_induction.proofs.Counts.{admits-append, arrivals-append}
use Rattle.sim_induction.proofs.Order.{orders-append, parted_order, admits_order}
use Rattle.sim_induction.proofs.Runs.{steps_from, run_steps, run_take, after_steps, goes_through}
use Rattle.sim_induction.proofs.RunFrom.{events_from, ReachedAt, HasSpentTo, nothing_spent, SoundFrom}
use Rattle.sim_induction.proofs.Spending.{no_more_left, spent-append, spent_admits}
use Rattle.sim_induction.proofs.Traces.{lines_behind, is_traced, lines_trace, steps_touch, each_step-take}
use Rattle.sim_induction.proofs.MaskedRun.{MaskedRun, masked_steps, masked_inside, masked_moment, none_taken, trace_long, Flags, flag_first}
use Rattle.sim_induction.proofs.Cut.{cut_whole, cut_short}
use Rattle.sim_induction.proofs.Untouched.{nil_cons, nothing_before}
use Rattle.sim_induction.proofs.Induct.{sound_from, within_wider, pairs_apart}
use Rattle.sim_induction.proofs.StretchPiece.{stretch_arrivals}
use Rattle.sim_induction.proofs.Weighing.{weighed-append, weighed_admits}
use Rattle.sim_induction.proofs.Pacing.{last-append, last_admits, paced-append, paced_admits}
use Rattle.sim_induction.proofs.WholeRun.{WholeRun}

-- ---- the first stretch

module _ (given : Setting) (setting : IsSetting given) (R : Passed → State → System → Type 0) (progress : State → System → ℕ) (simulation : IsSimulation given R progress) (passed : Passed) (m : State)
    (law : BootLaw given (R passed) m) where
  abbrev A : List Arrival
  A = given.arrivals

  abbrev s : System
  s = opening given.config given.app

  abbrev m1 : State
  m1 = law.steps.1

  abbrev t1 : Trace
  t1 = law.steps.3.0

  abbrev f : Step
  f = seen_step_at given 0 m m1

  r : MaskedRun A law.more 1 m1 t1 law.end
  r = masked_steps A law.more 1 m1 t1 law.end law.steps.3.2 law.ends

  abbrev J : ℕ
  J = suc law.more

  goes : moment A 0 m ≡ Goes f m1
  goes = masked_moment A 0 m m1 law.steps.0 law.steps.2

  runs : RunTo A J 0 m (f ∷ r.steps) law.end
  runs = (f, m1, goes, (r.steps, refl, r.runs))

  flags : Flags (f ∷ r.steps)
  flags = flag_first m1 f r.steps refl (λ e. ap (λ (y : State). y.core.mie) (sym (r.nil e)) ∙ law.ends) r.some r.flags

  cut : (pieces [] (f ∷ r.steps) ≡ Stretch (f ∷ r.steps) ∷ []) × (cut_off_steps [] (f ∷ r.steps) ≡ [])
  cut = cut_whole r.steps [] f refl flags

  last_is : (last_of f r.steps).count + 1 ≡ J
  last_is = let q = (r.last f refl (refl, refl)).1 in omega arith

  long : length (f ∷ r.steps) ≡ J
  long = ap suc r.long

  abbrev boot : Stamped
  boot = stamp 0 law.more event.Boot

  all_trace : trace_of A (f ∷ r.steps) ≡ law.trace
  all_trace =
      ap (λ u. (lines_at A 0, f.touched) ∷ u) r.trace
      ∙ ap (λ y. (lines_at A 0, touched y) ∷ t1) (none_taken (state_with_arrivals A 0 m) law.steps.0)
      ∙ sym law.steps.3.1

  abbrev E0 : List Stamped
  E0 = boot ∷ map admit_event (arrivals_behind_event 0 law.trace)

  abbrev p : Arrival → Bool
  p = is_early (f ∷ r.steps)

  abbrev inside : List Arrival
  inside = moments 0 J A

  traced : IsTraced A 0 [] (f ∷ r.steps)
  traced = is_traced A (from_zero A setting.ordered) 0 [] (f ∷ r.steps) tt (refl, r.from)

  none_early : filter p inside ≡ []
  none_early =
      let n : 0 + length (f ∷ r.steps) ≡ J = let l = long in omega arith in
      ap (λ v. filter p (moments 0 v A)) (sym n) ∙ traced.before ∙ ap (arrivals_before_event 0) all_trace ∙ nothing_before 0 law.trace law.untouched

  all_late : filter (λ a. not (p a)) inside ≡ arrivals_behind_event 0 law.trace
  all_late =
      let n : 0 + length (f ∷ r.steps) ≡ J = let l = long in omega arith in
      ap (λ v. filter (λ a. not (p a)) (moments 0 v A)) (sym n) ∙ traced.behind ∙ ap (arrivals_behind_event 0) all_trace

  in_range : AreOwned (owners_in given.config) (early_arrivals law.trace) × AreOwned (owners_in given.config) (late_arrivals law.trace)
  in_range = lines_trace (IsOwned (owners_in given.config)) J 0 (lines_at A) m law.trace law.end (owned_at given setting) law.steps

  owned_behind : AreOwned (owners_in given.config) (map (λ a. a.line) (arrivals_behind_event 0 law.trace))
  owned_behind = subst (AreOwned (owners_in given.config)) (sym (lines_behind 0 law.trace)) in_range.1

  events_are : piece_events given.view A (Stretch (f ∷ r.steps)) ≡ E0
  events_are =
      let q = last_is in
      let a : (last_of f r.steps).count ≡ law.more = omega arith in
      let e = stamp 0 (last_of f r.steps).count event.Boot in
      let shape : List Arrival → List Arrival → List Arrival → Stamped → List Stamped = λ u v w e. map (admission given.view) u ++ (map (admission given.view) v ++ (e ∷ map (admission given.view) w)) in
      ap (λ b. shape (moments 0 (cond b 1 0) A) (filter p (moments (cond b 1 0) ((last_of f r.steps).count + 1) A)) (filter (λ a. not (p a)) (moments (cond b 1 0) ((last_of f r.steps).count + 1) A)) e) law.steps.0
      ∙ ap (λ u. shape u (filter p (moments 0 ((last_of f r.steps).count + 1) A)) (filter (λ a. not (p a)) (moments 0 ((last_of f r.steps).count + 1) A)) e) (moments-none 0 A)
      ∙ ap (λ n. shape [] (filter p (moments 0 n A)) (filter (λ a. not (p a)) (moments 0 n A)) e) last_is
      ∙ ap (λ v. shape [] v (filter (λ a. not (p a)) inside) e) none_early
      ∙ ap (λ v. shape [] [] v e) all_late
      ∙ ap (λ v. stamp 0 v event.Boot ∷ map (admission given.view) (arrivals_behind_event 0 law.trace)) a
      ∙ ap (λ v. boot ∷ v) (admits_are given setting (arrivals_behind_event 0 law.trace) owned_behind)

  abbrev z : System
  z = with_admits (late_arrivals law.trace) law.after

  after_booted : law.after.booted ≡ true
  after_booted = sym (booted_admits (late_arrivals law.trace) law.after) ∙ simulation.booted passed law.end z law.related

  follow0 : AreStepsBehind given.config given.app [] s E0 z
  follow0 = (
    law.after,
    law.step_is,
    tt,
    subst (λ a. AreStepsBehind given.config given.app (boot ∷ []) law.after (map admit_event (arrivals_behind_event 0 law.trace)) (with_admits a law.after)) (lines_behind 0 law.trace)
        (follows_admits given.config given.app (boot ∷ []) (arrivals_behind_event 0 law.trace) law.after setting.few_tasks after_booted owned_behind),
  )

  weighed0 : AreWeighedTo given.config given.app E0 s z
  weighed0 = (
    law.after,
    (let w = law.within in omega (arith, w)),
    law.step_is,
    subst (λ a. AreWeighedTo given.config given.app (map admit_event (arrivals_behind_event 0 law.trace)) law.after (with_admits a law.after)) (lines_behind 0 law.trace)
        (weighed_admits given.config given.app (arrivals_behind_event 0 law.trace) law.after setting.few_tasks after_booted owned_behind),
  )

  -- boot itself is not asked for
  paced0 : (longest : ℕ) → ArePacedTo given.config given.app given.size longest 0 E0 s z
  paced0 longest = (
    law.after,
    record {
      begins = λ other later. absurd (true≢false later);
      preempts = λ takes t runs. absurd (false≢true takes);
      idles = λ takes rests. absurd (false≢true takes);
      ends = λ other later. absurd (true≢false later);
    },
    law.step_is,
    subst (λ a. ArePacedTo given.config given.app given.size longest law.more (map admit_event (arrivals_behind_event 0 law.trace)) law.after (with_admits a law.after)) (lines_behind 0 law.trace)
        (paced_admits given.config given.app given.size longest law.more (arrivals_behind_event 0 law.trace) law.after setting.few_tasks after_booted owned_behind),
  )

  -- nor has a task spent anything before it
  spent0 : (longest t : ℕ) → AreSpentTo given.config given.app given.size longest t 0 0 E0 s z law.more 0
  spent0 longest t =
      let none : spent_behind given.config t 0 0 s boot ≡ 0 = let few = no_more_left given.config t 0 0 s boot refl in omega (arith, few) in (
        law.after,
        record {
          begins = λ turn. absurd (false≢true turn);
          ends = λ turn. absurd (false≢true turn);
          preempts = λ takes. absurd (false≢true takes);
        },
        law.step_is,
        subst (λ v. AreSpentTo given.config given.app given.size longest t law.more v (map admit_event (arrivals_behind_event 0 law.trace)) law.after z law.more 0) (sym none)
            (subst (λ a. AreSpentTo given.config given.app given.size longest t law.more 0 (map admit_event (arrivals_behind_event 0 law.trace)) law.after (with_admits a law.after) law.more 0)
            (lines_behind 0 law.trace)
            (spent_admits given.config given.app given.size longest t law.more 0 (arrivals_behind_event 0 law.trace) law.after setting.few_tasks after_booted owned_behind)),
      )

  last0 : last_count 0 E0 ≡ law.more
  last0 = last_admits law.more (arrivals_behind_event 0 law.trace)

  -- no line arrives at count 0
  late_from : AllByRecursion (IsFrom 1 J) (arrivals_behind_event 0 law.trace)
  late_from =
      let l = trace_long law.more 1 (lines_at A) m1 t1 law.end law.steps.3.2 in
      let none : lines_at A 0 ≡ [] = ap (map (λ a. a.line)) (moments-later 1 0 1 A setting.ordered (omega arith)) in
      subst (λ v. AllByRecursion (IsFrom 1 J) (arrivals_behind_event 0 v)) (sym law.steps.3.1)
      (first_late (lines_at A 0) (touched (state_arrive (lines_at A 0) m)) none t1 (omega arith))
    where
      first_late : (lines : List ℕ) (o : Option ℕ) → lines ≡ [] → (t : Trace) → 1 + length t ≤ J → AllByRecursion (IsFrom 1 J) (arrivals_behind_event 0 ((lines, o) ∷ t))
      first_late [] o e t l = behind_within 1 J 1 t (omega arith) l
      first_late (x ∷ lines) o e t l = absurd (nil_cons e)

  within0 : AllByRecursion (IsInCounts 0 J) E0
  within0 = (
    record { begins = omega arith; ordered = omega arith; ends = omega arith; spans = tt },
    each_arrival (IsInCounts 0 J) (IsFrom 1 J) (λ a h. record { begins = omega arith; ordered = omega arith; ends = h.1; spans = spans_admit a }) (arrivals_behind_event 0 law.trace) late_from,
  )

  placed0 : EachPair IsOrdered E0
  placed0 = (each_arrival (IsOrdered boot) (IsFrom 1 J) (λ a h. admit_behind a boot (let l : 0 < a.at = omega arith in l)) (arrivals_behind_event 0 law.trace) late_from, admit_pairs (arrivals_behind_event 0 law.trace))

  counted0 : (i t : ℕ) → admits_at i t E0 ≡ arrivals_at i t inside
  counted0 i t = stretch_arrivals i t boot [] inside [] (arrivals_behind_event 0 law.trace) p refl none_early all_late

  keeps0 : KeepsOrder inside E0
  keeps0 =
      subst (λ v. KeepsOrder inside (map admit_event v ++ (boot ∷ map admit_event (arrivals_behind_event 0 law.trace)))) none_early
      (subst (λ v. KeepsOrder inside (map admit_event (filter p inside) ++ (boot ∷ map admit_event v))) all_late
      (parted_order p (λ a. not (p a)) inside boot refl))

  touching : AllByRecursion (TouchesOnly []) (f ∷ r.steps)
  touching = steps_touch A [] (f ∷ r.steps) (subst (AllByRecursion (Contains [])) (sym (ap touched_lines all_trace ∙ law.untouched)) tt)

  short_at : (steps : List Step) → length (f ∷ steps) ≤ stretch_limit given.config Boots → AllByRecursion (TouchesOnly []) steps → AreShort given.config (f ∷ steps)
  short_at steps l h = (l, ([], omega arith, All-from_recursion (TouchesOnly []) (f ∷ steps) (touching.0, h)))

  closed : (i : ℕ) → i < J → (x : State) → state_after_from i A 0 m ≡ Some x → x.core.mie ≡ false
  closed i l x e = masked_inside A J 0 m law.trace law.end law.steps i l x e

  -- a run that ends inside the first stretch
  none_run : WholeRun given R 0 m
  unfolding observe run_from state_after_from
  none_run = record {
    end = m;
    whole = refl;
    last = s;
    follows = refl;
    weighed = refl;
    paced = λ longest most. refl;
    reaches = λ longest most some. absurd (let none : 0 < 0 = some in omega (arith, none));
    reaches_within = λ longest most heaviest stretches some. absurd (let none : 0 < 0 = some in omega (arith, none));
    spends = λ t declared. nothing_spent given t 0 0 s;
    within = tt;
    placed = tt;
    to = 0;
    to_in = (omega arith, omega arith);
    ends = tt;
    counted = λ i t. sym (ap (arrivals_at i t) (moments-none 0 A));
    keeps = subst (λ v. KeepsOrder v []) (sym (moments-none 0 A)) (admits_order []);
    short = tt;
    short_cut = tt;
    gaps = tt;
    mirrors = λ i h. absurd (omega arith);
  }

  short_run : (n : ℕ) → suc n < J → WholeRun given R (suc n) m
  unfolding observe
  short_run n l =
      let q = r.long in
      let few = law.few in
      let run : steps_from (suc n) A 0 m ≡ f ∷ take n r.steps = run_take J (suc n) 0 A m (f ∷ r.steps) law.end runs (omega arith) in
      let u = cut_short r.steps [] f n refl flags (omega arith) in
      let no_pieces : pieces [] (steps_from (suc n) A 0 m) ≡ [] = ap (pieces []) run ∙ u.0 in
      let open_is : cut_off_steps [] (steps_from (suc n) A 0 m) ≡ f ∷ take n r.steps = ap (cut_off_steps []) run ∙ u.1 in
      let obs : events_from given (suc n) 0 m ≡ [] =
      ap (λ v. flat_map (piece_events given.view A) v ++ found_admits given.view A (cut_off_steps [] (steps_from (suc n) A 0 m))) no_pieces
      ∙ ap (found_admits given.view A) open_is
      ∙ ap (λ b. map (admission given.view) (moments 0 (cond b 1 0) A)) law.steps.0
      ∙ ap (map (admission given.view)) (moments-none 0 A) in
      let through = goes_through J (suc n) 0 A m (f ∷ r.steps) law.end runs (omega arith) in
      record {
        end = through.0;
        whole = through.1;
        last = s;
        follows = subst (λ E. AreStepsBehind given.config given.app [] s E s) (sym obs) refl;
        weighed = subst (λ E. AreWeighedTo given.config given.app E s s) (sym obs) refl;
        paced = λ longest most. subst (λ E. ArePacedTo given.config given.app given.size longest 0 E s s) (sym obs) refl;
        reaches = λ longest most some. absurd (let none = ap (λ (E : List Stamped). length E) obs in omega (arith, none, some));
        reaches_within = λ longest most heaviest stretches some. absurd (let none = ap (λ (E : List Stamped). length E) obs in omega (arith, none, some));
        spends = λ t declared. subst (λ E. HasSpentTo given t 0 0 E s s) (sym obs) (nothing_spent given t 0 0 s);
        within = subst (AllByRecursion (IsInCounts 0 (suc n))) (sym obs) tt;
        placed = subst (EachPair IsOrdered) (sym obs) tt;
        to = 0;
        to_in = (omega arith, subst (λ E. suc n < 0 + longest_cut_off_stretch given.config E) (sym obs) (omega arith));
        ends = subst (AllByRecursion (λ e. is_admit e ≡ false → e.stamp.at < 0)) (sym obs) tt;
        counted = λ i t. ap (admits_at i t) obs ∙ sym (ap (arrivals_at i t) (moments-none 0 A));
        keeps = subst (KeepsOrder (moments 0 0 A)) (sym obs) (subst (λ v. KeepsOrder v []) (sym (moments-none 0 A)) (admits_order []));
        short = subst (AllByRecursion (IsShortPiece given.config)) (sym no_pieces) tt;
        short_cut = subst (AreShort given.config) (sym open_is) (short_at (take n r.steps) (let k = length-take n r.steps in omega arith) (each_step-take (TouchesOnly []) n r.steps touching.1));
        gaps = subst (HasShortGaps given.view 0) (sym no_pieces) tt;
        mirrors = λ i h x e o. let b = closed i (omega arith) x e in cc;
      }

  all_before : (i : ℕ) → J ≤ i → AllByRecursion (λ e. stands_before i e ≡ true) E0
  all_before i l = each_map (IsInCounts 0 J) (λ e. stands_before i e ≡ true) (λ e w. before (is_admit e) e.stamp.at i (let u = w.ends in omega arith)) E0 within0

  long_run : (n : ℕ) → WholeRun given R (J + n) m
  unfolding observe
  long_run n =
      let F = steps_from n A J law.end in
      let E = events_from given n J law.end in
      let q = r.long in
      let few = law.few in
      let g : SoundFrom given R progress passed n J law.end z E0 = sound_from given setting R progress simulation n n J passed law.end z E0 (omega arith) (omega arith) law.related (follows_leads given.config given.app [] s E0 z follow0) in
      let run : steps_from (J + n) A 0 m ≡ (f ∷ r.steps) ++ F = run_steps J n 0 A m (f ∷ r.steps) law.end runs ∙ ap (λ i. (f ∷ r.steps) ++ steps_from n A i law.end) (omega arith) in
      let pieces_are : pieces [] (steps_from (J + n) A 0 m) ≡ Stretch (f ∷ r.steps) ∷ pieces [] F =
      ap (pieces []) run ∙ pieces-append [] (f ∷ r.steps) F ∙ ap (λ v. pieces [] (f ∷ r.steps) ++ pieces v F) cut.1 ∙ ap (λ v. v ++ pieces [] F) cut.0 in
      let open_is : cut_off_steps [] (steps_from (J + n) A 0 m) ≡ cut_off_steps [] F = ap (cut_off_steps []) run ∙ cut_off-append [] (f ∷ r.steps) F ∙ ap (λ v. cut_off_steps v F) cut.1 in
      let obs : events_from given (J + n) 0 m ≡ E0 ++ E =
      ap (λ v. flat_map (piece_events given.view A) v ++ found_admits given.view A (cut_off_steps [] (steps_from (J + n) A 0 m))) pieces_are
      ∙ ap (λ v. (piece_events given.view A (Stretch (f ∷ r.steps)) ++ flat_map (piece_events given.view A) (pieces [] F)) ++ found_admits given.view A v) open_is
      ∙ append_assoc (piece_events given.view A (Stretch (f ∷ r.steps))) (flat_map (piece_events given.view A) (pieces [] F)) (found_admits given.view A (cut_off_steps [] F))
      ∙ ap (λ u. u ++ E) events_are in
      let split : moments 0 g.to A ≡ inside ++ moments J g.to A = moments-split 0 0 J g.to A (from_zero A setting.ordered) (omega arith) g.to_in.0 in
      record {
        end = g.end;
        whole = after_steps J n 0 A m (f ∷ r.steps) law.end runs ∙ ap (λ k. state_after_from n A k law.end) (omega arith) ∙ g.whole;
        last = g.last;
        follows = subst (λ u. AreStepsBehind given.config given.app [] s u g.last) (sym obs) (follows-append given.config given.app [] s z g.last E0 E follow0 g.follows);
        weighed = subst (λ u. AreWeighedTo given.config given.app u s g.last) (sym obs) (weighed-append given.config given.app E0 E s z g.last weighed0 g.weighed);
        paced = λ longest most. subst (λ u. ArePacedTo given.config given.app given.size longest 0 u s g.last) (sym obs)
            (paced-append given.config given.app given.size longest E0 E 0 law.more s z g.last last0 (paced0 longest) (g.paced longest law.more most (omega arith)).0);
        reaches = λ longest most some.
            let far = (g.paced longest law.more most (omega arith)).1 in
            let last : last_count 0 (events_from given (J + n) 0 m) ≡ last_count law.more E = ap (last_count 0) obs ∙ last-append 0 E0 E ∙ ap (λ v. last_count v E) last0 in
            omega (arith, far, last);
        reaches_within = λ longest most heaviest stretches some.
            let far = (g.paced longest law.more most (omega arith)).2 heaviest stretches in
            let last : last_count 0 (events_from given (J + n) 0 m) ≡ last_count law.more E = ap (last_count 0) obs ∙ last-append 0 E0 E ∙ ap (λ v. last_count v E) last0 in
            omega (arith, far, last);
        spends = λ t declared.
            let rest = g.spends t law.more 0 declared (record { later = omega arith; running = λ named. omega arith; preempted = λ other. omega arith }) in
            record {
              to = rest.to;
              left = rest.left;
              leads = λ longest. subst (λ u. AreSpentTo given.config given.app given.size longest t 0 0 u s g.last rest.to rest.left) (sym obs)
                  (spent-append given.config given.app given.size longest t E0 E 0 0 law.more 0 s z g.last rest.to rest.left (spent0 longest t) (rest.leads longest));
            };
        within = subst (AllByRecursion (IsInCounts 0 (J + n))) (sym obs)
            (each-append (IsInCounts 0 (J + n)) E0 E (within_wider 0 J 0 (J + n) E0 (omega arith) (omega arith) within0) (within_wider J (J + n) 0 (J + n) E (omega arith) (omega arith) g.within));
        placed = subst (EachPair IsOrdered) (sym obs) (pairs_apart 0 J (J + n) E0 E within0 g.within placed0 g.placed);
        to = g.to;
        to_in = (let w = g.to_in in (omega arith, subst (λ E. J + n < g.to + longest_cut_off_stretch given.config E) (sym obs) w.2));
        ends = subst (AllByRecursion (λ e. is_admit e ≡ false → e.stamp.at < g.to)) (sym obs)
            (each-append (λ e. is_admit e ≡ false → e.stamp.at < g.to) E0 E
            (each_map (IsInCounts 0 J) (λ e. is_admit e ≡ false → e.stamp.at < g.to) (λ e w o. let u = w.ends in let v = g.to_in.0 in omega arith) E0 within0) g.ends);
        counted = λ i t.
            ap (admits_at i t) obs ∙ admits-append i t E0 E ∙ ap (λ v. v + admits_at i t E) (counted0 i t) ∙ ap (λ v. arrivals_at i t inside + v) (g.counted i t)
            ∙ sym (ap (arrivals_at i t) split ∙ arrivals-append i t inside (moments J g.to A));
        keeps = subst (KeepsOrder (moments 0 g.to A)) (sym obs)
            (subst (λ v. KeepsOrder v (E0 ++ E)) (sym split) (orders-append inside (moments J g.to A) E0 E keeps0 g.keeps));
        short = subst (AllByRecursion (IsShortPiece given.config)) (sym pieces_are) (short_at r.steps (omega arith) touching.1, g.short);
        short_cut = subst (AreShort given.config) (sym open_is) g.short_cut;
        gaps = subst (HasShortGaps given.view 0) (sym pieces_are) (omega arith, g.gaps 0 (omega arith));
        mirrors = λ i h x e o. ⊎_elim
            (λ (l : i < J). let b = closed i l x e in cc)
            (λ (l : J ≤ i).
            let i' = i - J in
            let e1 : J + i' ≡ i = omega arith in
            let after : state_after_from i' A J law.end ≡ Some x =
            ap (λ k. state_after_from i' A k law.end) (omega arith) ∙ sym (after_steps J i' 0 A m (f ∷ r.steps) law.end runs) ∙ ap (λ k. state_after_from k A 0 m) e1 ∙ e in
            let w = subst (λ k. ReachedAt given R E z k x) e1 (g.mirrors i' (omega arith) x after o) in
            let fl : filter (stands_before i) (events_from given (J + n) 0 m) ≡ E0 ++ filter (stands_before i) E =
            ap (filter (stands_before i)) obs ∙ filter-append (stands_before i) E0 E ∙ ap (λ u. u ++ filter (stands_before i) E) (filter_all (stands_before i) E0 (all_before i l)) in
            (w.0, subst (λ u. AreStepsTo given.config given.app u s w.0) (sym fl) (leads-append given.config given.app E0 (filter (stands_before i) E) s z w.0 (follows_leads given.config given.app [] s E0 z follow0) w.1), w.2))
            (cases_lt i J);
      }

  some_run : (n : ℕ) → n < J → WholeRun given R n m
  some_run zero l = none_run
  some_run (suc n) l = short_run n l

  -- Every run of n instructions.
  pub whole_run : (n : ℕ) → WholeRun given R n m
  whole_run n =
      ⊎_elim (λ (l : n < J). some_run n l)
      (λ (l : J ≤ n). let e : J + (n - J) ≡ n = omega arith in subst (λ k. WholeRun given R k m) e (long_run (n - J)))
      (cases_lt n J)
