-- The results and statuses that are observed of a run are values of registers, and so below 2^32.
use Rattle.std.proofs.Common.{◌≡◌, ◌∙◌, ℕ, zero, suc, ◌+◌, ◌<◌, List, [], ◌∷◌, ◌++◌, Bool, true, false, Option, Some, None, map, refl, sym, ap, subst}
use Rattle.std.specs.Prelude.{◌==◌, nat_lt, if◌then◌else◌, not, filter, slice_index}
use Rattle.std.specs.List.{AllByRecursion, flat_map}
use Rattle.sloth_base.specs.Arrivals.{moments}
use Rattle.sloth_base.specs.Machine.{State}
use Rattle.sloth_base.specs.Owners.{first_counter_line, line_kind}
use Rattle.sloth_base.specs.ServiceCodes.{service_of}
use Rattle.sloth_base.specs.Take.{execution_state}
use Rattle.sloth_base.specs.declared.service.Arrival.{Arrival}
use Rattle.sloth_base.specs.declared.service.Event.{Event}
use Rattle.sloth_base.specs.declared.service.Event.TheVariants as event
use Rattle.sloth_base.specs.declared.service.Stamped.{Stamped}
use Rattle.sloth_base.specs.declared.image.Image.{Image}
use Rattle.sloth_base.specs.declared.numbers.LineKind.{LineKind}
use Rattle.sloth_base.specs.declared.numbers.LineKind.TheVariants as line_of
use Rattle.sloth_base.specs.declared.image.Mark.{Mark}
use Rattle.sloth_base.specs.declared.image.MarkKind.{MarkKind}
use Rattle.sloth_base.specs.declared.image.MarkKind.TheVariants as kind
use Rattle.sloth_base.specs.declared.service.Service.{Service}
use Rattle.sloth_base.specs.declared.numbers.Step.{Step}
use Rattle.rv32_instr.specs.Execute.{Next, Going, Stopped, step}
use Rattle.rv32_machine.specs.Advance.{StepOutcome, Goes, Halts, advance, outcome, observed_step}
use Rattle.rv32_machine.specs.Run.{state_with_arrivals, moment, moment_of, on_goes, run_from, steps_of}
use Rattle.rv32_machine.specs.Start.{start}
use Rattle.observe.specs.Pieces.{RunPiece, Outside, Stretch, cut_off_steps, is_outside, pieces}
use Rattle.observe.specs.Pieces as cut
use Rattle.observe.specs.Observe.{NO_COUNTER, NO_TASK, View, admission, arrival_event, entry_event, events_of_kind, found_admits, is_early, last_of, later_event, mark_at, marked_event, first_masked_moment, observe, outside_events, piece_events, running_task, service_event, stamp, stretch_event, unentered_event, view_of_image}
use Rattle.sim_induction.specs.Sound.{events_of}
use Rattle.sim_laws.specs.Bounded.{IsBounded}
use Rattle.sim_laws.proofs.Bounded.{bounds_stay}
use Rattle.sim_laws.proofs.KernelRuns.{start_bounded}
use Rattle.sim_relation.specs.Bounds.{AreBelow}

-- ---- the steps of a run

-- the registers behind a step are below 2^32
abbrev AreWords : Step → Type 0
AreWords s = AreBelow 4294967296 s.regs

registers_seen : (count : ℕ) (before : State) (next : Next) (s : Step) (after : State) → outcome count before next ≡ Goes s after → s.regs ≡ after.core.registers
registers_seen count before (Going x) s after e =
    let step_is : observed_step count before x ≡ s = cc in
    let state_is : x ≡ after = cc in
    ap (λ (y : Step). y.regs) (sym step_is) ∙ ap (λ (y : State). y.core.registers) state_is
registers_seen count before (Stopped stop) s after e = absurd cc

registers_after : (arrivals : List Arrival) (count : ℕ) (state : State) (s : Step) (after : State) → moment arrivals count state ≡ Goes s after → s.regs ≡ after.core.registers
unfolding advance
registers_after arrivals count state s after e =
    registers_seen count (state_with_arrivals arrivals count state) (step (execution_state (state_with_arrivals arrivals count state))) s after e

steps_fit : (n : ℕ) (arrivals : List Arrival) (count : ℕ) (state : State) → IsBounded state → AllByRecursion AreWords (steps_of (run_from n arrivals count state))
unfolding run_from
steps_fit zero arrivals count state h = tt
steps_fit (suc n) arrivals count state h = by (moment arrivals count state) refl (steps_fit n arrivals (count + 1))
  where
    by : (o : StepOutcome) → moment arrivals count state ≡ o → ((after : State) → IsBounded after → AllByRecursion AreWords (steps_of (run_from n arrivals (count + 1) after)))
        → AllByRecursion AreWords (steps_of (on_goes o [] (λ s after. moment_of arrivals count state s after ∷ run_from n arrivals (count + 1) after)))
    by (Goes s after) e more =
        let bounded = bounds_stay arrivals count state after s e h in
        let P : List ℕ → Type 0 = λ l. AreBelow 4294967296 l in
        (subst P (sym (registers_after arrivals count state s after e)) bounded.core.registers, more after bounded)
    by (Halts stop) e more = tt

-- ---- the events that they show

-- the result or the status of an event is below 2^32
abbrev pub HasValue : Event → Type 0
HasValue (event.Run t function item result) = result < 4294967296
HasValue (event.Call t called status) = status < 4294967296
HasValue _ = Unit {0}

abbrev pub HasValueAt : Stamped → Type 0
HasValueAt e = HasValue e.event

all_append : {X : Type 0} (P : X → Type 0) (xs ys : List X) → AllByRecursion P xs → AllByRecursion P ys → AllByRecursion P (xs ++ ys)
all_append P [] ys h k = k
all_append P (x ∷ xs) ys h k = (h.0, all_append P xs ys h.1 k)

all_flat : {X Y : Type 0} (P : Y → Type 0) (f : X → List Y) (xs : List X) → AllByRecursion (λ x. AllByRecursion P (f x)) xs → AllByRecursion P (flat_map f xs)
all_flat P f [] h = tt
all_flat P f (x ∷ xs) h = all_append P (f x) (flat_map f xs) h.0 (all_flat P f xs h.1)

last_fits : (first : Step) (more : List Step) → AreWords first → AllByRecursion AreWords more → AreWords (last_of first more)
last_fits first [] h k = h
last_fits first (next ∷ more) h k = last_fits next more k.0 k.1

arrival_fits : (k : LineKind) → HasValue (arrival_event k)
arrival_fits (line_of.Task t) = tt
arrival_fits (line_of.Counter c) = tt
arrival_fits line_of.Unused = tt

entry_fits : (line : ℕ) (k : LineKind) → HasValue (entry_event line k)
entry_fits line (line_of.Task t) = tt
entry_fits line (line_of.Counter c) = tt
entry_fits line line_of.Unused = by (nat_lt line first_counter_line)
  where
    by : (b : Bool) → HasValue (if b then event.Enter NO_TASK else event.Tick NO_COUNTER)
    by true = tt
    by false = tt

module _ (view : View) where
  admits_fit : (arrivals : List Arrival) → AllByRecursion HasValueAt (map (admission view) arrivals)
  admits_fit [] = tt
  admits_fit (a ∷ arrivals) = (arrival_fits (line_kind view.owners a.line), admits_fit arrivals)

  stamped_fit : (count : ℕ) (events : List Event) → AllByRecursion HasValue events → AllByRecursion HasValueAt (map (stamp count count) events)
  stamped_fit count [] h = tt
  stamped_fit count (e ∷ events) h = (h.0, stamped_fit count events h.1)

  kind_fits : (k : MarkKind) (mark : Mark) (s : Step) → AreWords s → AllByRecursion HasValue (events_of_kind k view mark s)
  kind_fits kind.Item mark s h = (h mark.a, tt)
  kind_fits kind.Idle mark s h = (tt, tt)
  kind_fits kind.Jump mark s h = tt
  kind_fits kind.Opening mark s h = tt
  kind_fits kind.Back mark s h = tt

  outside_fits : (o : Option Mark) (s : Step) → AreWords s → AllByRecursion HasValue (outside_events o view s)
  outside_fits (Some mark) s h = kind_fits mark.kind mark s h
  outside_fits None s h = tt

  service_fits : (o : Option Service) (first last : Step) → AreWords last → HasValue (service_event o view first last)
  service_fits None first last h = tt
  service_fits (Some called) first last h = by (first.cur_before == last.cur_after)
    where
      by : (b : Bool) → HasValue (if b then event.Call (running_task view.owners.tasks first.cur_before) called (slice_index last.regs 10) else event.Left (running_task view.owners.tasks first.cur_before) called)
      by true = h 10
      by false = tt

  marked_fits : (k : MarkKind) (mark : Mark) (first last : Step) → AreWords last → HasValue (marked_event k view mark first last)
  marked_fits kind.Opening mark first last h = service_fits (service_of mark.a) first last h
  marked_fits kind.Back mark first last h = tt
  marked_fits kind.Item mark first last h = tt
  marked_fits kind.Jump mark first last h = tt
  marked_fits kind.Idle mark first last h = tt

  unentered_fits : (o : Option Mark) (first last : Step) → AreWords last → HasValue (unentered_event o view first last)
  unentered_fits (Some mark) first last h = marked_fits mark.kind mark first last h
  unentered_fits None first last h = tt

  later_fits : (o : Option ℕ) (first last : Step) → AreWords last → HasValue (later_event o view first last)
  later_fits (Some line) first last h = entry_fits line (line_kind view.owners line)
  later_fits None first last h = unentered_fits (mark_at view first.pc) first last h

  stretch_fits : (first last : Step) → AreWords last → HasValue (stretch_event view first last)
  stretch_fits first last h = by (first.count == 0)
    where
      by : (b : Bool) → HasValue (if b then event.Boot else later_event first.entered view first last)
      by true = tt
      by false = later_fits first.entered first last h

  module _ (arrivals : List Arrival) where
    piece_fits : (p : RunPiece) → AllByRecursion AreWords (cut.steps_of p) → AllByRecursion HasValueAt (piece_events view arrivals p)
    piece_fits (Outside s) h =
        all_append HasValueAt (map (admission view) (moments s.count (s.count + 1) arrivals)) (map (stamp s.count s.count) (outside_events (mark_at view s.pc) view s))
        (admits_fit (moments s.count (s.count + 1) arrivals)) (stamped_fit s.count (outside_events (mark_at view s.pc) view s) (outside_fits (mark_at view s.pc) s h.0))
    piece_fits (Stretch []) h = tt
    piece_fits (Stretch (first ∷ more)) h =
        let inside = moments (first_masked_moment first) ((last_of first more).count + 1) arrivals in
        let last = last_of first more in
        all_append HasValueAt (found_admits view arrivals (first ∷ more)) _ (admits_fit (moments first.count (first_masked_moment first) arrivals))
        (all_append HasValueAt (map (admission view) (filter (is_early (first ∷ more)) inside)) _ (admits_fit (filter (is_early (first ∷ more)) inside))
        (stretch_fits first last (last_fits first more h.0 h.1), admits_fit (filter (λ a. not (is_early (first ∷ more) a)) inside)))

    found_fit : (steps : List Step) → AllByRecursion HasValueAt (found_admits view arrivals steps)
    found_fit [] = tt
    found_fit (first ∷ more) = admits_fit (moments first.count (first_masked_moment first) arrivals)

    pieces_fit : (opened steps : List Step) → AllByRecursion AreWords opened → AllByRecursion AreWords steps
        → AllByRecursion (λ p. AllByRecursion HasValueAt (piece_events view arrivals p)) (pieces opened steps)
    pieces_fit opened [] h k = tt
    pieces_fit opened (s ∷ steps) h k =
        by (is_outside opened s) s.enabled_after (pieces_fit [] steps tt k.1) (pieces_fit (opened ++ s ∷ []) steps longer k.1)
      where
        longer : AllByRecursion AreWords (opened ++ s ∷ [])
        longer = all_append AreWords opened (s ∷ []) h (k.0, tt)

        by : (b c : Bool) → AllByRecursion (λ p. AllByRecursion HasValueAt (piece_events view arrivals p)) (pieces [] steps)
            → AllByRecursion (λ p. AllByRecursion HasValueAt (piece_events view arrivals p)) (pieces (opened ++ s ∷ []) steps)
            → AllByRecursion (λ p. AllByRecursion HasValueAt (piece_events view arrivals p))
            (if b then Outside s ∷ pieces [] steps else if c then Stretch (opened ++ s ∷ []) ∷ pieces [] steps else pieces (opened ++ s ∷ []) steps)
        by true c behind more = (piece_fits (Outside s) (k.0, tt), behind)
        by false true behind more = (piece_fits (Stretch (opened ++ s ∷ [])) longer, behind)
        by false false behind more = more

    observed_fit : (steps : List Step) → AllByRecursion AreWords steps → AllByRecursion HasValueAt (observe view arrivals steps)
    unfolding observe
    observed_fit steps h =
        all_append HasValueAt (flat_map (piece_events view arrivals) (pieces [] steps)) (found_admits view arrivals (cut_off_steps [] steps))
        (all_flat HasValueAt (piece_events view arrivals) (pieces [] steps) (pieces_fit [] steps tt h)) (found_fit (cut_off_steps [] steps))

pub values_fit : (image : Image) (arrivals : List Arrival) (n : ℕ) → AreBelow 256 image.memory → AllByRecursion HasValueAt (events_of image arrivals n)
values_fit image arrivals n bytes =
    observed_fit (view_of_image image) arrivals (steps_of (run_from n arrivals 0 (start image))) (steps_fit n arrivals 0 (start image) (start_bounded image bytes))
