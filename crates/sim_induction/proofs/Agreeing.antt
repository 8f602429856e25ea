-- Runs and events with arrivals that agree below a moment.
use Rattle.std.proofs.Common.{◌≡◌, ◌∙◌, ◌+◌, ◌<◌, ◌≤◌, ℕ, zero, suc, Bool, true, false, List, [], ◌∷◌, ◌++◌, map, refl, sym, ap, subst, arith}
use Rattle.std.specs.Prelude.{if◌then◌else◌}
use Rattle.std.specs.List.{flat_map, AllByRecursion}
use Rattle.sloth_base.specs.declared.service.Arrival.{Arrival}
use Rattle.sloth_base.specs.declared.numbers.Step.{Step}
use Rattle.sloth_base.specs.Machine.{State}
use Rattle.sloth_base.specs.Arrivals.{moments}
use Rattle.sloth_base.specs.Arrive.{state_arrive}
use Rattle.sloth_base.specs.Take.{execution_state}
use Rattle.rv32_machine.specs.Advance.{StepOutcome, Goes, Halts, advance}
use Rattle.rv32_machine.specs.Run.{Moment, state_with_arrivals, moment, moment_of, on_goes, run_from, steps_of}
use Rattle.rv32_machine.proofs.Coherence.{step_seen}
use Rattle.observe.specs.Observe.{View, admission, stamp, outside_events, mark_at, found_admits, first_masked_moment, last_of, placed_events, stretch_events, piece_events, observe}
use Rattle.observe.specs.Pieces.{RunPiece, Outside, Stretch, pieces, cut_off_steps}
use Rattle.observe.specs.Pieces as part
use Rattle.observe.proofs.Rule.{is-cut}

-- at moments below n the same arrivals come
abbrev pub AgreeBelow : ℕ → List Arrival → List Arrival → Type 0
AgreeBelow n A B = (from to : ℕ) → to ≤ n → moments from to A ≡ moments from to B

-- ---- runs

-- a count of a run, by the state with its arrivals
abbrev counted : State → Step → State → Moment
counted arrived step after = record { arrived_state = arrived; entered_state = execution_state arrived; after = after; step = step }

on_same : (o : StepOutcome) (front : Step → State → Moment) (f g : State → List Moment) → ((after : State) → f after ≡ g after)
    → on_goes o [] (λ step after. front step after ∷ f after) ≡ on_goes o [] (λ step after. front step after ∷ g after)
on_same (Goes step after) front f g same = ap (λ rest. front step after ∷ rest) (same after)
on_same (Halts stop) front f g same = refl

pub same_from : (j n k : ℕ) (A B : List Arrival) (state : State) → AgreeBelow n A B → k + j ≤ n → run_from j A k state ≡ run_from j B k state
unfolding run_from
same_from zero n k A B state agree within = refl
same_from (suc j) n k A B state agree within =
    let more : State → List Moment = run_from j A (k + 1) in
    let go : List Arrival → List Moment = λ here.
    let arrived = state_arrive (map (λ a. a.line) here) state in
    on_goes (advance k arrived) [] (λ step after. counted arrived step after ∷ more after) in
    ap go (agree k (k + 1) (omega (arith, within)))
    ∙ on_same (moment B k state) (moment_of B k state) more (run_from j B (k + 1)) (λ after. same_from j n (k + 1) A B after agree (omega (arith, within)))

-- ---- events

each_front : (P : Step → Type 0) (xs ys : List Step) → AllByRecursion P (xs ++ ys) → AllByRecursion P xs × AllByRecursion P ys
each_front P [] ys all = (tt, all)
each_front P (x ∷ xs) ys all = let rest = each_front P xs ys all.1 in ((all.0, rest.0), rest.1)

-- the steps of a run are those of counts below its end
below_go : (n k : ℕ) (A : List Arrival) (state : State) (o : StepOutcome) (rest : State → List Moment) → moment A k state ≡ o → k < n
    → ((t : State) → AllByRecursion (λ s. s.count < n) (steps_of (rest t))) → AllByRecursion (λ s. s.count < n) (steps_of (on_goes o [] (λ s t. moment_of A k state s t ∷ rest t)))
below_go n k A state (Halts stop) rest is here more = tt
below_go n k A state (Goes s t) rest is here more =
    let same = ap (λ x. x.count) (step_seen k (state_with_arrivals A k state) s t is) in
    (omega (arith, same, here), more t)

pub below_from : (j n k : ℕ) (A : List Arrival) (state : State) → k + j ≤ n → AllByRecursion (λ s. s.count < n) (steps_of (run_from j A k state))
unfolding run_from
below_from zero n k A state within = tt
below_from (suc j) n k A state within =
    below_go n k A state (moment A k state) (λ t. run_from j A (k + 1) t) refl (omega (arith, within)) (λ t. below_from j n (k + 1) A t (omega (arith, within)))

module _ (view : View) (n : ℕ) (A B : List Arrival) (agree : AgreeBelow n A B) where
  abbrev IsBelow : Step → Type 0
  IsBelow step = step.count < n

  last_below : (first : Step) (more : List Step) → IsBelow first → AllByRecursion IsBelow more → IsBelow (last_of first more)
  last_below first [] here rest = here
  last_below first (next ∷ more) here rest = last_below next more rest.0 rest.1

  masked_below : (enabled : Bool) (count : ℕ) → count < n → (if enabled then count + 1 else count) ≤ n
  masked_below true count here = omega arith
  masked_below false count here = omega arith

  found_same : (steps : List Step) → AllByRecursion IsBelow steps → found_admits view A steps ≡ found_admits view B steps
  found_same [] below = refl
  found_same (first ∷ more) below =
      ap (map (admission view)) (agree first.count (first_masked_moment first) (masked_below first.enabled_before first.count below.0))

  stretch_same : (steps : List Step) → AllByRecursion IsBelow steps → stretch_events view A steps ≡ stretch_events view B steps
  stretch_same [] below = refl
  stretch_same (first ∷ more) below =
      let last = last_below first more below.0 below.1 in
      ap (λ inside. placed_events view (first ∷ more) inside first (last_of first more))
      (agree (first_masked_moment first) ((last_of first more).count + 1) (omega (arith, last)))

  piece_same : (piece : RunPiece) → AllByRecursion IsBelow (part.steps_of piece) → piece_events view A piece ≡ piece_events view B piece
  piece_same (Outside step) below =
      let here = below.0 in
      ap (λ come. map (admission view) come ++ map (stamp step.count step.count) (outside_events (mark_at view step.pc) view step))
      (agree step.count (step.count + 1) (omega (arith, here)))
  piece_same (Stretch steps) below =
      ap (λ found. found ++ stretch_events view A steps) (found_same steps below) ∙ ap (λ rest. found_admits view B steps ++ rest) (stretch_same steps below)

  parts_same : (parts : List RunPiece) → AllByRecursion IsBelow (flat_map part.steps_of parts) → flat_map (piece_events view A) parts ≡ flat_map (piece_events view B) parts
  parts_same [] below = refl
  parts_same (piece ∷ parts) below =
      let each = each_front IsBelow (part.steps_of piece) (flat_map part.steps_of parts) below in
      ap (λ here. here ++ flat_map (piece_events view A) parts) (piece_same piece each.0) ∙ ap (λ rest. piece_events view B piece ++ rest) (parts_same parts each.1)

  pub observed_same : (steps : List Step) → AllByRecursion IsBelow steps → observe view A steps ≡ observe view B steps
  unfolding observe
  observed_same steps below =
      let cut = is-cut steps in
      let each = each_front IsBelow (flat_map part.steps_of (pieces [] steps)) (cut_off_steps [] steps) (subst (AllByRecursion IsBelow) (sym cut.joined) below) in
      ap (λ events. events ++ found_admits view A (cut_off_steps [] steps)) (parts_same (pieces [] steps) each.0)
      ∙ ap (λ rest. flat_map (piece_events view B) (pieces [] steps) ++ rest) (found_same (cut_off_steps [] steps) each.1)
