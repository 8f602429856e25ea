-- What is shown at a count is what the run reaches there.
use Rattle.std.proofs.Common.{◌≡◌, ◌<◌, ◌≤◌, ◌+◌, ℕ, zero, suc, List, Option, Some, None, if◌then◌else◌, true, false, nat_lt, refl, sym, ◌∙◌, ap, arith, ⊎_elim}
use Rattle.std.specs.Option.{option_map}
use Rattle.std.proofs.lemmas.Bool.{cases_lt, lt-ltb, le-ltb}
use Rattle.sloth_base.specs.Machine.{State}
use Rattle.sloth_base.specs.Limits.{count_limit}
use Rattle.sloth_base.specs.Take.{execution_state}
use Rattle.sloth_base.specs.declared.image.Image.{Image}
use Rattle.sloth_base.specs.declared.service.Arrival.{Arrival}
use Rattle.sloth_base.specs.declared.numbers.Step.{Step}
use Rattle.rv32_machine.specs.Start.{start}
use Rattle.rv32_instr.specs.declared.encoding.Stop.{Stop}
use Rattle.rv32_instr.specs.Execute.{Next, Going, Stopped}
use Rattle.rv32_machine.specs.Advance.{StepOutcome, Goes, Halts, advance, observed_step, outcome}
use Rattle.rv32_machine.specs.Run.{Stopping, state_with_arrivals, moment, on_goes, state_after_from, state_after, stopping, stop_from, stop_of}
use Rattle.rv32_machine.proofs.Runs.{after_more}
use Rattle.debug_view.specs.ShownRun.{run_of, shown_stop}
use Rattle.debug_view.specs.States.{state_at, stop_in, stop_at, unless_stopped, end_within, end_at}
use Rattle.debug_view.proofs.Standing.{state-suc}

-- a state behind an instruction that goes on
on-goes : (image : Image) (A : List Arrival) (n c : ℕ) (t s : State) (o : StepOutcome) → moment A c t ≡ o → state_at image A c ≡ state_with_arrivals A c t
    → on_goes o None (λ step after. state_after_from n A (c + 1) after) ≡ Some s
    → ((u : State) → state_at image A (c + 1) ≡ state_with_arrivals A (c + 1) u → state_after_from n A (c + 1) u ≡ Some s → state_at image A (n + (c + 1)) ≡ state_with_arrivals A (n + (c + 1)) s)
    → state_at image A (n + (c + 1)) ≡ state_with_arrivals A (n + (c + 1)) s
on-goes image A n c t s (Halts stop) does at found on = cc
on-goes image A n c t s (Goes step u) does at found on =
    let one : c + 1 ≡ suc c = omega arith in
    on u (ap (state_at image A) one ∙ state-suc image A c step u (ap (advance c) at ∙ does)) found

pub shown_from : (image : Image) (A : List Arrival) (n c : ℕ) (t s : State) → state_at image A c ≡ state_with_arrivals A c t
    → state_after_from n A c t ≡ Some s → state_at image A (n + c) ≡ state_with_arrivals A (n + c) s
unfolding state_after_from
shown_from image A zero c t s at found =
    let e : t ≡ s = cc in
    let z : c ≡ 0 + c = omega arith in
    ap (state_at image A) (sym z) ∙ at ∙ ap (λ u. state_with_arrivals A c u) e ∙ ap (λ k. state_with_arrivals A k s) z
shown_from image A (suc n) c t s at found =
    let more : suc n + c ≡ n + (c + 1) = omega arith in
    ap (state_at image A) more
    ∙ on-goes image A n c t s (moment A c t) refl at found (λ u there rest. shown_from image A n (c + 1) u s there rest)
    ∙ sym (ap (λ k. state_with_arrivals A k s) more)

-- the state of a count that a run reaches
pub shown_is_reached : (image : Image) (A : List Arrival) (k : ℕ) (s : State) → state_after k A (start image) ≡ Some s → state_at image A k ≡ state_with_arrivals A k s
unfolding state_at
shown_is_reached image A k s found =
    let z : k + 0 ≡ k = omega arith in
    ap (state_at image A) (sym z) ∙ shown_from image A k 0 (start image) s refl found ∙ ap (λ n. state_with_arrivals A n s) z

-- ---- each count of a run

-- nothing stops before the end
going-by : (image : Image) (A : List Arrival) (from next : ℕ) (s : Option Stop) → stop_at image A from ≡ s → (j : ℕ) → from ≤ j → j < unless_stopped s from next
    → ((i : ℕ) → from + 1 ≤ i → i < next → stop_at image A i ≡ None) → stop_at image A j ≡ None
going-by image A from next (Some stop) is j le lt rest = absurd (omega arith)
going-by image A from next None is j le lt rest =
    ⊎_elim (λ (later : from < j). rest j (omega arith) lt) (λ (here : j ≤ from). let e : j ≡ from = omega arith in ap (stop_at image A) e ∙ is) (cases_lt from j)

goes-within : (image : Image) (A : List Arrival) (n from j : ℕ) → from ≤ j → j < end_within image A n from → stop_at image A j ≡ None
unfolding end_within
goes-within image A zero from j le lt = absurd (omega arith)
goes-within image A (suc n) from j le lt =
    going-by image A from (end_within image A n (from + 1)) (stop_at image A from) refl j le lt (λ i above below. goes-within image A n (from + 1) i above below)

pub goes_to_end : (image : Image) (A : List Arrival) (k : ℕ) → k ≤ end_at image A → (j : ℕ) → j < k → stop_at image A j ≡ None
goes_to_end image A k within j below = goes-within image A count_limit 0 j (omega arith) (omega arith)

-- the run reaches a count before which nothing stops
abbrev Reached : Image → List Arrival → ℕ → Type 0
Reached image A k = (s : State) × (state_after k A (start image) ≡ Some s) × (state_at image A k ≡ state_with_arrivals A k s)

reached-by : (image : Image) (A : List Arrival) (k : ℕ) (s : State) (o : StepOutcome) → state_after k A (start image) ≡ Some s
    → advance k (state_at image A k) ≡ o → moment A k s ≡ o → stop_in o ≡ None → Reached image A (suc k)
reached-by image A k s (Halts stop) after is moves none = cc
reached-by image A k s (Goes step next) after is moves none =
    let one : k + 1 ≡ suc k = omega arith in (
      next,
      ap (λ n. state_after n A (start image)) (sym one) ∙ after_more k A (start image) s next step after moves,
      state-suc image A k step next is ∙ ap (λ n. state_with_arrivals A n next) one,
    )

pub reaches : (image : Image) (A : List Arrival) (k : ℕ) → ((j : ℕ) → j < k → stop_at image A j ≡ None)
    → (s : State) × (state_after k A (start image) ≡ Some s) × (state_at image A k ≡ state_with_arrivals A k s)
unfolding state_at state_after_from
reaches image A zero going = (start image, refl, refl)
reaches image A (suc k) going =
    let r = reaches image A k (λ j below. going j (omega arith)) in
    reached-by image A k r.0 (advance k (state_at image A k)) r.1 refl (sym (ap (advance k) r.2)) (going k (omega arith))

pub reaches_to_end : (image : Image) (A : List Arrival) (k : ℕ) → k ≤ (run_of image A).end
    → (s : State) × (state_after k A (start image) ≡ Some s) × (state_at image A k ≡ state_with_arrivals A k s)
reaches_to_end image A k within = reaches image A k (goes_to_end image A k within)

-- ---- its instruction

-- the address of a step is that of the state before it, with a line taken where one is
step-pc : (count : ℕ) (before : State) (next : Next) (step : Step) (after : State) → outcome count before next ≡ Goes step after → (execution_state before).pc ≡ step.pc
step-pc count before (Going s) step after e = let same : observed_step count before s ≡ step = cc in ap (λ (it : Step). it.pc) same
step-pc count before (Stopped stop) step after e = cc

pub pc_of_step : (image : Image) (A : List Arrival) (k : ℕ) (s after : State) (step : Step) → state_after k A (start image) ≡ Some s
    → moment A k s ≡ Goes step after → ((run_of image A).look k).pc ≡ step.pc
unfolding advance
pc_of_step image A k s after step found moves =
    ap (λ (it : State). (execution_state it).pc) (shown_is_reached image A k s found)
    ∙ step-pc k (state_with_arrivals A k s) _ step after moves

-- ---- its end

-- the end of so many counts from one on
within-stops : (image : Image) (A : List Arrival) (n c : ℕ) (t : State) (o : StepOutcome) → moment A c t ≡ o → state_at image A c ≡ state_with_arrivals A c t
    → ((u : State) → state_at image A (c + 1) ≡ state_with_arrivals A (c + 1) u → stop_from n A (c + 1) u ≡ shown_stop image A (n + (c + 1)) (end_within image A n (c + 1)))
    → on_goes o (stopping (state_with_arrivals A c t) o) (λ step after. stop_from n A (c + 1) after)
    ≡ shown_stop image A (n + (c + 1)) (unless_stopped (stop_in o) c (end_within image A n (c + 1)))
within-stops image A n c t (Goes step u) does at rest =
    let one : c + 1 ≡ suc c = omega arith in
    rest u (ap (state_at image A) one ∙ state-suc image A c step u (ap (advance c) at ∙ does) ∙ refl)
within-stops image A n c t (Halts stop) does at rest =
    let F : State → Option Stop → Option Stopping = λ s o. option_map (λ (it : Stop). record { pc = (execution_state s).pc; stop = it }) o in
    let below : nat_lt c (n + (c + 1)) ≡ true = lt-ltb c (n + (c + 1)) (omega arith) in
    let here : stop_at image A c ≡ Some stop = ap stop_in (ap (advance c) at ∙ does) in
    sym (ap (λ b. F (state_at image A c) (if b then stop_at image A c else None)) below ∙ ap (F (state_at image A c)) here ∙ ap (λ s. F s (Some stop)) at)

stops-from : (image : Image) (A : List Arrival) (n c : ℕ) (t : State) → state_at image A c ≡ state_with_arrivals A c t
    → stop_from n A c t ≡ shown_stop image A (n + c) (end_within image A n c)
unfolding stop_from end_within
stops-from image A zero c t at =
    let F : Option Stop → Option Stopping = λ o. option_map (λ (it : Stop). record { pc = (execution_state (state_at image A c)).pc; stop = it }) o in
    let off : nat_lt c (0 + c) ≡ false = le-ltb c (0 + c) (omega arith) in
    sym (ap (λ b. F (if b then stop_at image A c else None)) off)
stops-from image A (suc n) c t at =
    let more : n + (c + 1) ≡ suc n + c = omega arith in
    within-stops image A n c t (moment A c t) refl at (λ u there. stops-from image A n (c + 1) u there)
    ∙ ap (λ o. shown_stop image A (n + (c + 1)) (unless_stopped (stop_in o) c (end_within image A n (c + 1)))) (sym (ap (advance c) at))
    ∙ ap (λ m. shown_stop image A m (unless_stopped (stop_at image A c) c (end_within image A n (c + 1)))) more

pub stops_as_shown : (image : Image) (A : List Arrival) → stop_of count_limit A (start image) ≡ shown_stop image A count_limit (run_of image A).end
unfolding state_at
stops_as_shown image A =
    let all : count_limit + 0 ≡ count_limit = omega arith in
    stops-from image A count_limit 0 (start image) refl ∙ ap (λ m. shown_stop image A m (end_at image A)) all
