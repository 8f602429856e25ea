-- A machine that goes on by one instruction.
use Rattle.std.proofs.Common.{◌≡◌, ◌<◌, ◌≤◌, ◌+◌, ◌-◌, ℕ, zero, suc, List, [], ◌∷◌, Option, Some, None, if◌then◌else◌, length, take, map, refl, sym, ◌∙◌, ap, subst, arith, ⊎_elim}
use Rattle.std.specs.List.{All}
use Rattle.std.specs.Option.{unwrap_or}
use Rattle.std.proofs.lemmas.Bool.{cases_lt}
use Rattle.std.proofs.lemmas.List.Elements.{All-drop}
use Rattle.sloth_base.specs.Machine.{State}
use Rattle.sloth_base.specs.Arrivals.{moments, AreRisingMoments, AreArrivals}
use Rattle.sloth_base.specs.Arrive.{state_arrive}
use Rattle.sloth_base.specs.declared.image.Image.{Image}
use Rattle.sloth_base.specs.declared.service.Arrival.{Arrival}
use Rattle.sloth_base.specs.declared.numbers.Step.{Step}
use Rattle.sloth_base.specs.declared.numbers.Owners.{Owners}
use Rattle.sloth_base.specs.ImageRange.{InFormat}
use Rattle.sloth_base.specs.Owners.{owners_named, IsOwned}
use Rattle.sloth_base.specs.Limits.{task_limit, counter_limit, count_limit}
use Rattle.sloth_base.specs.MemoryMap.{line_count}
use Rattle.sloth_base.proofs.Owners.{owned_below}
use Rattle.observe.specs.Progress.{arrivals_from, arrivals_due, arrivals_behind}
use Rattle.observe.proofs.Moments.{here-from, behind-from, from-later, moments-later}
use Rattle.rv32_instr.specs.declared.encoding.Stop.{Stop}
use Rattle.rv32_instr.specs.Memory.{memory_of}
use Rattle.rv32_machine.specs.Start.{start}
use Rattle.rv32_machine.specs.Advance.{Goes, Halts, advance}
use Rattle.rv32_machine.specs.Run.{state_with_arrivals, on_goes}
use Rattle.sloth_inspect.specs.States.{running_number_in}
use Rattle.debug_view.specs.Standing.{AreLines, StandsAt}
use Rattle.debug_view.specs.States.{state_at, stop_in, stop_at, unless_stopped, end_within, end_at, began_at, open_at}

-- what doesn't fall from a moment on doesn't fall from an earlier one on
weaker : (m n : ℕ) (A : List Arrival) → n ≤ m → AreRisingMoments m A → AreRisingMoments n A
weaker m n [] le h = tt
weaker m n (a ∷ A) le h = (omega arith, h.1)

controller-lines : (owners : Owners) (A : List Arrival) → owners.tasks ≤ task_limit → owners.counters ≤ counter_limit → All (λ (a : Arrival). IsOwned owners a.line) A → AreLines A
controller-lines owners A few counters h k d l = owned_below owners _ few counters (h k d l)

front-is : {X : Type 0} (n : ℕ) (xs : List X) → take (length (take n xs)) xs ≡ take n xs
front-is zero xs = refl
front-is (suc n) [] = refl
front-is (suc n) (x ∷ xs) = ap (λ ys. x ∷ ys) (front-is n xs)

-- the arrivals of a moment are the first ones, so many as there are
pub due_front : (count : ℕ) (coming : List Arrival) → take (length (arrivals_due count coming)) coming ≡ arrivals_due count coming
due_front count coming = front-is _ coming

-- ---- the start

-- nothing arrives at the start
none-first : (A : List Arrival) (s : State) → AreRisingMoments 1 A → s ≡ state_with_arrivals A 0 s
none-first A s up = ap (λ (here : List Arrival). state_arrive (map (λ a. a.line) here) s) (sym (moments-later 1 0 (0 + 1) A up (omega arith)))

pub begins : (image : Image) (A : List Arrival) (now : State) (count : ℕ) → InFormat image → AreArrivals (owners_named image) A → now ≡ start image → count ≡ 0
    → StandsAt image A A now count None None
unfolding state_at began_at open_at
begins image A now count format in_range is none =
    let S : ℕ → Type 0 = λ k. StandsAt image A A now k None None in
    subst S (sym none) (record {
      format = format;
      in_range = in_range;
      lines = controller-lines (owners_named image) A format.few_tasks format.few_counters in_range.lines_owned;
      later = sym (from-later 1 (0 + 1) A in_range.ordered (omega arith));
      state = is ∙ none-first A (start image) in_range.ordered;
      reached = λ k below. absurd (omega arith);
      few = omega arith;
      begun = refl;
      opened = refl;
    })

-- ---- one instruction

-- the state behind it, with the arrivals of its moment
pub state-suc : (image : Image) (A : List Arrival) (k : ℕ) (step : Step) (after : State) → advance k (state_at image A k) ≡ Goes step after
    → state_at image A (suc k) ≡ state_with_arrivals A (k + 1) after
unfolding state_at
state-suc image A k step after goes = ap (λ o. on_goes o (state_at image A k) (λ step after. state_with_arrivals A (k + 1) after)) goes

reached-more : (image : Image) (A : List Arrival) (k : ℕ) → ((j : ℕ) → j < k → stop_at image A j ≡ None) → stop_at image A k ≡ None
    → (j : ℕ) → j < suc k → stop_at image A j ≡ None
reached-more image A k before here j below =
    ⊎_elim (λ (l : j < k). before j l) (λ (le : k ≤ j). let e : k ≡ j = omega arith in ap (stop_at image A) (sym e) ∙ here) (cases_lt j k)

pub goes_on : (image : Image) (A coming next : List Arrival) (now moved after : State) (k n : ℕ) (began open_count : Option ℕ) (step : Step)
    → StandsAt image A coming now k began open_count → k < count_limit → advance k now ≡ Goes step moved → n ≡ k + 1
    → after ≡ state_arrive (map (λ a. a.line) (arrivals_due n coming)) moved → next ≡ arrivals_behind n coming
    → StandsAt image A next after n (if after.core.mie then None else Some (unwrap_or began (running_number_in (memory_of now.core))))
    (if after.core.mie then Some n else open_count)
unfolding began_at open_at
goes_on image A coming next now moved after k n began open_count step stands few goes one arrived behind =
    let up = weaker 1 0 A (omega arith) stands.in_range.ordered in
    let at : advance k (state_at image A k) ≡ Goes step moved = ap (advance k) (sym stands.state) ∙ goes in
    let due : arrivals_due (k + 1) coming ≡ moments (k + 1) (k + 1 + 1) A = ap (arrivals_due (k + 1)) stands.later ∙ here-from 0 (k + 1) A up in
    let is : after ≡ state_at image A (suc k) =
    arrived ∙ ap (λ m. state_arrive (map (λ (a : Arrival). a.line) (arrivals_due m coming)) moved) one
    ∙ ap (λ (here : List Arrival). state_arrive (map (λ a. a.line) here) moved) due ∙ sym (state-suc image A k step moved at) in
    let still : next ≡ arrivals_from (suc k + 1) A =
    behind ∙ ap (λ m. arrivals_behind m coming) one ∙ ap (arrivals_behind (k + 1)) stands.later ∙ behind-from 0 (k + 1) A up
    ∙ ap (λ m. arrivals_from m A) (omega arith) in
    let here : n ≡ suc k = one ∙ (omega arith) in
    let L : List Arrival → Type 0 = AreLines in
    let R : ℕ → Type 0 = λ m. StandsAt image A next after m (if after.core.mie then None else Some (unwrap_or began (running_number_in (memory_of now.core)))) (if after.core.mie then Some m else open_count) in
    subst R (sym here) (record {
      format = stands.format;
      in_range = stands.in_range;
      lines = subst L (sym behind) (All-drop (λ (a : Arrival). a.line < line_count) (length (arrivals_due n coming)) coming stands.lines);
      later = still;
      state = is;
      reached = reached-more image A k stands.reached (ap stop_in at);
      few = omega arith;
      begun = ap (λ (s : State). if s.core.mie then None else Some (unwrap_or began (running_number_in (memory_of now.core)))) is
          ∙ ap (λ (s : State). if (state_at image A (suc k)).core.mie then None else Some (unwrap_or began (running_number_in (memory_of s.core)))) stands.state
          ∙ ap (λ b. if (state_at image A (suc k)).core.mie then None else Some (unwrap_or b (running_number_in (memory_of (state_at image A k).core)))) stands.begun;
      opened = ap (λ (s : State). if s.core.mie then Some (suc k) else open_count) is
          ∙ ap (λ o. if (state_at image A (suc k)).core.mie then Some (suc k) else o) stands.opened;
    })

-- ---- the end

-- behind counts that stop nothing the end is that of the rest
end-behind : (image : Image) (A : List Arrival) (k n from : ℕ) → ((j : ℕ) → from ≤ j → j < k + from → stop_at image A j ≡ None)
    → end_within image A (k + n) from ≡ end_within image A n (k + from)
unfolding end_within
end-behind image A zero n from going =
    let rest : 0 + n ≡ n = omega arith in
    let here : 0 + from ≡ from = omega arith in
    ap (λ m. end_within image A m from) rest ∙ ap (end_within image A n) (sym here)
end-behind image A (suc k) n from going =
    let one : k + (from + 1) ≡ suc k + from = omega arith in
    let more : suc k + n ≡ suc (k + n) = omega arith in
    ap (λ m. end_within image A m from) more
    ∙ ap (λ s. unless_stopped s from (end_within image A (k + n) (from + 1))) (going from (omega arith) (omega arith))
    ∙ end-behind image A k n (from + 1) (λ j le lt. going j (omega arith) (omega arith))
    ∙ ap (end_within image A n) one

above-by : (from next : ℕ) (s : Option Stop) → from + 1 ≤ next → from ≤ unless_stopped s from next
above-by from next None h = omega (arith, h)
above-by from next (Some stop) h = omega arith

-- the end lies no lower than the count from which it is sought
end-above : (image : Image) (A : List Arrival) (n from : ℕ) → from ≤ end_within image A n from
unfolding end_within
end-above image A zero from = omega arith
end-above image A (suc n) from = above-by from (end_within image A n (from + 1)) (stop_at image A from) (end-above image A n (from + 1))

-- the end is that of the counts from a reached one on
end-from : (image : Image) (A : List Arrival) (k rest : ℕ) → ((j : ℕ) → j < k → stop_at image A j ≡ None) → k + rest ≡ count_limit
    → end_at image A ≡ end_within image A rest k
end-from image A k rest going all =
    let zero-more : k + 0 ≡ k = omega arith in
    ap (λ m. end_within image A m 0) (sym all) ∙ end-behind image A k rest 0 (λ j le lt. going j (omega arith)) ∙ ap (end_within image A rest) zero-more

-- a count that stops the machine is the end
pub ends_here : (image : Image) (A : List Arrival) (k : ℕ) (stop : Stop) → ((j : ℕ) → j < k → stop_at image A j ≡ None) → k < count_limit
    → stop_at image A k ≡ Some stop → end_at image A ≡ k
unfolding end_within
ends_here image A k stop going few here =
    end-from image A k (suc (count_limit - suc k)) going (omega arith)
    ∙ ap (λ s. unless_stopped s k (end_within image A (count_limit - suc k) (k + 1))) here

-- so is the last one
pub ends_last : (image : Image) (A : List Arrival) (k : ℕ) → ((j : ℕ) → j < k → stop_at image A j ≡ None) → k ≡ count_limit → end_at image A ≡ k
unfolding end_within
ends_last image A k going all = end-from image A k 0 going (omega arith)

before-by : (k end rest : ℕ) → end ≡ rest → k + 1 ≤ rest → k < end
before-by k end rest e above = omega (arith, e, above)

-- one that goes on lies before the end
pub goes_before : (image : Image) (A : List Arrival) (k : ℕ) → ((j : ℕ) → j < k → stop_at image A j ≡ None) → k < count_limit
    → stop_at image A k ≡ None → k < end_at image A
unfolding end_within
goes_before image A k going few here =
    let e = end-from image A k (suc (count_limit - suc k)) going (omega arith)
    ∙ ap (λ s. unless_stopped s k (end_within image A (count_limit - suc k) (k + 1))) here in
    before-by k (end_at image A) (end_within image A (count_limit - suc k) (k + 1)) e (end-above image A (count_limit - suc k) (k + 1))

-- ---- where it stands

pub inside_run : (image : Image) (A coming : List Arrival) (now moved : State) (k : ℕ) (began open_count : Option ℕ) (step : Step)
    → StandsAt image A coming now k began open_count → k < count_limit → advance k now ≡ Goes step moved → k < end_at image A
inside_run image A coming now moved k began open_count step stands few goes =
    goes_before image A k stands.reached few (ap stop_in (ap (advance k) (sym stands.state) ∙ goes))

pub halted_here : (image : Image) (A coming : List Arrival) (now : State) (k : ℕ) (began open_count : Option ℕ) (stop : Stop)
    → StandsAt image A coming now k began open_count → k < count_limit → advance k now ≡ Halts stop → k ≡ end_at image A
halted_here image A coming now k began open_count stop stands few halts =
    sym (ends_here image A k stop stands.reached few (ap stop_in (ap (advance k) (sym stands.state) ∙ halts)))

pub last_here : (image : Image) (A coming : List Arrival) (now : State) (k : ℕ) (began open_count : Option ℕ)
    → StandsAt image A coming now k began open_count → count_limit ≤ k → k ≡ end_at image A
last_here image A coming now k began open_count stands all =
    let few = stands.few in
    sym (ends_last image A k stands.reached (omega (arith, few, all)))

-- ---- the limit

below-by : (from next limit : ℕ) (s : Option Stop) → from ≤ limit → next ≤ limit → unless_stopped s from next ≤ limit
below-by from next limit None here rest = rest
below-by from next limit (Some stop) here rest = here

end-below : (image : Image) (A : List Arrival) (n from : ℕ) → end_within image A n from ≤ n + from
unfolding end_within
end-below image A zero from = omega arith
end-below image A (suc n) from =
    let rest : end_within image A n (from + 1) ≤ n + (from + 1) = end-below image A n (from + 1) in
    below-by from (end_within image A n (from + 1)) (suc n + from) (stop_at image A from) (omega arith) (omega (arith, rest))

-- a run ends at the last count at the latest
pub ends_in_limit : (image : Image) (A : List Arrival) → end_at image A ≤ count_limit
ends_in_limit image A =
    let below : end_within image A count_limit 0 ≤ count_limit + 0 = end-below image A count_limit 0 in
    omega (arith, below)
