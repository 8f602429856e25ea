-- Runs of the machine, joined.
use Rattle.std.proofs.Common.{◌≡◌, ℕ, zero, suc, ◌+◌, ◌≤◌, List, [], ◌∷◌, ◌++◌, take, refl, sym, ap, ◌∙◌, arith, Some, None}
use Rattle.sloth_base.specs.declared.service.Arrival.{Arrival}
use Rattle.sloth_base.specs.declared.numbers.Step.{Step}
use Rattle.sloth_base.specs.Machine.{State}
use Rattle.rv32_machine.specs.Advance.{Goes}
use Rattle.rv32_machine.specs.Run.{moment, moment_of, on_goes, run_from, state_after_from, steps_of}
use Rattle.sim_induction.specs.Advances.{RunTo}

-- what is seen of the run of n instructions from a count on
abbrev pub steps_from : ℕ → List Arrival → ℕ → State → List Step
steps_from n arrivals count state = steps_of (run_from n arrivals count state)

pub one_step : (n k : ℕ) (arrivals : List Arrival) (m x : State) (s : Step) → moment arrivals k m ≡ Goes s x → steps_from (suc n) arrivals k m ≡ s ∷ steps_from n arrivals (k + 1) x
unfolding run_from
one_step n k arrivals m x s h = ap steps_of (ap (λ o. on_goes o [] (λ s y. moment_of arrivals k m s y ∷ run_from n arrivals (k + 1) y)) h)

pub one_after : (n k : ℕ) (arrivals : List Arrival) (m x : State) (s : Step) → moment arrivals k m ≡ Goes s x → state_after_from (suc n) arrivals k m ≡ state_after_from n arrivals (k + 1) x
unfolding state_after_from
one_after n k arrivals m x s h = ap (λ o. on_goes o None (λ s y. state_after_from n arrivals (k + 1) y)) h

pub run_steps : (j n k : ℕ) (arrivals : List Arrival) (m : State) (ss : List Step) (x : State) → RunTo arrivals j k m ss x → steps_from (j + n) arrivals k m ≡ ss ++ steps_from n arrivals (k + j) x
run_steps zero n k arrivals m ss x h =
    let a : 0 + n ≡ n = omega arith in
    let b : k + 0 ≡ k = omega arith in
    ap (λ i. steps_from i arrivals k m) a ∙ ap (λ i. steps_from n arrivals i m) (sym b) ∙ ap (steps_from n arrivals (k + 0)) (sym h.1) ∙ ap (λ u. u ++ steps_from n arrivals (k + 0) x) (sym h.0)
run_steps (suc j) n k arrivals m ss x h =
    let a : suc j + n ≡ suc (j + n) = omega arith in
    let b : k + 1 + j ≡ k + suc j = omega arith in
    let r = h.3 in
    ap (λ i. steps_from i arrivals k m) a
    ∙ one_step (j + n) k arrivals m h.1 h.0 h.2
    ∙ ap (λ u. h.0 ∷ u) (run_steps j n (k + 1) arrivals h.1 r.0 x r.2 ∙ ap (λ i. r.0 ++ steps_from n arrivals i x) b)
    ∙ ap (λ u. u ++ steps_from n arrivals (k + suc j) x) (sym r.1)

pub run_take : (j n k : ℕ) (arrivals : List Arrival) (m : State) (ss : List Step) (x : State) → RunTo arrivals j k m ss x → n ≤ j → steps_from n arrivals k m ≡ take n ss
unfolding run_from
run_take j zero k arrivals m ss x h l = refl
run_take zero (suc n) k arrivals m ss x h l = absurd (omega arith)
run_take (suc j) (suc n) k arrivals m ss x h l =
    let r = h.3 in
    one_step n k arrivals m h.1 h.0 h.2
    ∙ ap (λ u. h.0 ∷ u) (run_take j n (k + 1) arrivals h.1 r.0 x r.2 (omega arith))
    ∙ ap (take (suc n)) (sym r.1)

pub after_steps : (j i k : ℕ) (arrivals : List Arrival) (m : State) (ss : List Step) (x : State) → RunTo arrivals j k m ss x → state_after_from (j + i) arrivals k m ≡ state_after_from i arrivals (k + j) x
after_steps zero i k arrivals m ss x h =
    let a : 0 + i ≡ i = omega arith in
    let b : k + 0 ≡ k = omega arith in
    ap (λ n. state_after_from n arrivals k m) a ∙ ap (λ n. state_after_from i arrivals n m) (sym b) ∙ ap (state_after_from i arrivals (k + 0)) (sym h.1)
after_steps (suc j) i k arrivals m ss x h =
    let a : suc j + i ≡ suc (j + i) = omega arith in
    let b : k + 1 + j ≡ k + suc j = omega arith in
    let r = h.3 in
    ap (λ n. state_after_from n arrivals k m) a
    ∙ one_after (j + i) k arrivals m h.1 h.0 h.2
    ∙ after_steps j i (k + 1) arrivals h.1 r.0 x r.2 ∙ ap (λ n. state_after_from i arrivals n x) b

-- no instruction of them stops
pub goes_through : (j n k : ℕ) (arrivals : List Arrival) (m : State) (ss : List Step) (x : State) → RunTo arrivals j k m ss x → n ≤ j → (y : State) × (state_after_from n arrivals k m ≡ Some y)
unfolding state_after_from
goes_through j zero k arrivals m ss x h l = (m, refl)
goes_through zero (suc n) k arrivals m ss x h l = absurd (omega arith)
goes_through (suc j) (suc n) k arrivals m ss x h l =
    let q = goes_through j n (k + 1) arrivals h.1 h.3.0 x h.3.2 (omega arith) in
    (q.0, one_after n k arrivals m h.1 h.0 h.2 ∙ q.1)
