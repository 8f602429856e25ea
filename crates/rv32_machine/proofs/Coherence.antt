-- The steps of a run hang together: their counts follow one another, and each finds MIE as the one before left it.
use Rattle.std.proofs.Common.{◌≡◌, ◌+◌, ℕ, zero, suc, List, [], ◌∷◌, refl, sym, ◌∙◌, ap, subst}
use Rattle.sloth_base.specs.declared.service.Arrival.{Arrival}
use Rattle.sloth_base.specs.declared.numbers.Step.{Step}
use Rattle.sloth_base.specs.Machine.{State}
use Rattle.rv32_instr.specs.Execute.{Next, Going, Stopped, step}
use Rattle.sloth_base.specs.Take.{execution_state}
use Rattle.rv32_machine.specs.Advance.{StepOutcome, Goes, Halts, advance, outcome, observed_step}
use Rattle.rv32_machine.specs.Run.{Moment, state_with_arrivals, moment, on_goes, moment_of, run_from, steps_of}
use Rattle.rv32_machine.specs.Coherent.{AreCoherent}

-- what is seen of a step that goes on
seen-of
    : (count : ℕ) (before : State) (next : Next) (s : Step) (after : State) → outcome count before next ≡ Goes s after
    → s ≡ observed_step count before after
seen-of count before (Going m) s after h = let e : m ≡ after = cc in let f : observed_step count before m ≡ s = cc in sym f ∙ ap (observed_step count before) e
seen-of count before (Stopped e) s after h = cc

pub step_seen
    : (count : ℕ) (before : State) (s : Step) (after : State) → advance count before ≡ Goes s after → s ≡ observed_step count before after
unfolding advance
step_seen count before s after h = seen-of count before (step (execution_state before)) s after h

coherent-go
    : (arrivals : List Arrival) (count : ℕ) (state : State) (o : StepOutcome) (rest : State → List Moment)
    → moment arrivals count state ≡ o
    → ((t : State) → AreCoherent (count + 1) t.core.mie (steps_of (rest t)))
    → AreCoherent count state.core.mie (steps_of (on_goes o [] (λ s t. moment_of arrivals count state s t ∷ rest t)))
coherent-go arrivals count state (Halts e) rest h k = tt
coherent-go arrivals count state (Goes s t) rest h k =
    let f = step_seen count (state_with_arrivals arrivals count state) s t h in
    (ap (λ x. x.count) f, ap (λ x. x.enabled_before) f, subst (λ b. AreCoherent (count + 1) b (steps_of (rest t))) (sym (ap (λ x. x.enabled_after) f)) (k t))

pub coherent
    : (n : ℕ) (arrivals : List Arrival) (count : ℕ) (state : State)
    → AreCoherent count state.core.mie (steps_of (run_from n arrivals count state))
unfolding run_from
coherent zero arrivals count state = tt
coherent (suc n) arrivals count state =
    coherent-go arrivals count state (moment arrivals count state) (λ t. run_from n arrivals (count + 1) t) refl
    (λ t. coherent n arrivals (count + 1) t)
