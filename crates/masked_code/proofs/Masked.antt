-- Stretches, put together.
use Rattle.std.proofs.Common.{◌≡◌, ℕ, zero, suc, ◌≤◌, List, [], ◌∷◌, refl, arith, inl, inr}
use Rattle.std.specs.Prelude.{false}
use Rattle.sloth_base.specs.Machine.{State}
use Rattle.sloth_base.specs.Arrive.{state_arrive}
use Rattle.rv32_instr.specs.Execute.{Next, Going, Stopped, step, touched}
use Rattle.masked_code.specs.Trace.{Trace}
use Rattle.masked_code.specs.Masked.{OnGoing, Masked, Steps}

-- a stretch may end where it begins
pub masked_here : (n : ℕ) (state : State) (P : Trace → State → Type 0) → P [] state → Masked n state P
unfolding Masked
masked_here zero state P h = h
masked_here (suc n) state P h = inl h

-- or behind one step more, whatever lines arrive before it
pub masked_step : (n : ℕ) (state : State) (P : Trace → State → Type 0) → state.core.mie ≡ false → ((lines : List ℕ) → OnGoing (step (state_arrive lines state)) (λ next. Masked n next (λ trace end. P ((lines, touched (state_arrive lines state)) ∷ trace) end))) → Masked (suc n) state P
unfolding Masked
masked_step n state P z h = inr (z, h)

pub ongoing_map : (x : Next) (P R : State → Type 0) → ((state : State) → P state → R state) → OnGoing x P → OnGoing x R
ongoing_map (Going next) P R f h = f next h
ongoing_map (Stopped why) P R f h = h

-- what holds at the end of a stretch may be weakened
pub masked_map : (n : ℕ) (state : State) (P Q : Trace → State → Type 0) → ((trace : Trace) (end : State) → P trace end → Q trace end) → Masked n state P → Masked n state Q
unfolding Masked
masked_map zero state P Q f h = f [] state h
masked_map (suc n) state P Q f (inl h) = inl (f [] state h)
masked_map (suc n) state P Q f (inr h) = inr (h.0, λ lines. ongoing_map (step (state_arrive lines state)) _ _ (λ next k. masked_map n next _ _ (λ trace end. f ((lines, touched (state_arrive lines state)) ∷ trace) end) k) (h.1 lines))

-- a stretch of few steps is one of at most so many more
pub masked_more : (n k : ℕ) (state : State) (P : Trace → State → Type 0) → n ≤ k → Masked n state P → Masked k state P
unfolding Masked
masked_more zero k state P le h = masked_here k state P h
masked_more (suc n) zero state P le h = absurd (omega arith)
masked_more (suc n) (suc k) state P le (inl h) = inl h
masked_more (suc n) (suc k) state P le (inr h) = inr (h.0, λ lines. ongoing_map (step (state_arrive lines state)) _ _ (λ next x. masked_more n k next _ (omega arith) x) (h.1 lines))

going : (x : Next) (P : State → Type 0) → OnGoing x P → (next : State) × (x ≡ Going next) × P next
going (Going next) P h = (next, refl, h)
going (Stopped why) P h = absurd h

-- a masked stretch gives the steps of a run, for any schedule of arrivals
pub masked_run : (n count : ℕ) (arrivals : ℕ → List ℕ) (state : State) (P : Trace → State → Type 0) → Masked n state P → (j : ℕ) × (j ≤ n) × (trace : Trace) × (end : State) × Steps j count arrivals state trace end × P trace end
unfolding Masked
masked_run zero count arrivals state P h = (0, omega arith, [], state, (refl, refl), h)
masked_run (suc n) count arrivals state P (inl h) = (0, omega arith, [], state, (refl, refl), h)
masked_run (suc n) count arrivals state P (inr h) =
    let g = going (step (state_arrive (arrivals count) state)) _ (h.1 (arrivals count)) in
    let r = masked_run n (suc count) arrivals g.0 _ g.2 in
    (suc r.0, omega (arith, r.1), (arrivals count, touched (state_arrive (arrivals count) state)) ∷ r.2, r.3, (h.0, g.0, g.1, (r.2, refl, r.4)), r.5)
