-- Stretches: code that runs with MIE 0, whatever lines arrive before each of its instructions.
use Rattle.std.specs.Prelude.{ℕ, zero, suc, ◌≡◌, ◌⊎◌, false, List, [], ◌∷◌}
use Rattle.sloth_base.specs.Machine.{State}
use Rattle.sloth_base.specs.Arrive.{state_arrive}
use Rattle.rv32_instr.specs.Execute.{Next, Going, Stopped, step, touched}
use Rattle.masked_code.specs.Trace.{Trace, touched_lines, early_arrivals, late_arrivals}

-- the instruction doesn't stop the machine, and leaves such a state
abbrev pub OnGoing : Next → (State → Type 0) → Type 0
OnGoing (Going next) P = P next
OnGoing (Stopped why) P = ⊥

-- With any arrivals before each instruction, at most n instructions, each begun with MIE 0 and none of which stops,
-- lead to such a trace and state.
unfoldable pub Masked : ℕ → State → (Trace → State → Type 0) → Type 0
Masked zero state P = P [] state
Masked (suc n) state P =
    P [] state
    ⊎ (state.core.mie ≡ false)
    × ((lines : List ℕ)
    → OnGoing (step (state_arrive lines state)) (λ next. Masked n next (λ trace end. P ((lines, touched (state_arrive lines state)) ∷ trace) end)))

-- What a stretch does, said without arrivals: the lines that it touches, the state at its start and the one at its end.
-- The effect holds from the start with the early arrivals, and the late ones come after it.
abbrev pub WithArrivals : (List ℕ → State → State → Type 0) → State → Trace → State → Type 0
WithArrivals Effect start trace end =
    (last : State) × Effect (touched_lines trace) (state_arrive (early_arrivals trace) start) last × (end ≡ state_arrive (late_arrivals trace) last)

-- From a state in which MIE may be 1, one instruction leads into a stretch of at most `most` more, with this effect.
abbrev pub FromOpening : ℕ → State → (List ℕ → State → State → Type 0) → Type 0
FromOpening most start Effect = OnGoing (step start) (λ first. (first.core.mie ≡ false) × Masked most first (WithArrivals Effect start))

-- ---- a run under a schedule of arrivals

-- j instructions from the one of this count on, each begun with MIE 0 and with the arrivals of its count
abbrev pub Steps : ℕ → ℕ → (ℕ → List ℕ) → State → Trace → State → Type 0
Steps zero count arrivals state trace end = (trace ≡ []) × (end ≡ state)
Steps (suc j) count arrivals state trace end =
    (state.core.mie ≡ false)
    × (next : State) × (step (state_arrive (arrivals count) state) ≡ Going next)
    × ((rest : Trace) × (trace ≡ (arrivals count, touched (state_arrive (arrivals count) state)) ∷ rest) × Steps j (suc count) arrivals next rest end)
