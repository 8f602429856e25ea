-- A run of the machine. Before the instruction of each count come the arrivals of that moment, and at most one line is
-- taken; a run ends early where an instruction stops, and then shows what a run of the instructions before it shows.
use Rattle.std.specs.Prelude.{ℕ, zero, suc, ◌+◌, List, [], ◌∷◌, map, Option, Some, None}
use Rattle.sloth_base.specs.declared.service.Arrival.{Arrival}
use Rattle.sloth_base.specs.declared.numbers.Step.{Step}
use Rattle.sloth_base.specs.Machine.{State}
use Rattle.sloth_base.specs.Arrivals.{moments}
use Rattle.sloth_base.specs.Arrive.{state_arrive}
use Rattle.sloth_base.specs.Take.{execution_state}
use Rattle.rv32_instr.specs.declared.encoding.Stop.{Stop}
use Rattle.rv32_machine.specs.Advance.{StepOutcome, Goes, Halts, advance}

-- the state with the arrivals of a moment
abbrev pub state_with_arrivals : List Arrival → ℕ → State → State
state_with_arrivals arrivals count state = state_arrive (map (λ a. a.line) (moments count (count + 1) arrivals)) state

-- what the instruction of a count does
abbrev pub moment : List Arrival → ℕ → State → StepOutcome
moment arrivals count state = advance count (state_with_arrivals arrivals count state)

-- what follows an instruction, or what stands where it stops
abbrev pub on_goes : {X : Type 0} → StepOutcome → X → (Step → State → X) → X
on_goes (Goes step after) halted next = next step after
on_goes (Halts stop) halted next = halted

-- a count of a run: the state with that moment's arrivals, the state after at most one line was taken, the state after
-- the instruction, and what is seen of it
pub record Moment : Type 0 where
  pub arrived_state : State
  pub entered_state : State
  pub after : State
  pub step : Step

-- that of a step
abbrev pub moment_of : List Arrival → ℕ → State → Step → State → Moment
moment_of arrivals count state step after = record {
  arrived_state = state_with_arrivals arrivals count state;
  entered_state = execution_state (state_with_arrivals arrivals count state);
  after = after;
  step = step;
}

-- a run of at most n instructions from a count on, in a state
unfoldable pub run_from : ℕ → List Arrival → ℕ → State → List Moment
run_from zero arrivals count state = []
run_from (suc n) arrivals count state =
    on_goes (moment arrivals count state) [] (λ step after. moment_of arrivals count state step after ∷ run_from n arrivals (count + 1) after)

-- the moments of the first `n` instructions
abbrev pub run : ℕ → List Arrival → State → List Moment
run n arrivals start = run_from n arrivals 0 start

-- what is seen of them
abbrev pub steps_of : List Moment → List Step
steps_of moments = map (λ m. m.step) moments

-- the state after n instructions, where none of them stops
unfoldable pub state_after_from : ℕ → List Arrival → ℕ → State → Option State
state_after_from zero arrivals count state = Some state
state_after_from (suc n) arrivals count state =
    on_goes (moment arrivals count state) None (λ step after. state_after_from n arrivals (count + 1) after)

-- the state after `n` instructions, where each could be executed
abbrev pub state_after : ℕ → List Arrival → State → Option State
state_after n arrivals start = state_after_from n arrivals 0 start

-- an instruction that stops: its address, which is a vector where a line was taken before it, and why
pub record Stopping : Type 0 where
  pub pc : ℕ
  pub stop : Stop

-- where and why the machine stops, if it does
abbrev pub stopping : State → StepOutcome → Option Stopping
stopping state (Goes step after) = None
stopping state (Halts stop) = Some (record { pc = (execution_state state).pc; stop = stop })

-- the one of n instructions that stops, if one does
unfoldable pub stop_from : ℕ → List Arrival → ℕ → State → Option Stopping
stop_from zero arrivals count state = None
stop_from (suc n) arrivals count state =
    on_goes (moment arrivals count state) (stopping (state_with_arrivals arrivals count state) (moment arrivals count state))
    (λ step after. stop_from n arrivals (count + 1) after)

-- where and why one of the first `n` instructions stops the machine, if one does
abbrev pub stop_of : ℕ → List Arrival → State → Option Stopping
stop_of n arrivals start = stop_from n arrivals 0 start
