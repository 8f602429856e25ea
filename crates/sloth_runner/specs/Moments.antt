-- What a runner does with its machine and its observer at a moment of a run.
use Rattle.std.specs.Prelude.{ℕ, ◌+◌, ◌<◌, List, All, [], ◌∷◌, ◌++◌, slice_index, slice_set}
use Rattle.sloth_base.specs.Machine.{State}
use Rattle.sloth_base.specs.declared.service.Arrival.{Arrival}
use Rattle.sloth_base.specs.declared.service.Stamped.{Stamped}
use Rattle.sloth_base.specs.declared.numbers.Step.{Step}
use Rattle.sloth_base.specs.MemoryMap.{line_count}
use Rattle.rv32_machine.specs.State.{state}
use Rattle.rv32_machine.specs.declared.machine.Machine.{Machine}
use Rattle.machine_memory.specs.declared.sloth.SlothBus.{SlothBus}
use Rattle.observe.specs.Progress.{HasProgress, remaining}
use Rattle.observe.specs.declared.observing.Observer.{Observer}
use Rattle.trace_text.specs.EventWords.{kind_of}

-- the state of a machine
abbrev pub sloth_state : Machine SlothBus → State
sloth_state machine = state (λ bus. bus) machine

-- each line is one of the controller's 32
abbrev pub AreLines : List Arrival → Type 0
AreLines arrivals = All (λ arrival. arrival.line < line_count) arrivals

-- ---- finished events

-- all finished events were handed out
abbrev pub IsHandedOut : Observer → Observer → Type 0
IsHandedOut old new = (steps : List Step) (events : List Stamped) → HasProgress old steps events → HasProgress new steps (events ++ remaining old)

-- these numbers of events of each kind, with one event more
abbrev pub counts_with_one : List ℕ → Stamped → List ℕ
counts_with_one counts e = slice_set counts (kind_of e.event) (slice_index counts (kind_of e.event) + 1)

-- with all of these events more
abbrev pub counts_with : List ℕ → List Stamped → List ℕ
counts_with counts [] = counts
counts_with counts (e ∷ rest) = counts_with (counts_with_one counts e) rest
