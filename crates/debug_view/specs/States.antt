-- The state of a run at each of its counts.
use Rattle.std.specs.Prelude.{ℕ, zero, suc, ◌+◌, nat_lt, Option, None, Some, List, if◌then◌else◌}
use Rattle.std.specs.Option.{unwrap_or}
use Rattle.sloth_base.specs.declared.service.Arrival.{Arrival}
use Rattle.sloth_base.specs.declared.image.Image.{Image}
use Rattle.sloth_base.specs.Machine.{State}
use Rattle.sloth_base.specs.Limits.{count_limit}
use Rattle.rv32_instr.specs.declared.encoding.Stop.{Stop}
use Rattle.rv32_instr.specs.Memory.{memory_of}
use Rattle.rv32_machine.specs.Start.{start}
use Rattle.rv32_machine.specs.Advance.{StepOutcome, Goes, Halts, advance}
use Rattle.rv32_machine.specs.Run.{state_with_arrivals, on_goes}
use Rattle.sloth_inspect.specs.States.{running_number_in}

-- the state behind so many instructions, with the arrivals of its moment; behind one that stops the machine it stays
unfoldable pub state_at : Image → List Arrival → ℕ → State
state_at image arrivals zero = state_with_arrivals arrivals 0 (start image)
state_at image arrivals (suc k) =
    on_goes (advance k (state_at image arrivals k)) (state_at image arrivals k) (λ step after. state_with_arrivals arrivals (k + 1) after)

-- why an instruction stops the machine, if it does
abbrev pub stop_in : StepOutcome → Option Stop
stop_in (Goes step after) = None
stop_in (Halts stop) = Some stop

-- that of a count
abbrev pub stop_at : Image → List Arrival → ℕ → Option Stop
stop_at image arrivals count = stop_in (advance count (state_at image arrivals count))

-- a count more, unless the instruction of this one stops the machine
abbrev pub unless_stopped : Option Stop → (here : ℕ) → ℕ → ℕ
unless_stopped None here next = next
unless_stopped (Some stop) here next = here

-- the first of n counts from one on whose instruction stops the machine, or the count behind them
unfoldable pub end_within : Image → List Arrival → (n from : ℕ) → ℕ
end_within image arrivals zero from = from
end_within image arrivals (suc n) from = unless_stopped (stop_at image arrivals from) from (end_within image arrivals n (from + 1))

-- the last count of a run: of the first instruction that stops it, 1,000,000 at most
abbrev pub end_at : Image → List Arrival → ℕ
end_at image arrivals = end_within image arrivals count_limit 0

-- why it ends, where an instruction stops it before so many
abbrev pub stop_within : (limit count : ℕ) → Option Stop → Option Stop
stop_within limit count stop = if nat_lt count limit then stop else None

abbrev pub end_stop : Image → List Arrival → Option Stop
end_stop image arrivals = stop_within count_limit (end_at image arrivals) (stop_at image arrivals (end_at image arrivals))

-- where a count is in a stretch that began before it: the number of the running task that stood in memory where it began
unfoldable pub began_at : Image → List Arrival → ℕ → Option ℕ
began_at image arrivals zero = None
began_at image arrivals (suc k) =
    if (state_at image arrivals (suc k)).core.mie then None
    else Some (unwrap_or (began_at image arrivals k) (running_number_in (memory_of (state_at image arrivals k).core)))

-- the last count up to this one that finds MIE 1
unfoldable pub open_at : Image → List Arrival → ℕ → Option ℕ
open_at image arrivals zero = if (state_at image arrivals zero).core.mie then Some 0 else None
open_at image arrivals (suc k) = if (state_at image arrivals (suc k)).core.mie then Some (suc k) else open_at image arrivals k
