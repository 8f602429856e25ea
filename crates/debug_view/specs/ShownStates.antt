-- What a run shows last of its tasks.
use Rattle.std.specs.Prelude.{ℕ, List, Option}
use Rattle.std.specs.Option.{option_map}
use Rattle.sloth_base.specs.declared.service.Arrival.{Arrival}
use Rattle.sloth_base.specs.declared.image.Image.{Image}
use Rattle.rv32_instr.specs.Memory.{memory_of}
use Rattle.sloth_inspect.specs.States.{running_number_in}
use Rattle.sloth_runner.specs.declared.task_states.Seen.{Seen}
use Rattle.debug_view.specs.ShownRun.{run_of}
use Rattle.debug_view.specs.States.{state_at}

-- the states that are shown of a count, and the running task there
abbrev pub seen_at : Image → List Arrival → ℕ → Seen
seen_at image arrivals count = record {
  count = count;
  tasks = (run_of image arrivals).states count;
  running = running_number_in (memory_of (state_at image arrivals count).core);
}

-- the same of the last count that finds interrupts open, if one does
abbrev pub shown_seen : Image → List Arrival → Option ℕ → Option Seen
shown_seen image arrivals open_count = option_map (seen_at image arrivals) open_count
