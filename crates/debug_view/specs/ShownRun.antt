-- A run of an image, as it is shown.
use Rattle.std.specs.Prelude.{ℕ, List, length, Option}
use Rattle.std.specs.Option.{option_map}
use Rattle.sloth_base.specs.declared.service.Arrival.{Arrival}
use Rattle.sloth_base.specs.declared.image.Image.{Image}
use Rattle.sloth_base.specs.Take.{execution_state}
use Rattle.rv32_instr.specs.Memory.{memory_of}
use Rattle.rv32_machine.specs.Run.{Stopping}
use Rattle.sloth_inspect.specs.States.{states_in}
use Rattle.trace_text.specs.declared.events.Form.TheVariants as form
use Rattle.sloth_runner.specs.Runner.{run_text}
use Rattle.debug_ways.specs.Runs.{Run}
use Rattle.debug_view.specs.States.{state_at, stop_at, stop_within, end_at, end_stop, began_at, open_at}
use Rattle.debug_view.specs.Looks.{machine_look}
use Rattle.debug_view.specs.Registers.{thread_register, shown_byte}

abbrev pub run_of : Image → List Arrival → Run
run_of image arrivals = record {
  end = end_at image arrivals;
  stop = end_stop image arrivals;
  look = λ count. machine_look (length image.tasks) (began_at image arrivals count) (open_at image arrivals count) (state_at image arrivals count);
  states = λ count. states_in (memory_of (state_at image arrivals count).core) (length image.tasks);
  register = λ count thread number. thread_register (length image.tasks) (began_at image arrivals count) (state_at image arrivals count) thread number;
  byte = λ count address. shown_byte (state_at image arrivals count) address;
  trace = λ counts. run_text image arrivals form.Counted counts;
}

-- where and why a run that ends at a count is stopped there, if that is before a limit
abbrev pub shown_stop : Image → List Arrival → (limit end : ℕ) → Option Stopping
shown_stop image arrivals limit end =
    option_map (λ stop. record { pc = (execution_state (state_at image arrivals end)).pc; stop = stop }) (stop_within limit end (stop_at image arrivals end))
