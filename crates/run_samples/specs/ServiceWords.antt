-- What the service words of a run say at a count.
use Rattle.std.specs.Prelude.{ℕ, ◌≡◌, ◌≤◌, List, [], Option, Some, None}
use Rattle.sloth_base.specs.declared.service.Arrival.{Arrival}
use Rattle.sloth_base.specs.declared.image.Image.{Image}
use Rattle.sloth_base.specs.Machine.{State}
use Rattle.rv32_machine.specs.Start.{start}
use Rattle.rv32_machine.specs.Run.{state_after}
use Rattle.sloth_inspect.specs.ServiceWords.{service_words_in}
use Rattle.sloth_inspect.specs.declared.service_words.ServiceWords.{ServiceWords}
use Rattle.sloth_runner.specs.Runner.{run_end}
use Rattle.sloth_runner.specs.declared.runner.Halt.{Halt}
use Rattle.sloth_runner.specs.declared.runner.RunEnd.TheVariants as ends
use Rattle.run_samples.specs.declared.samples.WordsRead.{WordsRead}
use Rattle.run_samples.specs.declared.samples.WordsRead.TheVariants as read

-- those of a state that a run gets to
abbrev pub words_in : Option State → ServiceWords
words_in None = record { events = []; counters = []; alarms = [] }
words_in (Some state) = service_words_in state.core.ram

-- those behind so many instructions; the arrivals of the next moment change none
abbrev pub words_behind : Image → List Arrival → ℕ → ServiceWords
words_behind image arrivals n = words_in (state_after n arrivals (start image))

-- a run of so many instructions or more stops, there and so
abbrev pub StopsBefore : Image → List Arrival → ℕ → Halt → Type 0
StopsBefore image arrivals count halt = (n : ℕ) → count ≤ n → run_end image arrivals n ≡ ends.Stopped halt.pc halt.stop

-- what is read of them, or where and why the run stops before
abbrev pub AreWordsRead : Image → List Arrival → ℕ → WordsRead → Type 0
AreWordsRead image arrivals count (read.At words) = words ≡ words_behind image arrivals count
AreWordsRead image arrivals count (read.Stopped halt) = StopsBefore image arrivals count halt
