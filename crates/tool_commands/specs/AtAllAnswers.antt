-- The answers of `at .. all`.
use Rattle.std.specs.Prelude.{ℕ, ◌≡◌, List, [], ◌++◌, codes}
use Rattle.sloth_base.specs.declared.service.Arrival.{Arrival}
use Rattle.sloth_base.specs.declared.image.Image.{Image}
use Rattle.sloth_base.specs.Order.{NoFault}
use Rattle.image_file.specs.ImageText.{ImageText}
use Rattle.image_file.specs.Faults.{IsFirstImageFault}
use Rattle.trace_text.specs.ArrivalsText.{ArrivalsFault, arrivals_in}
use Rattle.run_samples.specs.ServiceWords.{words_behind}
use Rattle.sloth_inspect.specs.declared.service_words.ServiceWords.{ServiceWords}
use Rattle.sloth_runner.specs.TaskStates.{AreStatesAt}
use Rattle.sloth_runner.specs.declared.task_states.Seen.{Seen}
use Rattle.sloth_runner.specs.declared.task_states.Sight.{Sight}
use Rattle.sloth_runner.specs.declared.task_states.Sight.TheVariants as sight
use Rattle.run_samples.specs.SystemText.{system_text}
use Rattle.tool_commands.specs.StatesText.{count_line}
use Rattle.run_inputs.specs.RunInputs.{IsRunRefused}
use Rattle.command_line.specs.declared.answer.ToolAnswer.{ToolAnswer}
use Rattle.command_line.specs.declared.answer.ToolAnswer.TheVariants as answer

-- a text and no file
abbrev pub done : List ℕ → ToolAnswer
done text = answer.Done (record { file = []; text = text })

-- what is printed at a count: the count, and the whole system there
abbrev pub all_text : Image → Seen → ServiceWords → List ℕ
all_text image seen words = count_line seen.count ++ system_text image seen words

-- the answer to what the run of an image with arrivals shows of its tasks, with the service words there
abbrev pub all_answer : Image → List Arrival → Sight → ToolAnswer
all_answer image arrivals (sight.At seen) = done (all_text image seen (words_behind image arrivals seen.count))
all_answer image arrivals sight.Booting = done (codes "booting\n")
all_answer image arrivals (sight.Stopped pc stop) = answer.Stopped pc stop

-- The first file is that of an image, the second has arrivals by the image's names of tasks and counters, and this is the answer to what a run of
-- k + 1 instructions shows.
pub record IsAllAnswer (img arr : List ℕ) (k : ℕ) (shown : ToolAnswer) : Type 0 where
  pub image : Image
  pub arrivals : List Arrival
  pub sight : Sight
  pub is_image : ImageText img image
  pub no_fault : NoFault (ArrivalsFault image.tasks image.counters arr)
  pub arrivals_are : arrivals ≡ arrivals_in image.tasks image.counters arr
  pub seen : AreStatesAt image arrivals k sight
  pub answer_is : shown ≡ all_answer image arrivals sight

-- `at .. all`: what the run shows of the tasks, the counters and the alarms, or where and why it stops; or the first fault of the image file, or
-- the least of the arrivals
abbrev pub IsAtAllAnswer : (img arr : List ℕ) (k : ℕ) → ToolAnswer → Type 0
IsAtAllAnswer img arr k (answer.Done outcome) = IsAllAnswer img arr k (answer.Done outcome)
IsAtAllAnswer img arr k (answer.Stopped pc stop) = IsAllAnswer img arr k (answer.Stopped pc stop)
IsAtAllAnswer img arr k (answer.NotAnImage fault) = IsFirstImageFault fault img
IsAtAllAnswer img arr k (answer.Refused refusal) = IsRunRefused img arr refusal
IsAtAllAnswer img arr k (answer.NotAnElf fault) = ⊥
IsAtAllAnswer img arr k (answer.BadTrace fault) = ⊥
IsAtAllAnswer img arr k answer.NoHolds = ⊥
IsAtAllAnswer img arr k (answer.Unmet text) = ⊥
IsAtAllAnswer img arr k (answer.Explained kind lines) = ⊥
IsAtAllAnswer img arr k answer.NoTask = ⊥
