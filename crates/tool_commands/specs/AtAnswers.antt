-- The answers of `at`.
use Rattle.std.specs.Prelude.{ℕ, ◌≡◌, List, [], codes}
use Rattle.sloth_base.specs.declared.service.Arrival.{Arrival}
use Rattle.sloth_base.specs.declared.image.Image.{Image}
use Rattle.sloth_base.specs.Order.{NoFault}
use Rattle.image_file.specs.ImageText.{ImageText}
use Rattle.image_file.specs.Faults.{IsFirstImageFault}
use Rattle.trace_text.specs.ArrivalsText.{ArrivalsFault, arrivals_in}
use Rattle.sloth_runner.specs.TaskStates.{AreStatesAt}
use Rattle.sloth_runner.specs.declared.task_states.Sight.{Sight}
use Rattle.sloth_runner.specs.declared.task_states.Sight.TheVariants as sight
use Rattle.tool_commands.specs.StatesText.{states_text}
use Rattle.run_inputs.specs.RunInputs.{IsRunRefused}
use Rattle.command_line.specs.declared.answer.ToolAnswer.{ToolAnswer}
use Rattle.command_line.specs.declared.answer.ToolAnswer.TheVariants as answer

-- the answer to what a run of an image shows of its tasks
abbrev pub states_answer : Image → Sight → ToolAnswer
states_answer image (sight.At seen) = answer.Done (record { file = []; text = states_text image seen })
states_answer image sight.Booting = answer.Done (record { file = []; text = codes "booting\n" })
states_answer image (sight.Stopped pc stop) = answer.Stopped pc stop

-- The first file is that of an image, the second has arrivals by the image's names of tasks and counters, and this is the answer to what a run of
-- k + 1 instructions shows.
pub record IsStatesAnswer (img arr : List ℕ) (k : ℕ) (shown : ToolAnswer) : Type 0 where
  pub image : Image
  pub arrivals : List Arrival
  pub sight : Sight
  pub is_image : ImageText img image
  pub no_fault : NoFault (ArrivalsFault image.tasks image.counters arr)
  pub arrivals_are : arrivals ≡ arrivals_in image.tasks image.counters arr
  pub seen : AreStatesAt image arrivals k sight
  pub answer_is : shown ≡ states_answer image sight

-- `at`: what the run shows of the tasks, or where and why it stops; or the first fault of the image file, or the least of the arrivals
abbrev pub IsAtAnswer : (img arr : List ℕ) (k : ℕ) → ToolAnswer → Type 0
IsAtAnswer img arr k (answer.Done outcome) = IsStatesAnswer img arr k (answer.Done outcome)
IsAtAnswer img arr k (answer.Stopped pc stop) = IsStatesAnswer img arr k (answer.Stopped pc stop)
IsAtAnswer img arr k (answer.NotAnImage fault) = IsFirstImageFault fault img
IsAtAnswer img arr k (answer.Refused refusal) = IsRunRefused img arr refusal
IsAtAnswer img arr k (answer.NotAnElf fault) = ⊥
IsAtAnswer img arr k (answer.BadTrace fault) = ⊥
IsAtAnswer img arr k answer.NoHolds = ⊥
IsAtAnswer img arr k (answer.Unmet lines) = ⊥
IsAtAnswer img arr k (answer.Explained kind lines) = ⊥
IsAtAnswer img arr k answer.NoTask = ⊥
