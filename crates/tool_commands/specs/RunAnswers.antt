-- The answers of tools that write what a run of an image file shows: `wave` and `picture`.
use Rattle.std.specs.Prelude.{ℕ, ◌≡◌, List, length}
use Rattle.sloth_base.specs.declared.service.Arrival.{Arrival}
use Rattle.sloth_base.specs.declared.image.Image.{Image}
use Rattle.image_file.specs.Faults.{IsFirstImageFault}
use Rattle.rv32_instr.specs.declared.encoding.Stop.{Stop}
use Rattle.sloth_runner.specs.Runner.{run_end}
use Rattle.sloth_runner.specs.declared.runner.RunEnd.TheVariants as ends
use Rattle.run_inputs.specs.RunInputs.{AreRunInputs, IsRunRefused}
use Rattle.tool_commands.specs.Lines.{written_line}
use Rattle.command_line.specs.declared.answer.Outcome.{Outcome}
use Rattle.command_line.specs.declared.answer.ToolAnswer.{ToolAnswer}
use Rattle.command_line.specs.declared.answer.ToolAnswer.TheVariants as answer

-- the file that was written shows the run
pub record IsDrawn (Shows : Image → List Arrival → List ℕ → Type 0) (img arr : List ℕ) (outcome : Outcome) : Type 0 where
  pub image : Image
  pub arrivals : List Arrival
  pub inputs : AreRunInputs img arr image arrivals
  pub shows : Shows image arrivals outcome.file
  pub text : outcome.text ≡ written_line (length outcome.file)

-- the run of n instructions stops, there and so
pub record IsHalted (img arr : List ℕ) (n pc : ℕ) (stop : Stop) : Type 0 where
  pub image : Image
  pub arrivals : List Arrival
  pub inputs : AreRunInputs img arr image arrivals
  pub stops : run_end image arrivals n ≡ ends.Stopped pc stop

-- what the run of n instructions shows, or where and why it stops; or the first fault of the image file, or the least of the arrivals
abbrev pub IsRunAnswer : (Shows : Image → List Arrival → List ℕ → Type 0) (img arr : List ℕ) (n : ℕ) → ToolAnswer → Type 0
IsRunAnswer Shows img arr n (answer.Done outcome) = IsDrawn Shows img arr outcome
IsRunAnswer Shows img arr n (answer.Stopped pc stop) = IsHalted img arr n pc stop
IsRunAnswer Shows img arr n (answer.NotAnImage fault) = IsFirstImageFault fault img
IsRunAnswer Shows img arr n (answer.Refused refusal) = IsRunRefused img arr refusal
IsRunAnswer Shows img arr n (answer.NotAnElf fault) = ⊥
IsRunAnswer Shows img arr n (answer.BadTrace fault) = ⊥
IsRunAnswer Shows img arr n answer.NoHolds = ⊥
IsRunAnswer Shows img arr n (answer.Unmet lines) = ⊥
IsRunAnswer Shows img arr n (answer.Explained kind lines) = ⊥
IsRunAnswer Shows img arr n answer.NoTask = ⊥
