-- A runner, between two instructions of its run.
use Rattle.std.specs.Prelude.{ℕ, ◌≡◌, ◌+◌, List, [], ◌∷◌, ◌++◌, Option, Some, None}
use Rattle.sloth_base.specs.ImageRange.{InFormat}
use Rattle.sloth_base.specs.Arrivals.{AreArrivals}
use Rattle.sloth_base.specs.declared.image.Image.{Image}
use Rattle.sloth_base.specs.declared.service.Arrival.{Arrival}
use Rattle.sloth_base.specs.declared.service.Stamped.{Stamped}
use Rattle.sloth_base.specs.declared.numbers.Step.{Step}
use Rattle.sloth_io.specs.Sink.{Output, output_with, GainsPart}
use Rattle.trace_text.specs.Texts.{text_after, text_in, ends_idle}
use Rattle.trace_text.specs.declared.events.Form.{Form}
use Rattle.observe.specs.Observe.{view_of_image}
use Rattle.observe.specs.Progress.{HasProgress, remaining, view_of, arrivals_of, expected_count, arrivals_from, arrivals_behind}
use Rattle.sim_induction.specs.Sound.{events_of}
use Rattle.rv32_machine.specs.Start.{start}
use Rattle.rv32_machine.specs.Advance.{Goes, Halts, advance}
use Rattle.sloth_base.specs.Take.{execution_state}
use Rattle.sloth_base.specs.Owners.{owners_named}
use Rattle.rv32_instr.specs.declared.encoding.Stop.{Stop}
use Rattle.rv32_machine.specs.Run.{Stopping, moment, state_with_arrivals, run, steps_of, state_after, stop_of}
use Rattle.sloth_runner.specs.Moments.{AreLines, sloth_state}
use Rattle.sloth_runner.specs.declared.runner.Halt.{Halt}
use Rattle.sloth_runner.specs.declared.runner.Printer.{Printer}
use Rattle.sloth_runner.specs.declared.runner.Runner.{Runner}
use Rattle.sloth_runner.specs.declared.runner.RunEnd.{RunEnd}
use Rattle.sloth_runner.specs.declared.runner.RunEnd.TheVariants as ends

-- ---- what a run of an image shows

-- the steps of n instructions
abbrev pub run_steps : Image → List Arrival → ℕ → List Step
run_steps image arrivals n = steps_of (run n arrivals (start image))

-- the text of their events
abbrev pub run_text : Image → List Arrival → Form → ℕ → List ℕ
run_text image arrivals form n = text_in image form (events_of image arrivals n)

-- the end of a run that stops so, if it stops
abbrev pub end_of : Option Stopping → RunEnd
end_of None = ends.Whole
end_of (Some stopping) = ends.Stopped stopping.pc stopping.stop

-- how it ends: whole, or at an instruction that stops
abbrev pub run_end : Image → List Arrival → ℕ → RunEnd
run_end image arrivals n = end_of (stop_of n arrivals (start image))

-- ---- a printer

-- the lines that a printer puts of these events
abbrev pub lines_of : Printer → List Stamped → List ℕ
lines_of printer events = text_after printer.image.now printer.form printer.after_idle events

-- ---- a runner

-- the image that it runs
abbrev pub image_of : Runner → Image
image_of runner = runner.image.now

-- the arrivals that it was given
abbrev pub given_arrivals : Runner → List Arrival
given_arrivals runner = arrivals_of runner.observer

-- how many instructions are done: the machine counts them
abbrev pub count_of : Runner → ℕ
count_of runner = runner.machine.count

-- k instructions are done on its machine
pub record HasRun (runner : Runner) (image : Image) (k : ℕ) : Type 0 where
  pub arrivals : AreArrivals (owners_named image) (given_arrivals runner)
  pub lines : AreLines runner.coming.now
  pub after : state_after k (given_arrivals runner) (start image) ≡ Some (sloth_state runner.machine)
  pub coming : runner.coming.now ≡ arrivals_from k (given_arrivals runner)
  pub count : count_of runner ≡ k

-- k instructions are done, and all their finished events were handed out
pub record HasDone (runner : Runner) (image : Image) (k : ℕ) : Type 0 where
  pub format : InFormat image
  pub ran : HasRun runner image k
  pub view : view_of runner.observer ≡ view_of_image image
  pub fed : HasProgress runner.observer (run_steps image (given_arrivals runner) k) (events_of image (given_arrivals runner) k)
  pub drained : remaining runner.observer ≡ []
  pub expected : expected_count runner.observer ≡ k

-- between two instructions
abbrev pub IsRunning : Runner → Type 0
IsRunning runner = HasDone runner runner.image.now (count_of runner)

-- it has run nothing
abbrev pub IsFresh : Runner → Type 0
IsFresh runner = IsRunning runner × (count_of runner ≡ 0)

-- these are the events that the instruction of count k adds
abbrev pub AreAddedEvents : Image → List Arrival → ℕ → List Stamped → Type 0
AreAddedEvents image arrivals k events = events_of image arrivals (k + 1) ≡ events_of image arrivals k ++ events

-- the arrivals of the moment have come
pub record HasArrived (old new : Runner) : Type 0 where
  pub state : sloth_state new.machine ≡ state_with_arrivals (given_arrivals old) (count_of old) (sloth_state old.machine)
  pub coming : new.coming.now ≡ arrivals_behind (count_of old) old.coming.now
  pub lines : AreLines new.coming.now
  pub count : count_of new ≡ count_of old

-- the machine did one instruction, which shows this step
pub record HasExecuted (old new : Runner) (step : Step) : Type 0 where
  pub goes : advance (count_of old) (sloth_state old.machine) ≡ Goes step (sloth_state new.machine)
  pub shown : step.count ≡ count_of old
  pub count : count_of new ≡ count_of old + 1

-- the machine stops at the next one, there and so
pub record HasHalt (old : Runner) (halt : Halt) : Type 0 where
  pub halts : advance (count_of old) (sloth_state old.machine) ≡ Halts halt.stop
  pub pc : halt.pc ≡ (execution_state (sloth_state old.machine)).pc

-- an instruction was done, and its step fed to the observer, which has its events
pub record IsAdvance (old new : Runner) : Type 0 where
  pub step : Step
  pub goes : moment (given_arrivals old) (count_of old) (sloth_state old.machine) ≡ Goes step (sloth_state new.machine)
  pub fed : (steps : List Step) (events : List Stamped) → HasProgress old.observer steps events → HasProgress new.observer (steps ++ step ∷ []) events
  pub view : view_of new.observer ≡ view_of old.observer
  pub expected : expected_count new.observer ≡ expected_count old.observer + 1
  pub ran : HasRun new (image_of old) (count_of old + 1)

-- an instruction was done, and its events' lines were put
pub record IsPrintedAdvance (old new : Runner) (before after : Printer) (t u : Output) : Type 0 where
  pub running : IsRunning new
  pub count : count_of new ≡ count_of old + 1
  pub events : List Stamped
  pub adds : AreAddedEvents (image_of old) (given_arrivals old) (count_of old) events
  pub taken : u ≡ output_with t (text_after (image_of old) before.form before.after_idle events)
  pub idle : after.after_idle ≡ ends_idle before.after_idle events

-- they were put in part
pub record IsBrokenAdvance (old : Runner) (before : Printer) (t u : Output) : Type 0 where
  pub events : List Stamped
  pub adds : AreAddedEvents (image_of old) (given_arrivals old) (count_of old) events
  pub taken : GainsPart t u (text_after (image_of old) before.form before.after_idle events)

-- the next instruction stops, and the run ends so
abbrev pub HasRunEnd : Runner → RunEnd → Type 0
HasRunEnd old end = (stop : Stop) × (moment (given_arrivals old) (count_of old) (sloth_state old.machine) ≡ Halts stop)
    × (end ≡ ends.Stopped (execution_state (state_with_arrivals (given_arrivals old) (count_of old) (sloth_state old.machine))).pc stop)
