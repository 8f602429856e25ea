-- What a run of an image shows at each of its counts.
use Rattle.std.specs.Prelude.{ℕ, ◌≡◌, ◌+◌, ◌<◌, ◌≤◌, List, [], ◌∷◌, length, Option, Some, None, false}
use Rattle.sloth_base.specs.declared.service.Arrival.{Arrival}
use Rattle.sloth_base.specs.declared.image.Image.{Image}
use Rattle.sloth_base.specs.Machine.{State}
use Rattle.rv32_instr.specs.Memory.{memory_of}
use Rattle.rv32_machine.specs.Start.{start}
use Rattle.rv32_machine.specs.Advance.{Goes}
use Rattle.rv32_machine.specs.Run.{state_with_arrivals, moment, state_after}
use Rattle.sloth_base.specs.declared.numbers.Step.{Step}
use Rattle.sloth_base.specs.Limits.{task_limit}
use Rattle.run_samples.specs.Accesses.{code_access}
use Rattle.sloth_runner.specs.Runner.{HasRun, image_of, given_arrivals, count_of, run_end}
use Rattle.sloth_runner.specs.TaskStates.{IsLast, image_states, interrupts_in, task_levels}
use Rattle.sloth_runner.specs.declared.task_states.Seen.{Seen}
use Rattle.sloth_runner.specs.declared.runner.Halt.{Halt}
use Rattle.sloth_runner.specs.declared.runner.RunEnd.TheVariants as ends
use Rattle.run_samples.specs.declared.samples.Sample.{Sample}
use Rattle.run_samples.specs.declared.samples.Sampler.{Sampler}

-- What a run shows at a count, after its arrivals and before a line is taken: the tasks as the last count up to this one shows them that
-- finds MIE 1, if one does; the bytes of their lines, the level and whether interrupts are masked, as they are; the line that is taken;
-- and what masked code does with a pending byte.
pub record IsSample (image : Image) (arrivals : List Arrival) (count : ℕ) (sample : Sample) : Type 0 where
  pub state : State
  pub after : state_after count arrivals (start image) ≡ Some state
  pub seen : IsLast image arrivals (count + 1) sample.seen
  pub step : Step
  pub behind : State
  pub goes : moment arrivals count state ≡ Goes step behind
  pub taken : sample.taken ≡ step.entered
  pub interrupts : sample.interrupts ≡ interrupts_in image (state_with_arrivals arrivals count state)
  pub access : sample.access ≡ code_access step (memory_of behind.core)

-- the samples of a run, one for each count from this one on
abbrev pub AreSamples : Image → List Arrival → ℕ → List Sample → Type 0
AreSamples image arrivals count [] = Unit {0}
AreSamples image arrivals count (sample ∷ samples) = IsSample image arrivals count sample × AreSamples image arrivals (count + 1) samples

-- a sample that shows nothing
abbrev pub no_sample : Sample
no_sample = record {
  seen = None;
  interrupts = record { pending = []; counters_pending = []; level = 0; masked = false };
  taken = None;
  access = None;
}

-- what is seen of the tasks behind so many instructions
abbrev pub seen_in : Image → (count : ℕ) → Option State → Option Seen
seen_in image count None = None
seen_in image count (Some state) = image_states image count state

abbrev pub seen_behind : Image → List Arrival → ℕ → Option Seen
seen_behind image arrivals n = seen_in image n (state_after n arrivals (start image))

-- the levels of the lines of the image's tasks behind so many instructions
pub record AreSampledLevels (image : Image) (arrivals : List Arrival) (count : ℕ) (levels : List ℕ) : Type 0 where
  pub state : State
  pub after : state_after count arrivals (start image) ≡ Some state
  pub are : levels ≡ task_levels image state

-- a run stops there and so, if it gets beyond this count
abbrev pub StopsAt : Image → List Arrival → ℕ → Halt → Type 0
StopsAt image arrivals count halt = (n : ℕ) → count < n → run_end image arrivals n ≡ ends.Stopped halt.pc halt.stop

-- ---- a sampler

-- the image that it runs
abbrev pub sampled_image : Sampler → Image
sampled_image sampler = image_of sampler.runner

-- the arrivals that it was given
abbrev pub sampled_arrivals : Sampler → List Arrival
sampled_arrivals sampler = given_arrivals sampler.runner

-- how many samples it has given
abbrev pub sampled_count : Sampler → ℕ
sampled_count sampler = count_of sampler.runner

-- it stands between two samples, and knows what was seen last of the tasks
pub record IsSampling (sampler : Sampler) : Type 0 where
  pub ran : HasRun sampler.runner (sampled_image sampler) (sampled_count sampler)
  pub few_tasks : length (sampled_image sampler).tasks ≤ task_limit
  pub last : IsLast (sampled_image sampler) (sampled_arrivals sampler) (sampled_count sampler) sampler.last
