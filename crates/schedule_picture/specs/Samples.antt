-- A sampler that has given the first samples of a run.
use Rattle.std.specs.Prelude.{ℕ, ◌≡◌, ◌≤◌, ◌+◌, ◌-◌, List, length, get_or}
use Rattle.sloth_base.specs.declared.service.Arrival.{Arrival}
use Rattle.sloth_base.specs.declared.image.Image.{Image}
use Rattle.sloth_runner.specs.Runner.{run_end}
use Rattle.sloth_runner.specs.declared.runner.Halt.{Halt}
use Rattle.sloth_runner.specs.declared.runner.RunEnd.TheVariants as ends
use Rattle.run_samples.specs.declared.admissions.Admission.{Admission}
use Rattle.run_samples.specs.declared.samples.Sample.{Sample}
use Rattle.run_samples.specs.declared.samples.Sampler.{Sampler}
use Rattle.run_samples.specs.Samples.{AreSamples, IsSampling, sampled_image, sampled_arrivals, sampled_count}
use Rattle.run_samples.specs.Admissions.{run_admissions}
use Rattle.schedule_picture.specs.Marks.{run_marks, run_addresses}
use Rattle.schedule_picture.specs.declared.marks.Mark.{Mark}
use Rattle.lane_drawing.specs.Bars.{AreBars}
use Rattle.lane_drawing.specs.Strips.{Lane, empty_lane}
use Rattle.schedule_picture.specs.LaneLooks.{owned_lanes, look_of}

-- it has given these, the first of a run of an image with arrivals
pub record HasGiven (image : Image) (arrivals : List Arrival) (samples : List Sample) (sampler : Sampler) : Type 0 where
  pub sampling : IsSampling sampler
  pub image_is : sampled_image sampler ≡ image
  pub arrivals_are : sampled_arrivals sampler ≡ arrivals
  pub count : sampled_count sampler ≡ length samples
  pub are_samples : AreSamples image arrivals 0 samples

-- so many of them, whichever they are
pub record HasGivenFirst (image : Image) (arrivals : List Arrival) (count : ℕ) (sampler : Sampler) : Type 0 where
  pub samples : List Sample
  pub counted : length samples ≡ count
  pub given : HasGiven image arrivals samples sampler

-- and strips whose bars are those of what they show from a count to below another, what became of the arrivals of these counts, their marks and addresses
pub record HasBars (image : Image) (arrivals : List Arrival) (from to : ℕ) (sampler : Sampler) (strips : List Lane) (admissions : List Admission) (marks : List Mark)
    (addresses : List ℕ) : Type 0 where
  pub samples : List Sample
  pub counted : length samples ≡ to
  pub given : HasGiven image arrivals samples sampler
  pub lanes : length strips ≡ owned_lanes image + 1
  pub are_bars : (lane : ℕ) → lane ≤ owned_lanes image → AreBars (look_of image samples lane) from to (get_or strips lane empty_lane).bars
  pub noted : admissions ≡ run_admissions image arrivals samples from (to - from)
  pub marked : marks ≡ run_marks image arrivals samples from (to - from)
  pub addressed : addresses ≡ run_addresses image arrivals samples from (to - from)

-- a run stops in front of a count, there and so
abbrev pub StopsBefore : Image → List Arrival → ℕ → Halt → Type 0
StopsBefore image arrivals count halt = (n : ℕ) → count ≤ n → run_end image arrivals n ≡ ends.Stopped halt.pc halt.stop
