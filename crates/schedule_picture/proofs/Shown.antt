-- What the lanes of a picture have shown.
use Rattle.std.specs.Prelude.{ℕ, ◌≡◌, ◌≤◌, ◌+◌, ◌-◌, List, length, get_or}
use Rattle.sloth_base.specs.declared.service.Arrival.{Arrival}
use Rattle.sloth_base.specs.declared.image.Image.{Image}
use Rattle.run_samples.specs.declared.samples.Sample.{Sample}
use Rattle.run_samples.specs.declared.samples.Sampler.{Sampler}
use Rattle.run_samples.specs.Admissions.{Notes, run_notes}
use Rattle.schedule_picture.specs.Marks.{Watch, run_watch}
use Rattle.lane_drawing.specs.Strips.{Lane, IsStrip, empty_lane}
use Rattle.schedule_picture.specs.LaneLooks.{owned_lanes, look_of}
use Rattle.schedule_picture.specs.Samples.{HasGiven}

-- and strips stand behind what they show from a count on, notes behind the arrivals, and the run is watched
pub record HasShown (image : Image) (arrivals : List Arrival) (from count : ℕ) (sampler : Sampler) (strips : List Lane) (notes : Notes) (watch : Watch) : Type 0 where
  pub samples : List Sample
  pub counted : length samples ≡ count
  pub given : HasGiven image arrivals samples sampler
  pub lanes : length strips ≡ owned_lanes image + 1
  pub are_strips : (lane : ℕ) → lane ≤ owned_lanes image → IsStrip (look_of image samples lane) from count (get_or strips lane empty_lane)
  pub noted : notes ≡ run_notes image arrivals samples from (count - from)
  pub watched : watch ≡ run_watch image arrivals samples from (count - from)
