-- The waves of a run.
use Rattle.std.specs.Prelude.{ℕ, ◌≡◌, List, ◌++◌, length}
use Rattle.sloth_base.specs.declared.service.Arrival.{Arrival}
use Rattle.sloth_base.specs.declared.image.Image.{Image}
use Rattle.sloth_base.specs.Owners.{owners_named}
use Rattle.run_samples.specs.declared.samples.Sample.{Sample}
use Rattle.run_samples.specs.Samples.{AreSamples}
use Rattle.sloth_runner.specs.Runner.{run_end}
use Rattle.sloth_runner.specs.declared.runner.RunEnd.TheVariants as ends
use Rattle.wave_text.specs.declared.dump.Dump.{Dump}
use Rattle.wave_text.specs.declared.dump.Moment.{Moment}
use Rattle.wave_text.specs.declared.dump.Recorded.{Recorded}
use Rattle.wave_text.specs.declared.dump.Recorded.TheVariants as recorded
use Rattle.wave_text.specs.Changes.{DumpEntry, entries, with_moment, stands_behind}
use Rattle.wave_text.specs.Header.{header}
use Rattle.wave_text.specs.Moments.{moments_of}
use Rattle.wave_text.specs.Text.{entry_lines}

-- the waves of moments, with the names of an image
abbrev pub waves_text : Image → List Moment → List ℕ
waves_text image moments = header image ++ entry_lines (entries (owners_named image) moments)

-- a text is the waves of n instructions of a run: the run has them all, and the text is that of its samples, with the service words that go with them
pub record AreWavesOf (image : Image) (arrivals : List Arrival) (n : ℕ) (text : List ℕ) : Type 0 where
  pub whole : run_end image arrivals n ≡ ends.Whole
  pub samples : List Sample
  pub counted : length samples ≡ n
  pub are_samples : AreSamples image arrivals 0 samples
  pub is : text ≡ waves_text image (moments_of image arrivals samples)

-- the waves of a run, or where and why it stops
abbrev pub AreWaves : Image → List Arrival → ℕ → Recorded → Type 0
AreWaves image arrivals n (recorded.Text text) = AreWavesOf image arrivals n text.items
AreWaves image arrivals n (recorded.Stopped halt) = run_end image arrivals n ≡ ends.Stopped halt.pc halt.stop

-- ---- on the way

-- a dump got the lines of these entries, behind that of their moment
pub record HasNewEntries (old new : Dump) (more : List DumpEntry) : Type 0 where
  pub text : new.text.items ≡ old.text.items ++ entry_lines (with_moment old.count old.stamped more)
  pub count : new.count ≡ old.count
  pub stamped : new.stamped ≡ stands_behind old.stamped more
