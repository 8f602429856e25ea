-- Why `sample` was not done, and what it did.
use Rattle.std.proofs.Common.{◌≡◌, ◌∙◌, ℕ, List, length, refl, sym, ap, subst, arith, rules}
use Rattle.sloth_base.specs.declared.config.Config.{Config}
use Rattle.sloth_base.specs.declared.app.App.{App}
use Rattle.sloth_base.specs.Arrivals.{AreArrivals}
use Rattle.sloth_base.specs.declared.service.Arrival.{Arrival}
use Rattle.sloth_base.specs.declared.image.Image.{Image}
use Rattle.sloth_base.specs.Owners.{owners_in, owners_named}
use Rattle.std.proofs.lemmas.List.{length-map}
use Rattle.sloth_base.specs.Limits.{count_limit}
use Rattle.sloth_io.specs.Sink.{Output}
use Rattle.sloth_io.specs.Store.{Files, call_files}
use Rattle.image_file.specs.ImageText.{image_bytes}
use Rattle.sloth_source.specs.Texts.{AreAccepted}
use Rattle.command_line.specs.Command.{Samples}
use Rattle.sloth_runner.proofs.SoundRuns.{whole-run}
use Rattle.sim_induction.proofs.Coming.{arrivals_come}
use Rattle.core_commands.specs.Samples.{sample_oil, sample_source, sample_arrivals, sample_text}
use Rattle.core_commands.specs.Top.{World, world, IsBuiltImage, IsWritten, IsSampled, IsTextTaken}
use Rattle.core_commands.specs.Failures.{IsPerformFailure, IsSampleFailure, IsCommandFailure, IsPerformed}
use Rattle.command_line.specs.declared.answer.Status.TheVariants as status
use Rattle.core_commands.specs.declared.failure.Failure.{Failure}
use Rattle.core_commands.specs.declared.failure.Failure.TheVariants as failure
use Rattle.core_commands.specs.ToolTables.{LacksTools}

-- an image was built of the generated texts, and the generated arrivals are of its tasks
pub record IsGenerated (seed : ℕ) (image : Image) : Type 0 where
  pub config : Config
  pub app : App
  pub accepted : AreAccepted sample_oil (sample_source seed) config app
  pub is_image : IsBuiltImage config app image
  pub in_range : AreArrivals (owners_in config) (sample_arrivals seed)

pub generated : (seed : ℕ) (config : Config) (app : App) (image : Image) (arrivals : List Arrival) → AreAccepted sample_oil (sample_source seed) config app
    → IsBuiltImage config app image → arrivals ≡ sample_arrivals seed → AreArrivals (owners_in config) arrivals → IsGenerated seed image
generated seed config app image arrivals accepted is_image are in_range = record {
  config = config;
  app = app;
  accepted = accepted;
  is_image = is_image;
  in_range = subst (λ A. AreArrivals (owners_in config) A) are in_range;
}

sampled : (old new : Files) (seed : ℕ) (img : List ℕ) (image : Image) → IsGenerated seed image
    → IsWritten old new img (image_bytes image) → IsSampled old new seed img (sample_text image (sample_arrivals seed))
sampled old new seed img image is written = record {
  config = is.config;
  app = is.app;
  image = image;
  accepted = is.accepted;
  is_image = is.is_image;
  written = written;
  text_is = refl;
  whole = whole-run is.config is.app image (sample_arrivals seed) count_limit is.is_image.sound (arrivals_come (owners_in is.config) (sample_arrivals seed) is.in_range);
  protocol = is.is_image.protocol (sample_arrivals seed) count_limit (arrivals_come (owners_in is.config) (sample_arrivals seed) is.in_range);
}

pub sample-failed : (f : Failure) (old : Files) (sink : Output) (new : World) (seed : ℕ) (img : List ℕ) (image : Image)
    → IsGenerated seed image → IsPerformFailure f (world old sink) new img (image_bytes image) (sample_text image (sample_arrivals seed))
    → IsCommandFailure LacksTools f (world (call_files old new.files) sink) new (Samples seed img)
sample-failed failure.NoMemory old sink new seed img image is h = h
sample-failed failure.WriteFile old sink new seed img image is h =
    (record { config = is.config; app = is.app; image = image; accepted = is.accepted; is_image = is.is_image; failed = h.0; others = h.1 }, h.2)
sample-failed failure.Put old sink new seed img image is h =
    (status.Done, sample_text image (sample_arrivals seed), sampled (call_files old new.files) new.files seed img image is h.0, h.1)
sample-failed (failure.Refused r) old sink new seed img image is h = absurd h
sample-failed failure.ReadFault old sink new seed img image is h = absurd h
sample-failed failure.TooLong old sink new seed img image is h = absurd h
sample-failed (failure.NotAnImage fault) old sink new seed img image is h = absurd h

pub sample-done : (old new : Files) (sink out : Output) (seed : ℕ) (img : List ℕ) (image : Image)
    → IsGenerated seed image → IsWritten old new img (image_bytes image) → IsTextTaken sink out (sample_text image (sample_arrivals seed))
    → IsPerformed LacksTools status.Done (world (call_files old new) sink) (world new out) (Samples seed img)
sample-done old new sink out seed img image is written took =
    (sample_text image (sample_arrivals seed), sampled (call_files old new) new seed img image is written, took)

pub sample-unmade : (f : Failure) (old : Files) (sink : Output) (seed : ℕ) (img : List ℕ)
    → IsSampleFailure f seed → IsCommandFailure LacksTools f (world (call_files old old) sink) (world old sink) (Samples seed img)
sample-unmade (failure.Refused r) old sink seed img h = search rules
sample-unmade failure.NoMemory old sink seed img h = search rules
sample-unmade failure.WriteFile old sink seed img h = absurd h
sample-unmade failure.Put old sink seed img h = absurd h
sample-unmade failure.ReadFault old sink seed img h = absurd h
sample-unmade failure.TooLong old sink seed img h = absurd h
sample-unmade (failure.NotAnImage fault) old sink seed img h = absurd h

pub built-owned : (config : Config) (app : App) (image : Image) (arrivals : List Arrival)
    → IsBuiltImage config app image → AreArrivals (owners_in config) arrivals → AreArrivals (owners_named image) arrivals
built-owned config app image arrivals built h =
    let tasks : length config.tasks ≡ length image.tasks = sym (ap length built.names ∙ length-map config.tasks (λ t. t.name)) in
    let counters : length config.counters ≡ length image.counters = sym (ap length built.counters ∙ length-map config.counters (λ c. c.name)) in
    subst (λ n. AreArrivals record { tasks = n; counters = length image.counters } arrivals) tasks
    (subst (λ n. AreArrivals record { tasks = length config.tasks; counters = n } arrivals) counters h)
