-- Which answer `sample` has.
use Rattle.std.specs.Prelude.{ℕ, ◌⊎◌, List, codes, length}
use Rattle.sloth_base.specs.declared.config.Config.{Config}
use Rattle.sloth_base.specs.declared.app.App.{App}
use Rattle.sloth_base.specs.declared.image.Image.{Image}
use Rattle.sloth_base.specs.declared.refusal.Refusal.{Refusal}
use Rattle.image_file.specs.ImageText.{image_bytes}
use Rattle.sloth_source.specs.Texts.{AreAccepted, FirstRefusal}
use Rattle.command_line.specs.Command.{Samples, IsCommand}
use Rattle.core_commands.specs.Samples.{sample_oil, sample_source, sample_arrivals, sample_text}
use Rattle.core_commands.specs.ToolTables.{ToolTable}
use Rattle.core_commands.specs.Top.{World, IsBuiltImage, IsFullAnswer, IsRefusalAnswer, WritesWork, PutsWork}
use Rattle.command_line.specs.declared.answer.Status.{Status}
use Rattle.command_line.specs.declared.answer.Status.TheVariants as status

-- No write and no put failed: their counts stay, or the store and the sink tell before that what they are asked for will be done.
pub record SampleWorks (seed : ℕ) (img : List ℕ) (config : Config) (app : App) (old new : World) : Type 0 where
  pub write : (image : Image) → IsBuiltImage config app image → WritesWork old.files new.files img (length (image_bytes image))
  pub lines : (image : Image) → IsBuiltImage config app image → PutsWork old.sink new.sink (sample_text image (sample_arrivals seed))
  pub last_line : PutsWork old.sink new.sink (codes "no memory\n")

-- The generated texts are refused so: Refused, with the line that says it.
abbrev pub HasSampleRefusedAnswer : List (List ℕ) → World → World → Status → Type 0
HasSampleRefusedAnswer words old new answer =
    (seed : ℕ) (img : List ℕ) → IsCommand words (Samples seed img)
    → (refusal : Refusal) → FirstRefusal sample_oil (sample_source seed) refusal → IsRefusalAnswer old new refusal answer

-- The generated texts are accepted, and no write or put failed: Done, or memory was wanting.
abbrev pub HasSampledAnswer : ToolTable → List (List ℕ) → World → World → Status → Type 0
HasSampledAnswer IsToolAnswer words old new answer =
    (seed : ℕ) (img : List ℕ) → IsCommand words (Samples seed img)
    → (config : Config) (app : App) → AreAccepted sample_oil (sample_source seed) config app → SampleWorks seed img config app old new
    → IsFullAnswer IsToolAnswer status.Done words old new answer ⊎ IsFullAnswer IsToolAnswer status.NoMemory words old new answer
