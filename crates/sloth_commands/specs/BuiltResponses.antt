-- What every run of an image that is built keeps of what `response` tells of its texts.
use Rattle.std.specs.Prelude.{ℕ, ◌≡◌, List, Option}
use Rattle.sloth_base.specs.declared.app.App.{App}
use Rattle.sloth_base.specs.declared.config.Config.{Config}
use Rattle.sloth_base.specs.declared.image.Image.{Image}
use Rattle.sloth_source.specs.Texts.{AreAccepted}
use Rattle.load_text.specs.declared.load_line.Entry.{Entry}
use Rattle.response_text.specs.declared.task_text.Told.{Told}
use Rattle.response_text.specs.declared.task_text.Response.{Response}
use Rattle.response_reasons.specs.declared.reasons.Reason.{Reason}
use Rattle.response_text.specs.Inputs.{IsLoadOf}
use Rattle.response_text.specs.ResponseText.{told_of, KeepsResponses, IsResponseText}
use Rattle.core_commands.specs.Top.{IsBuiltImage}

-- what is told under a load are numbers that the image keeps
pub record TellsKept (config : Config) (app : App) (image : Image) (text : List ℕ) (told : Told) : Type 0 where
  pub load : List Entry
  pub is_load : IsLoadOf config text load
  pub longest : ℕ
  pub late : ℕ
  pub responses : List Response
  pub reasons : List (Option Reason)
  pub tick : Option ℕ
  pub demand : Option ℕ
  pub is : told ≡ told_of config app load responses reasons tick demand
  pub kept : KeepsResponses config app load longest late responses tick image

-- an image that is built keeps what is told of its texts
abbrev pub BuiltRunsKeepResponses : Type 0
BuiltRunsKeepResponses =
    (oil src load : List ℕ) (config : Config) (app : App) (image : Image) (told : Told) → AreAccepted oil src config app → IsBuiltImage config app image
    → IsResponseText oil src load told → TellsKept config app image load told
