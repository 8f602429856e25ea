-- The lines of `losses`: of a configuration, its task source and arrivals.
use Rattle.std.specs.Prelude.{ℕ, ◌≡◌, List}
use Rattle.sloth_base.specs.DeclaredNames.{counter_names, task_names}
use Rattle.sloth_base.specs.declared.app.App.{App}
use Rattle.sloth_base.specs.declared.config.Config.{Config}
use Rattle.sloth_base.specs.declared.service.Arrival.{Arrival}
use Rattle.sloth_base.specs.declared.image.Image.{Image}
use Rattle.osek_scheduler.specs.State.{opening}
use Rattle.run_inputs.specs.Inputs.{AreArrivalsOf}
use Rattle.sim_induction.specs.Sound.{events_of}
use Rattle.sloth_source.specs.Texts.{AreAccepted}
use Rattle.symbol_build.specs.SymbolFiles.{IsBuilt}
use Rattle.losses_text.specs.Requests.{AreRequests}
use Rattle.losses_text.specs.RequestsText.{requests_text}
use Rattle.losses_text.specs.declared.requests.Request.{Request}

-- the text tells what n instructions of the image's run with the arrivals ask for
pub record IsRunText (config : Config) (app : App) (image : Image) (arrivals : List Arrival) (n : ℕ) (text : List ℕ) : Type 0 where
  pub all : List Request
  pub are : AreRequests config app (events_of image arrivals n) (opening config app) all
  pub is : text ≡ requests_text image all

-- the texts are accepted, the image is built of what they mean, and the text tells of its run
pub record IsLossesText (oil src arr : List ℕ) (n : ℕ) (text : List ℕ) : Type 0 where
  pub config : Config
  pub app : App
  pub accepted : AreAccepted oil src config app
  pub image : Image
  pub is_built : IsBuilt config app image
  pub arrivals : List Arrival
  pub read : AreArrivalsOf (task_names config) (counter_names config) arr arrivals
  pub tells : IsRunText config app image arrivals n text

-- texts and arrivals have one text for each image
abbrev pub OneLossesText : Type 0
OneLossesText =
    (oil src arr : List ℕ) (n : ℕ) (one other : List ℕ) (h : IsLossesText oil src arr n one) (k : IsLossesText oil src arr n other) → h.image ≡ k.image → one ≡ other
