-- A configuration, its task source and a load: what they mean, or how they are refused.
use Rattle.std.specs.Prelude.{ℕ, ◌≡◌, ◌⊎◌, List}
use Rattle.sloth_base.specs.declared.app.App.{App}
use Rattle.sloth_base.specs.declared.config.Config.{Config}
use Rattle.sloth_base.specs.declared.refusal.BuildError.{BuildError}
use Rattle.sloth_base.specs.declared.refusal.BuildError.TheVariants as error
use Rattle.sloth_base.specs.declared.refusal.Refusal.{Refusal}
use Rattle.sloth_base.specs.DeclaredNames.{task_names, counter_names}
use Rattle.sloth_base.specs.Order.{IsLeast, NoFault}
use Rattle.sloth_source.specs.Texts.{AreAccepted, FirstRefusal}
use Rattle.load_text.specs.declared.load_line.Entry.{Entry}
use Rattle.load_text.specs.LoadText.{LoadFault, load_in}

-- for this configuration the text is a load without a fault, and this one
pub record IsLoadOf (config : Config) (text : List ℕ) (load : List Entry) : Type 0 where
  pub no_fault : NoFault (LoadFault (task_names config) (counter_names config) text)
  pub load_is : load ≡ load_in (task_names config) (counter_names config) text

-- the least fault of a load for this configuration
abbrev pub IsLoadFault : Config → List ℕ → Refusal → Type 0
IsLoadFault config text refusal = IsLeast (LoadFault (task_names config) (counter_names config) text) refusal

-- the configuration and the task code are accepted, and this is the least fault of the load
pub record IsLoadRefusal (oil src text : List ℕ) (refusal : Refusal) : Type 0 where
  pub config : Config
  pub app : App
  pub accepted : AreAccepted oil src config app
  pub least : IsLoadFault config text refusal

-- The texts are refused so: the configuration or the task code, or else the load.
abbrev pub IsRefusal : (oil src text : List ℕ) → Refusal → Type 0
IsRefusal oil src text refusal = FirstRefusal oil src refusal ⊎ IsLoadRefusal oil src text refusal

-- why the texts were not read: want of memory, or the refusal
abbrev pub InputsErrorIs : (oil src text : List ℕ) → BuildError → Type 0
InputsErrorIs oil src text (error.Refused refusal) = IsRefusal oil src text refusal
InputsErrorIs oil src text error.Memory = Unit {0}
