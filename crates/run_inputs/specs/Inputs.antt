-- A configuration, its task source and arrivals: what they mean, or how they are refused.
use Rattle.std.specs.Prelude.{ℕ, ◌≡◌, ◌⊎◌, List}
use Rattle.sloth_base.specs.declared.app.App.{App}
use Rattle.sloth_base.specs.declared.config.Config.{Config}
use Rattle.sloth_base.specs.declared.service.Arrival.{Arrival}
use Rattle.sloth_base.specs.declared.refusal.BuildError.{BuildError}
use Rattle.sloth_base.specs.declared.refusal.BuildError.TheVariants as error
use Rattle.sloth_base.specs.declared.refusal.Refusal.{Refusal}
use Rattle.sloth_base.specs.Order.{IsLeast, NoFault}
use Rattle.sloth_source.specs.Texts.{AreAccepted, FirstRefusal}
use Rattle.trace_text.specs.ArrivalsText.{ArrivalsFault, arrivals_in}
use Rattle.sloth_base.specs.DeclaredNames.{task_names, counter_names}

-- with these names of tasks and of counters the arrivals are read without a fault, and these are they
pub record AreArrivalsOf (names counters : List (List ℕ)) (arr : List ℕ) (arrivals : List Arrival) : Type 0 where
  pub no_fault : NoFault (ArrivalsFault names counters arr)
  pub arrivals_are : arrivals ≡ arrivals_in names counters arr

-- the configuration and the task code are accepted, and this is the least fault of the arrivals
pub record IsArrivalsRefusal (oil src arr : List ℕ) (refusal : Refusal) : Type 0 where
  pub config : Config
  pub app : App
  pub accepted : AreAccepted oil src config app
  pub least : IsLeast (ArrivalsFault (task_names config) (counter_names config) arr) refusal

-- The texts are refused so: the configuration or the task code, or else the arrivals.
abbrev pub IsRefusal : List ℕ → List ℕ → List ℕ → Refusal → Type 0
IsRefusal oil src arr refusal = FirstRefusal oil src refusal ⊎ IsArrivalsRefusal oil src arr refusal

-- why the texts were not read: want of memory, or the refusal
abbrev pub InputsErrorIs : List ℕ → List ℕ → List ℕ → BuildError → Type 0
InputsErrorIs oil src arr (error.Refused refusal) = IsRefusal oil src arr refusal
InputsErrorIs oil src arr error.Memory = Unit {0}
