-- The names in a file.
use Rattle.std.specs.Prelude.{◌≡◌, ◌≢◌, ◌∷◌, All, AllPairs, codes}
use Rattle.sloth_base.specs.declared.config.Config.{Config}
use Rattle.sloth_base.specs.ConfigRange.{InRange}
use Rattle.sloth_base.specs.ImageRange.{IsWord}
use Rattle.orti_text.specs.Attributes.{attribute_name, attributes, meaning, object_names}
use Rattle.orti_text.specs.Tables.{OneOf}
use Rattle.orti_text.specs.declared.attributes.Attribute.TheVariants as attribute
use Rattle.orti_text.specs.declared.attributes.Kind.{Kind}
use Rattle.orti_text.specs.declared.attributes.Kind.TheVariants as kind

-- Each name is an identifier of C, and no two of a kind are the same. The texts of RUNNINGTASK but the first are the TASK objects, those of STACK the
-- STACK objects.
pub record HasNames (config : Config) : Type 0 where
  pub objects_are_words : (k : Kind) → All IsWord (object_names config k)
  pub objects_differ : (k : Kind) → AllPairs (λ one other. one ≢ other) (object_names config k)
  pub attributes_are_words : (k : Kind) → All (λ a. IsWord (attribute_name config a)) (attributes config k)
  pub attributes_differ : (k : Kind) → AllPairs (λ a b. attribute_name config a ≢ attribute_name config b) (attributes config k)
  pub running : meaning config attribute.RunningTask ≡ OneOf (codes "NO_TASK" ∷ object_names config kind.Task)
  pub stacks : meaning config attribute.TaskStack ≡ OneOf (object_names config kind.Stack)

abbrev pub NamesDiffer : Type 0
NamesDiffer = (config : Config) → InRange config → HasNames config
