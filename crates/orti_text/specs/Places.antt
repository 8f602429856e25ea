-- The places that formulas read.
use Rattle.std.specs.Prelude.{ℕ, ◌≡◌, ◌≤◌, ◌<◌, ◌+◌, ◌%◌, ⊤, All, length}
use Rattle.sloth_base.specs.declared.config.Config.{Config}
use Rattle.sloth_base.specs.ConfigRange.{InRange}
use Rattle.sloth_base.specs.MemoryMap.{controller_base, controller_bytes, memory_base}
use Rattle.sloth_region.specs.declared.region.Map.{Map}
use Rattle.sloth_region.specs.Layout.{below_word}
use Rattle.orti_text.specs.Attributes.{attributes, object_names}
use Rattle.orti_text.specs.Formulas.{Formula, Number, Hex, Word, Byte, Equal, Choice}
use Rattle.orti_text.specs.Values.{formula}
use Rattle.orti_text.specs.declared.attributes.Kind.{Kind}

-- each word that it reads is one of the service words on tasks, counters and alarms, each byte one of the controller's
abbrev pub IsReadable : Formula → Type 0
IsReadable (Number n) = ⊤
IsReadable (Hex n) = ⊤
IsReadable (Word address) = (address % 4 ≡ 0) × (memory_base ≤ address) × (address + 4 ≤ memory_base + below_word)
IsReadable (Byte address) = (controller_base ≤ address) × (address < controller_base + controller_bytes)
IsReadable (Equal f g) = IsReadable f × IsReadable g
IsReadable (Choice f g h) = IsReadable f × IsReadable g × IsReadable h

-- so is each formula of an object
abbrev pub FormulasAreReadable : Type 0
FormulasAreReadable =
    (config : Config) (m : Map) (k : Kind) (n : ℕ) → InRange config → n < length (object_names config k)
    → All (λ a. IsReadable (formula config m a n)) (attributes config k)
