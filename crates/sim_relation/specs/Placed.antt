-- Code in the image, and runs of what is built.
use Rattle.std.specs.Prelude.{ℕ, ◌+◌, ◌*◌, ◌%◌, ◌<◌, ◌≤◌, ◌≡◌, true, List, length, nat_lt, if◌then◌else◌}
use Rattle.sloth_base.specs.declared.service.Arrival.{Arrival}
use Rattle.sloth_base.specs.MemoryMap.{memory_bytes}
use Rattle.sloth_base.specs.Named.{function}
use Rattle.rv32_expand.specs.Expansion.{expansion}
use Rattle.rv32_instr.specs.declared.InstrKind.{InstrKind}
use Rattle.masked_code.specs.Place.{InPlace}
use Rattle.observe.specs.Observe.{View}
use Rattle.sim_induction.specs.Admits.{Setting}
use Rattle.sim_relation.specs.Build.{Build}

-- how many instructions an item has; none where there is no such item
abbrev pub item_words : Build → (func item : ℕ) → ℕ
item_words b func item = if nat_lt item (length (function b.app func).items) then length (expansion b.app b.places func item) else 0

-- a run of what is built
abbrev pub setting_of : Build → View → List Arrival → Setting
setting_of b view arrivals = record { config = b.config; app = b.app; size = item_words b; view = view; arrivals = arrivals }

-- code at an offset in the image
pub record IsPlaced (b : Build) (offset : ℕ) (code : List InstrKind) : Type 0 where
  pub aligned : offset % 4 ≡ 0
  pub inside : offset + 4 * length code ≤ memory_bytes
  pub is_code : (i : ℕ) → offset ≤ i → i < offset + 4 * length code → b.is_code i ≡ true
  pub placed : InPlace b.memory offset code
