-- GetResource (OSEK OS 2.2.3, section 13.4.3.1), with the priority ceiling protocol.
use Rattle.std.specs.Prelude.{ℕ, max, ◌≡◌, ◌<◌, ◌≤◌, List, [], slice_index}
use Rattle.sloth_base.specs.declared.service.Service.TheVariants as service
use Rattle.sloth_base.specs.Machine.{Core, State}
use Rattle.sloth_base.specs.Status.{E_OK}
use Rattle.sloth_base.specs.ConfigRange.{scheduler_number}
use Rattle.sloth_region.specs.Layout.{saved_level}
use Rattle.rv32_instr.specs.declared.InstrKind.{InstrKind}
use Rattle.rv32_instr.specs.Ram.{with_word}
use Rattle.masked_code.specs.Masked.{FromOpening}
use Rattle.masked_code.specs.Place.{offset_state}
use Rattle.block_parts.specs.ServiceCode.{IsServiceCode}
use Rattle.block_parts.specs.Back.{CanGoBack, BackEffect, a0}

-- the code can run
pub record MayTakeResource (offset resource : ℕ) (code : List InstrKind) (core : Core) : Type 0 where
  pub goes_back : CanGoBack offset code core
  pub is_resource : resource ≤ scheduler_number
  pub level : core.ilevel < 256

-- the core at at least a ceiling, with the level that ran saved for the resource
abbrev pub raised_core : ℕ → ℕ → Core → Core
raised_core resource ceiling core = record core { ilevel = max core.ilevel ceiling; ram = with_word core.ram (saved_level resource) core.ilevel }

-- The level that ran is saved, and then at least the resource's ceiling runs; the status is E_OK.
pub record GetResourceEffect (resource ceiling : ℕ) (touched : List ℕ) (start end : State) : Type 0 where
  pub touches : touched ≡ []
  pub status : slice_index end.core.registers a0 ≡ E_OK
  pub back : BackEffect a0 (raised_core resource ceiling start.core) start end

-- Code of GetResource: behind its first instruction at most 8 more lead to its effect, whatever lines arrive.
abbrev pub IsGetResourceCode : ℕ → ℕ → List InstrKind → Type 0
IsGetResourceCode resource ceiling code =
    IsServiceCode service.GetResource code ((offset : ℕ) (core : Core) → MayTakeResource offset resource code core → FromOpening 8 (offset_state offset core) (GetResourceEffect resource ceiling))
