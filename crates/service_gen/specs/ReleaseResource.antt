-- ReleaseResource (OSEK OS 2.2.3, section 13.4.3.2).
use Rattle.std.specs.Prelude.{ℕ, ◌≡◌, ◌<◌, ◌≤◌, List, [], slice_index}
use Rattle.sloth_base.specs.declared.service.Service.TheVariants as service
use Rattle.sloth_base.specs.Machine.{Core, State}
use Rattle.sloth_base.specs.Status.{E_OK}
use Rattle.sloth_base.specs.ConfigRange.{scheduler_number}
use Rattle.sloth_region.specs.Layout.{saved_level}
use Rattle.rv32_instr.specs.declared.InstrKind.{InstrKind}
use Rattle.rv32_instr.specs.Ram.{word_at}
use Rattle.masked_code.specs.Masked.{FromOpening}
use Rattle.masked_code.specs.Place.{offset_state}
use Rattle.block_parts.specs.ServiceCode.{IsServiceCode}
use Rattle.block_parts.specs.Back.{CanGoBack, BackEffect, a0}

-- the code can run, and a level is saved for the resource
pub record MayRelease (offset resource : ℕ) (code : List InstrKind) (core : Core) : Type 0 where
  pub goes_back : CanGoBack offset code core
  pub is_resource : resource ≤ scheduler_number
  pub level : word_at core.ram (saved_level resource) < 256

-- The level is the one at which the resource was taken, the status E_OK.
pub record ReleaseResourceEffect (resource : ℕ) (touched : List ℕ) (start end : State) : Type 0 where
  pub touches : touched ≡ []
  pub status : slice_index end.core.registers a0 ≡ E_OK
  pub back : BackEffect a0 (record start.core { ilevel = word_at start.core.ram (saved_level resource) }) start end

-- Code of ReleaseResource: behind its first instruction at most 5 more lead to its effect, whatever lines arrive.
abbrev pub IsReleaseResourceCode : ℕ → List InstrKind → Type 0
IsReleaseResourceCode resource code =
    IsServiceCode service.ReleaseResource code ((offset : ℕ) (core : Core) → MayRelease offset resource code core → FromOpening 5 (offset_state offset core) (ReleaseResourceEffect resource))
