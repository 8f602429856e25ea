-- The code of ReleaseResource has its effect.
use Rattle.std.proofs.Common.{ℕ, ◌+◌, List, ◌∷◌, refl, arith}
use Rattle.sloth_base.specs.Machine.{Core}
use Rattle.sloth_base.specs.Status.{E_OK}
use Rattle.sloth_region.specs.Layout.{saved_level}
use Rattle.rv32_instr.specs.declared.InstrKind.{InstrKind}
use Rattle.rv32_instr.specs.Ram.{word_at}
use Rattle.masked_code.specs.Place.{offset_state}
use Rattle.masked_code.specs.Masked.{FromOpening}
use Rattle.masked_code.specs.Kernel.{masking}
use Rattle.masked_code.proofs.Owes.{◌▸◌, writes, loads, Owes}
use Rattle.masked_code.proofs.Spread.{based}
use Rattle.masked_code.proofs.Routines.{masked}
use Rattle.block_parts.proofs.Returning.{goes_back_at}
use Rattle.block_parts.proofs.Serving.{opens}
use Rattle.block_parts.specs.Services as piece
use Rattle.service_gen.specs.ReleaseResource.{MayRelease, ReleaseResourceEffect, IsReleaseResourceCode}

-- the code behind the masking instruction
abbrev pub body : ℕ → List InstrKind
body resource = piece.releasing_code resource

module _ (offset resource : ℕ) (c : Core) (h : MayRelease offset resource (masking ∷ body resource) c) where
  body_owes : Owes offset (offset + 4 + 20) (offset + 4) (body resource) 0 (ReleaseResourceEffect resource) (offset_state offset (based c)) (masked (based c))
  body_owes =
      let small = h.is_resource in
      let fits = h.level in
      let level = word_at c.ram (saved_level resource) in
      loads (saved_level resource) (record { is = omega arith; aligned = omega arith; inside = omega arith }) level refl
      ▸ writes E_OK refl
      ▸ goes_back_at offset (masking ∷ body resource) c h.goes_back (ReleaseResourceEffect resource) level level E_OK c.pending c.pending
      c.ram (omega arith) (λ last is went. record { touches = refl; status = is; back = went })

  runs_it : FromOpening 5 (offset_state offset c) (ReleaseResourceEffect resource)
  runs_it = opens offset 5 (body resource) c (ReleaseResourceEffect resource) h.goes_back.can_run h.goes_back.bases (omega arith) body_owes

-- for each resource
pub releases : (resource : ℕ) → IsReleaseResourceCode resource (masking ∷ body resource)
releases resource = record { size = refl; masks = (body resource, refl); runs = λ offset core h. runs_it offset resource core h }
