-- The code of GetTaskID has its effect.
use Rattle.std.proofs.Common.{ℕ, ◌+◌, List, ◌∷◌, ◌++◌, get_or, refl, arith}
use Rattle.sloth_base.specs.Machine.{Core}
use Rattle.sloth_base.specs.Status.{E_OK}
use Rattle.sloth_region.specs.Layout.{cur}
use Rattle.rv32_instr.specs.declared.InstrKind.{InstrKind}
use Rattle.masked_code.specs.Place.{offset_state}
use Rattle.masked_code.specs.Masked.{FromOpening}
use Rattle.masked_code.specs.Kernel.{masking}
use Rattle.masked_code.proofs.Owes.{◌▸◌, writes, loads, Owes}
use Rattle.masked_code.proofs.Spread.{based}
use Rattle.masked_code.proofs.Routines.{masked}
use Rattle.block_parts.proofs.Returning.{goes_back_with}
use Rattle.block_parts.proofs.Serving.{opens}
use Rattle.service_gen.specs.TaskPieces.{own_telling_code}
use Rattle.block_parts.specs.Pieces.{back_code}
use Rattle.service_gen.specs.GetTaskID.{MayTell, GetTaskIDEffect, IsGetTaskIDCode}

-- the code behind the masking instruction
abbrev pub body : List InstrKind
body = own_telling_code ++ back_code

module _ (offset task : ℕ) (c : Core) (h : MayTell offset task (masking ∷ body) c) where
  body_owes : Owes offset (offset + 4 + 20) (offset + 4) body 0 (GetTaskIDEffect task) (offset_state offset (based c)) (masked (based c))
  body_owes =
      let small = h.is_task in
      loads cur (record { is = refl; aligned = refl; inside = omega arith }) (task + 1) h.runs
      ▸ writes task (omega arith)
      ▸ writes E_OK refl
      ▸ goes_back_with offset (masking ∷ body) c h.goes_back (GetTaskIDEffect task) (get_or c.registers 1 0) E_OK task c.pending c.pending
      c.ram (λ last is answer went. record { touches = refl; status = is; number = answer; back = went })

  runs_it : FromOpening 5 (offset_state offset c) (GetTaskIDEffect task)
  runs_it = opens offset 5 body c (GetTaskIDEffect task) h.goes_back.can_run h.goes_back.bases (omega arith) body_owes

-- the number of the running task goes to a1
pub tells : IsGetTaskIDCode (masking ∷ body)
tells = record { size = refl; masks = (body, refl); runs = λ offset task core h. runs_it offset task core h }
