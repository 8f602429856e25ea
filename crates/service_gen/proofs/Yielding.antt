-- The code of Schedule has its effect, and so has the way back.
use Rattle.std.proofs.Common.{◌≡◌, ℕ, ◌+◌, ◌*◌, ◌-◌, ◌%◌, ◌≤◌, List, [], ◌∷◌, ◌++◌, length, get_or, refl, ◌∙◌, subst, arith}
use Rattle.std.specs.Prelude.{true, set, ◌≢◌}
use Rattle.std.proofs.lemmas.List.{get_or-set_other}
use Rattle.sloth_base.specs.Machine.{Core, State}
use Rattle.sloth_base.specs.Status.{E_OK}
use Rattle.sloth_base.specs.MemoryMap.{memory_base, controller_base}
use Rattle.sloth_region.specs.Layout.{cur}
use Rattle.rv32_instr.specs.declared.InstrKind.{InstrKind}
use Rattle.rv32_instr.specs.declared.InstrKind.TheVariants.{Csrrw, Mret}
use Rattle.rv32_instr.specs.declared.csr.TheConstants.{MEPC, PLEVEL}
use Rattle.masked_code.specs.Place.{offset_state, InPlace}
use Rattle.masked_code.specs.Masked.{FromOpening}
use Rattle.masked_code.specs.Kernel.{CanRun, masking}
use Rattle.masked_code.proofs.Owes.{◌▸◌, writes, loads, loads_byte, accesses, Owes, Level}
use Rattle.masked_code.proofs.Spread.{based, spread_from, others}
use Rattle.masked_code.proofs.Routines.{masked}
use Rattle.block_parts.proofs.Landing.{lands}
use Rattle.block_parts.proofs.Serving.{opens_within}
use Rattle.block_parts.specs.Services.{level_code}
use Rattle.service_gen.specs.TaskPieces.{way_back_address_code, way_back_code, way_back_stop_code}
use Rattle.block_parts.specs.Back.{a0}
use Rattle.service_gen.specs.Schedule.{start_register, way_back, MayYield, ScheduleEffect, MayComeBack, WayBackEffect, IsScheduleCode}

-- up to the way back
abbrev pub lowering : List InstrKind
lowering = level_code ++ way_back_address_code

-- the code behind the masking instruction
abbrev pub body : List InstrKind
body = lowering ++ (way_back_code ++ way_back_stop_code)

-- ---- code in place is so behind its first part

-- where code stands, its last part stands behind its first
pub in_place-rest : (ram : List ℕ) (first rest : List InstrKind) (offset : ℕ) → InPlace ram offset (first ++ rest) → InPlace ram (offset + 4 * length first) rest
in_place-rest ram [] rest offset h = subst (λ o. InPlace ram o rest) (let e : offset ≡ offset + 0 = omega arith in e) h
in_place-rest ram (kind ∷ first) rest offset h =
    let e : offset + 4 + 4 * length first ≡ offset + 4 * length (kind ∷ first) = omega arith in
    subst (λ o. InPlace ram o rest) e (in_place-rest ram first rest (offset + 4) h.1)

-- ---- the lower level

module _ (offset task : ℕ) (c : Core) (h : MayYield offset task (masking ∷ body) c) where
  abbrev x2 : ℕ
  x2 = get_or c.registers 2 0

  abbrev level : ℕ
  level = get_or c.levels task 0

  abbrev tail : List ℕ
  tail = spread_from 27 5 c.registers

  abbrev there : ℕ
  there = memory_base + (offset + 24)

  -- the registers at the end
  abbrev low : List ℕ
  low = 0 ∷ there ∷ x2 ∷ controller_base ∷ memory_base ∷ tail

  abbrev end : State
  end =
      record {
        pc = there - there % 4;
        core = record (based c) { registers = set (set low 30 c.plevel) 10 E_OK; mepc = there - there % 4; plevel = level % 256; ilevel = level % 256; mie = c.mpie; mpie = true };
      }

  kept : (i : ℕ) → 5 ≤ i → i ≢ a0 → i ≢ start_register → get_or end.core.registers i 0 ≡ get_or (based c).registers i 0
  kept i past not_status not_level =
      get_or-set_other (set low 30 c.plevel) 10 i E_OK 0 not_status ∙ get_or-set_other low 30 i c.plevel 0 not_level
      ∙ others there x2 controller_base memory_base (get_or c.registers 1 0) x2 controller_base memory_base tail i past

  has_yielded : ScheduleEffect offset task [] (offset_state offset (based c)) end
  has_yielded =
      let fits = h.line in
      let aligned = h.can_run.aligned in
      record {
        touches = refl;
        left = record { zero = refl; registers = refl; bases = (refl, refl); opened = h.previous; previous = refl; running = omega arith; same_level = refl; pending = refl; enabled = refl; levels = refl; ram = refl; scratch = refl; controller = refl };
        pc = omega arith;
        x2 = refl;
        status = refl;
        level = h.same_level;
        kept = kept;
      }

  lowering_owes : Owes offset (offset + 4 + 48) (offset + 4) body 0 (ScheduleEffect offset task) (offset_state offset (based c)) (masked (based c))
  lowering_owes =
      let small = h.is_task in
      let inside = h.can_run.inside in
      loads cur (record { is = refl; aligned = refl; inside = omega arith }) (task + 1) h.runs
      ▸ writes (task + 1 + controller_base) (omega arith)
      ▸ loads_byte (Level task) (omega arith, omega arith)
      ▸ accesses c.plevel refl refl
      ▸ writes there (omega arith)
      ▸ record {
        passed = 4;
        lands = lands (offset + 4 + 4 + 4 + 4 + 4) 20 4 (omega arith) (omega arith) refl;
        goes_on = accesses c.mepc refl refl ▸ writes E_OK refl ▸ has_yielded;
      }

  lowers_it : FromOpening 8 (offset_state offset c) (ScheduleEffect offset task)
  lowers_it = opens_within offset 8 body c (ScheduleEffect offset task) h.can_run h.bases (omega arith) lowering_owes

-- ---- the way back

-- behind its first instruction
abbrev returning : List InstrKind
returning = Csrrw 0 30 PLEVEL ∷ Csrrw 0 31 MEPC ∷ Mret ∷ way_back_stop_code

module _ (offset : ℕ) (c : Core) (h : MayComeBack offset (masking ∷ body) c) where
  returning_owes : Owes (offset + way_back) (offset + way_back + 4 + 24) (offset + way_back + 4) returning 0 WayBackEffect (offset_state (offset + way_back) (based c)) (masked (based c))
  returning_owes =
      let fits = h.level in
      let aligned = h.goes_back.back in
      accesses c.plevel refl refl
      ▸ accesses c.mepc refl refl
      ▸ record {
        touches = refl;
        left = record { zero = refl; registers = refl; bases = (refl, refl); opened = h.goes_back.previous; previous = refl; running = omega arith; same_level = refl; pending = refl; enabled = refl; levels = refl; ram = refl; scratch = refl; controller = refl };
        pc = omega arith;
        registers = refl;
      }

  can_return : CanRun (offset + way_back) (masking ∷ returning) c
  can_return =
      let can = h.goes_back.can_run in
      let inside = can.inside in
      let aligned = can.aligned in
      let behind = can.behind in
      record {
        controller = can.controller;
        registers = can.registers;
        zero = can.zero;
        lines = can.lines;
        aligned = omega arith;
        behind = omega arith;
        inside = omega arith;
        placed = in_place-rest c.ram (masking ∷ lowering) (way_back_code ++ way_back_stop_code) offset can.placed;
      }

  returns_it : FromOpening 3 (offset_state (offset + way_back) c) WayBackEffect
  returns_it = opens_within (offset + way_back) 3 returning c WayBackEffect can_return h.goes_back.bases (omega arith) returning_owes

-- the level goes down to the task's own, and is as before on the way back
pub yields : IsScheduleCode (masking ∷ body)
yields =
    record {
      size = refl;
      masks = (body, refl);
      runs = record {
        masks_again = (masking ∷ lowering, returning, refl, refl);
        lowers = λ offset task core h. lowers_it offset task core h;
        comes_back = λ offset core h. returns_it offset core h;
      };
    }
