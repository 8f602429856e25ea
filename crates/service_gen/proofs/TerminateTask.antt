-- The code of TerminateTask has its effect.
use Rattle.std.proofs.Common.{ℕ, ◌+◌, ◌*◌, List, [], ◌∷◌, ◌++◌, get_or, refl, sym, subst, arith}
use Rattle.std.specs.Prelude.{set}
use Rattle.sloth_base.specs.Machine.{Core}
use Rattle.sloth_base.specs.Arrive.{arrive, state_arrive}
use Rattle.sloth_base.specs.MemoryMap.{memory_base}
use Rattle.rv32_instr.specs.declared.InstrKind.{InstrKind}
use Rattle.masked_code.specs.Place.{offset_state}
use Rattle.masked_code.specs.Masked.{FromOpening}
use Rattle.masked_code.proofs.Owes.{Owes}
use Rattle.masked_code.specs.Kernel.{leaving_code, masking}
use Rattle.masked_code.proofs.Spread.{based, spread_from}
use Rattle.masked_code.proofs.Routines.{masked}
use Rattle.masked_code.proofs.Leave.{leave_owes, behind}
use Rattle.service_gen.proofs.Ending.{ends_owe, ended_below, has_ended}
use Rattle.block_parts.proofs.Serving.{opens}
use Rattle.block_parts.specs.Pieces.{ending_code}
use Rattle.service_gen.specs.TerminateTask.{ended_ram, MayTerminate, TerminateTaskEffect, IsTerminateTaskCode}

-- the code behind the masking instruction
abbrev pub body : List InstrKind
body = ending_code ++ leaving_code

module _ (offset task place : ℕ) (c : Core) (h : MayTerminate offset task place (masking ∷ body) c) where
  body_owes : Owes offset (offset + 4 + 192) (offset + 4) body 0 (TerminateTaskEffect task place) (offset_state offset (based c)) (masked (based c))
  body_owes =
      let small = h.is_task in
      let low = h.can_run.behind in
      let fits = h.can_run.inside in
      let x2 = get_or c.registers 2 0 in
      let tail = spread_from 26 6 c.registers in
      ends_owe offset (offset + 4 + 192) task (TerminateTaskEffect task place) (offset_state offset (based c)) leaving_code (masked (based c)) (get_or c.registers 1 0) x2 (get_or c.registers 5 0) tail small h.runs low (offset + 4)
      (λ lines only.
      let start = state_arrive lines (offset_state offset (based c)) in
      let d = record (masked (based c)) { pending = set (arrive lines c.pending) task 0; ram = ended_ram c.ram task } in
      leave_owes offset (offset + 4 + 192) (λ touched. TerminateTaskEffect task place (task ∷ touched)) start place d (memory_base + 12 * (task + 1)) x2 (8 * (task + 1)) tail refl refl h.previous
      (ended_below c d task place small refl h.below) low (behind 10 offset) (omega (arith, fits))
      (λ end left. subst (λ p. TerminateTaskEffect task place (task ∷ []) start (record end { core = record end.core { pending = p } })) (sym left.left.pending)
      (has_ended c d task place start end small h.below.behind refl refl refl refl refl refl left)))

  runs_it : FromOpening 48 (offset_state offset c) (TerminateTaskEffect task place)
  runs_it = opens offset 48 body c (TerminateTaskEffect task place) h.can_run h.bases (omega arith) body_owes

-- the running task ends, and what runs below goes on
pub terminates : IsTerminateTaskCode (masking ∷ body)
terminates = record { size = refl; masks = (body, refl); runs = λ offset task place core h. runs_it offset task place core h }
