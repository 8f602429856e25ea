-- The idle loop stays where it is.
use Rattle.std.proofs.Common.{refl, ◌≡◌, ℕ, ◌+◌, ◌%◌, ◌≤◌, [], ◌∷◌, ap, ◌∙◌, arith, None}
use Rattle.std.specs.Prelude.{pos}
use Rattle.sloth_base.specs.Machine.{Core}
use Rattle.rv32_instr.specs.declared.InstrKind.TheVariants.{Jal}
use Rattle.sloth_base.specs.Arithmetic.{plus}
use Rattle.sloth_base.specs.MemoryMap.{memory_base, memory_bytes}
use Rattle.rv32_instr.specs.Execute.{Going, step, touched, perform, touched_line_by, next_at_target}
use Rattle.masked_code.specs.Place.{offset_state, InPlace}
use Rattle.masked_code.proofs.Machine.{step_at, touched_at, jump_at}
use Rattle.vector_gen.specs.Idle.{IsIdleCode}

stays : (o : ℕ) (c : Core) → o % 4 ≡ 0 → o + 4 ≤ memory_bytes → InPlace c.ram o (Jal 0 (pos 0) ∷ []) → step (offset_state o c) ≡ Going (offset_state o c)
unfolding perform
stays o c al h p =
    let e : plus (memory_base + o) (pos 0) ≡ memory_base + o = omega arith in
    step_at o c (Jal 0 (pos 0)) (p.0, h) ∙ ap (λ a. next_at_target a c) e ∙ jump_at o c al

untouched : (o : ℕ) (c : Core) → InPlace c.ram o (Jal 0 (pos 0) ∷ []) → touched (offset_state o c) ≡ None
unfolding touched_line_by
untouched o c p = touched_at o c (Jal 0 (pos 0)) p.0

-- each step jumps to itself, and takes up no arrival
pub idles : IsIdleCode (Jal 0 (pos 0) ∷ [])
idles = record { word = refl; stays = stays; untouched = untouched }
