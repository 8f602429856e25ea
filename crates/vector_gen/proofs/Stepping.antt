-- A vector word in place is a step to the line's handler.
use Rattle.std.proofs.Common.{◌≡◌, ℕ, zero, suc, ◌+◌, ◌-◌, ◌*◌, ◌<◌, List, [], ◌∷◌, length, get_or, sym, ap, ◌∙◌, arith, Some, None}
use Rattle.std.specs.Prelude.{pos}
use Rattle.sloth_base.specs.Machine.{Core}
use Rattle.rv32_instr.specs.declared.InstrKind.{InstrKind}
use Rattle.rv32_instr.specs.declared.InstrKind.TheVariants.{Jal}
use Rattle.rv32_instr.specs.Ram.{word_at}
use Rattle.rv32_instr.specs.Table.{Decode}
use Rattle.sloth_base.specs.Arithmetic.{plus}
use Rattle.sloth_base.specs.MemoryMap.{memory_base, vectors_base, line_count}
use Rattle.rv32_instr.specs.Execute.{Going, step, touched, perform, touched_line_by, next_at_target}
use Rattle.masked_code.specs.Place.{offset_state, InPlace}
use Rattle.masked_code.proofs.Machine.{step_at, touched_at, jump_at}
use Rattle.vector_gen.specs.Vectors.{AreInReach, AreJumps, StepToHandlers}

-- an instruction of code in place
placed_at : (ram : List ℕ) (o : ℕ) (code : List InstrKind) (i : ℕ) (d : InstrKind) → i < length code → InPlace ram o code → Decode (word_at ram (o + 4 * i)) ≡ Some (get_or code i d)
placed_at ram o [] i d h p = absurd (omega arith)
placed_at ram o (kind ∷ code) zero d h p = let e : o + 4 * 0 ≡ o = omega arith in ap (λ x. Decode (word_at ram x)) e ∙ p.0
placed_at ram o (kind ∷ code) (suc i) d h p =
    let e : o + 4 * suc i ≡ o + 4 + 4 * i = omega arith in
    ap (λ x. Decode (word_at ram x)) e ∙ placed_at ram (o + 4) code i d (omega arith) p.1

module _ (handlers : List ℕ) (code : List InstrKind) (reach : AreInReach handlers) (words : AreJumps line_count handlers code) where
  here : (k : ℕ) (c : Core) (h : k < line_count) → InPlace c.ram 0x400 code → Decode (word_at c.ram (0x400 + 4 * k)) ≡ Some (Jal 0 (words.each k (Jal 0 (pos 0)) h).0)
  here k c h p =
      let many = words.many in
      placed_at c.ram 0x400 code k (Jal 0 (pos 0)) (omega arith) p ∙ ap Some (words.each k (Jal 0 (pos 0)) h).1

  goes : (k : ℕ) (c : Core) → k < line_count → InPlace c.ram 0x400 code → step (offset_state (0x400 + 4 * k) c) ≡ Going (record { pc = get_or handlers k 0; core = c })
  unfolding perform
  goes k c h p =
      let w = words.each k (Jal 0 (pos 0)) h in
      let a = reach.aligned k h in
      let b = reach.behind k h in
      let o = get_or handlers k 0 - memory_base in
      let e : memory_base + (0x400 + 4 * k) ≡ vectors_base + 4 * k = omega arith in
      let f : get_or handlers k 0 ≡ memory_base + o = omega arith in
      step_at (0x400 + 4 * k) c (Jal 0 w.0) (here k c h p, omega arith)
      ∙ ap (λ x. next_at_target (plus x w.0) c) e
      ∙ ap (λ x. next_at_target x c) (w.2 ∙ f)
      ∙ jump_at o c (omega arith)
      ∙ ap (λ x. Going (record { pc = x; core = c })) (sym f)

  quiet : (k : ℕ) (c : Core) → k < line_count → InPlace c.ram 0x400 code → touched (offset_state (0x400 + 4 * k) c) ≡ None
  unfolding touched_line_by
  quiet k c h p = touched_at (0x400 + 4 * k) c (Jal 0 (words.each k (Jal 0 (pos 0)) h).0) (here k c h p)

  -- for each line
  pub step_to_handlers : StepToHandlers handlers code
  step_to_handlers = record { steps = goes; untouched = quiet }
