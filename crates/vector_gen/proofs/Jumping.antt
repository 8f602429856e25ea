-- One more vector word.
use Rattle.std.proofs.Common.{◌≡◌, ℕ, ◌+◌, ◌-◌, ◌*◌, List, [], ◌∷◌, ◌++◌, get_or, sym, ap, ◌∙◌, subst, arith, ⊎_elim, length-append}
use Rattle.std.proofs.lemmas.Bool.{cases_eq}
use Rattle.std.proofs.lemmas.List.{get_or_append_left, get_or-append_right}
use Rattle.sloth_base.specs.MemoryMap.{vectors_base}
use Rattle.rv32_instr.specs.declared.InstrKind.{InstrKind}
use Rattle.block_parts.specs.Boot.{IsJump}
use Rattle.vector_gen.specs.Vectors.{AreJumps}

-- a jump to the next line's handler behind those of all lines before it
pub jumps_more : (n : ℕ) (handlers : List ℕ) (code new : List InstrKind) (kind : InstrKind) → AreJumps n handlers code → new ≡ code ++ kind ∷ []
    → IsJump (vectors_base + 4 * n) (get_or handlers n 0) kind → AreJumps (n + 1) handlers new
jumps_more n handlers code new kind before e is_jump =
    let many = before.many in
    let longer = length-append code (kind ∷ []) in
    subst (AreJumps (n + 1) handlers) (sym e) (record {
      many = omega arith;
      each = λ line d below. ⊎_elim
          (λ same.
          let none : line - n ≡ 0 = omega arith in
          let at_end : get_or (code ++ kind ∷ []) line d ≡ kind = get_or-append_right code (kind ∷ []) n line d many (omega arith) ∙ ap (λ k. get_or (kind ∷ []) k d) none in
          subst (λ k. IsJump (vectors_base + 4 * line) (get_or handlers line 0) k) (sym at_end) (subst (λ l. IsJump (vectors_base + 4 * l) (get_or handlers l 0) kind) (sym same) is_jump))
          (λ other. subst (λ k. IsJump (vectors_base + 4 * line) (get_or handlers line 0) k) (sym (get_or_append_left code (kind ∷ []) d line (omega arith))) (before.each line d (omega arith)))
          (cases_eq line n);
    })
