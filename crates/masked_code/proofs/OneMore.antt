-- Instructions added one by one.
use Rattle.std.proofs.Common.{◌≡◌, ℕ, zero, suc, ◌+◌, ◌-◌, ◌*◌, ◌<◌, List, [], ◌∷◌, ◌++◌, length, get_or, sym, ap, ◌∙◌, arith, append_assoc}
use Rattle.std.specs.Prelude.{ℤ, pos}
use Rattle.rv32_instr.specs.declared.InstrKind.{InstrKind}
use Rattle.rv32_instr.specs.declared.InstrKind.TheVariants.{Sw, Lw, Addi}
use Rattle.rv32_instr.specs.Range.{InRange}
use Rattle.rv32_instr.specs.Range.{AreInRange}
use Rattle.masked_code.specs.Pieces.{saving_code, restoring_code, clearing_code, words_clearing_code}

-- each instruction of code in range is in range
pub in_range_at : (kinds : List InstrKind) (i : ℕ) (d : InstrKind) → i < length kinds → AreInRange kinds → InRange (get_or kinds i d)
in_range_at [] i d h f = absurd (omega arith)
in_range_at (kind ∷ kinds) zero d h f = f.0
in_range_at (kind ∷ kinds) (suc i) d h f = in_range_at kinds i d (omega arith) f.1

-- what is still to be generated of a run of instructions begins with the next: of saves
pub saves_more : (end r b : ℕ) (z : ℤ) → r < end → z ≡ pos (4 * r) → saving_code (end - r) r b ≡ Sw b r z ∷ saving_code (end - (r + 1)) (r + 1) b
saves_more end r b z h g =
    let e : end - r ≡ suc (end - (r + 1)) = omega arith in
    let f : suc r ≡ r + 1 = omega arith in
    ap (λ n. saving_code n r b) e ∙ ap (λ x. Sw b r x ∷ saving_code (end - (r + 1)) (suc r) b) (sym g) ∙ ap (λ s. Sw b r z ∷ saving_code (end - (r + 1)) s b) f

-- of loads
pub restores_more : (end r b : ℕ) (z : ℤ) → r < end → z ≡ pos (4 * r) → restoring_code (end - r) r b ≡ Lw r b z ∷ restoring_code (end - (r + 1)) (r + 1) b
restores_more end r b z h g =
    let e : end - r ≡ suc (end - (r + 1)) = omega arith in
    let f : suc r ≡ r + 1 = omega arith in
    ap (λ n. restoring_code n r b) e ∙ ap (λ x. Lw r b x ∷ restoring_code (end - (r + 1)) (suc r) b) (sym g) ∙ ap (λ s. Lw r b z ∷ restoring_code (end - (r + 1)) s b) f

-- of registers that become 0
pub clears_more : (end r : ℕ) → r < end → clearing_code (end - r) r ≡ Addi r 0 (pos 0) ∷ clearing_code (end - (r + 1)) (r + 1)
clears_more end r h =
    let e : end - r ≡ suc (end - (r + 1)) = omega arith in
    let f : suc r ≡ r + 1 = omega arith in
    ap (λ n. clearing_code n r) e ∙ ap (λ s. Addi r 0 (pos 0) ∷ clearing_code (end - (r + 1)) s) f

-- of words that become 0
pub clears_words_more : (end k b : ℕ) (z : ℤ) → k < end → z ≡ pos (4 * k) → words_clearing_code (end - k) k b ≡ Sw b 0 z ∷ words_clearing_code (end - (k + 1)) (k + 1) b
clears_words_more end k b z h g =
    let e : end - k ≡ suc (end - (k + 1)) = omega arith in
    let f : suc k ≡ k + 1 = omega arith in
    ap (λ n. words_clearing_code n k b) e ∙ ap (λ x. Sw b 0 x ∷ words_clearing_code (end - (k + 1)) (suc k) b) (sym g) ∙ ap (λ s. Sw b 0 z ∷ words_clearing_code (end - (k + 1)) s b) f

-- one more, of which the rest is still to come
pub one_more : (code new all rest rest' : List InstrKind) (kind named : InstrKind) → new ≡ code ++ kind ∷ [] → kind ≡ named → rest ≡ named ∷ rest' → code ++ rest ≡ all → new ++ rest' ≡ all
one_more code new all rest rest' kind named e n f g = rw (e, n, append_assoc) (rw (← f) g)
