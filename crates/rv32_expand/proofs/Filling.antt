-- Instructions put into their places one by one.
use Rattle.std.proofs.Common.{◌≡◌, ◌∙◌, ℕ, zero, suc, ◌+◌, ◌-◌, ◌<◌, ◌≤◌, List, [], ◌∷◌, ◌++◌, length, get_or, set, take, sym, ap, subst, arith, append_assoc}
use Rattle.std.proofs.Math.ListN.{replicate}
use Rattle.std.proofs.Math.Seq.{set-append_seam}
use Rattle.std.proofs.lemmas.List.{length-take-le, take_more}
use Rattle.rv32_instr.specs.declared.InstrKind.{InstrKind}
use Rattle.rv32_instr.specs.Range.{InRange, AreInRange}
use Rattle.rv32_expand.specs.Nothing.{nop}

-- each of these instructions is in range
pub one_in_range : (kinds : List InstrKind) (i : ℕ) (d : InstrKind) → AreInRange kinds → i < length kinds → InRange (get_or kinds i d)
one_in_range [] i d r h = absurd (omega arith)
one_in_range (kind ∷ kinds) zero d r h = r.0
one_in_range (kind ∷ kinds) (suc i) d r h = one_in_range kinds i d r.1 (omega arith)

-- the first i places hold instructions, and the others nothing
abbrev pub filled : List InstrKind → ℕ → List InstrKind
filled kinds i = take i kinds ++ replicate (36 - i) nop

-- one more instruction fills the next place
pub one_filled : (kinds : List InstrKind) (i : ℕ) (d : InstrKind) → i < length kinds → length kinds ≤ 36 → set (filled kinds i) i (get_or kinds i d) ≡ filled kinds (i + 1)
one_filled kinds i d h few =
    let n : 36 - i ≡ suc (36 - (i + 1)) = omega arith in
    let l : length (take i kinds) ≡ i = length-take-le i kinds (omega arith) in
    let rest = replicate (36 - (i + 1)) nop in
    ap (λ (k : ℕ). set (take i kinds ++ replicate k nop) i (get_or kinds i d)) n
    ∙ subst (λ (k : ℕ). set (take i kinds ++ nop ∷ rest) k (get_or kinds i d) ≡ take i kinds ++ get_or kinds i d ∷ rest) l (set-append_seam (take i kinds) nop rest (get_or kinds i d))
    ∙ sym (append_assoc (take i kinds) (get_or kinds i d ∷ []) rest)
    ∙ ap (λ (xs : List InstrKind). xs ++ rest) (sym (take_more kinds i d h))
