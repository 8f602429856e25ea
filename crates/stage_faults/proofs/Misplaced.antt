-- What is misplaced among lines, as they are read.
use Rattle.std.proofs.Common.{◌≡◌, ◌∙◌, ℕ, ◌+◌, ◌<◌, Bool, false, List, [], ◌∷◌, ◌++◌, take, get_or, length, ap, sym, add-one}
use Rattle.std.specs.Prelude.{◌||◌}
use Rattle.std.specs.List.{fold}
use Rattle.std.proofs.Math.Bool.{or-false, or_assoc}
use Rattle.std.proofs.Math.Seq.{take-suc}
use Rattle.asm_lines.specs.declared.source_line.SourceLine.{SourceLine}
use Rattle.asm_lines.specs.Faults.{after_line, is_end_inside}
use Rattle.stage_faults.specs.ToldLines.{is_misplaced, any_misplaced}

any_push : (inside : Bool) (ls : List SourceLine) (x : SourceLine) → any_misplaced inside (ls ++ x ∷ []) ≡ (any_misplaced inside ls || is_misplaced (fold after_line inside ls) x)
any_push inside [] x = or-false (is_misplaced inside x)
any_push inside (s ∷ ls) x =
    ap (λ t. is_misplaced inside s || t) (any_push (after_line inside s) ls x)
    ∙ sym (or_assoc (is_misplaced inside s) (any_misplaced (after_line inside s) ls) (is_misplaced (fold after_line (after_line inside s) ls) x))

pub any_more : (xs : List SourceLine) (i : ℕ) (x : SourceLine) → i < length xs → x ≡ get_or xs i x
    → any_misplaced false (take (i + 1) xs) ≡ (any_misplaced false (take i xs) || is_misplaced (is_end_inside (take i xs)) x)
any_more xs i x h e =
    let t : take (i + 1) xs ≡ take i xs ++ x ∷ [] = rw add-one (take-suc xs i x h ∙ ap (λ y. take i xs ++ y ∷ []) (sym e)) in
    ap (any_misplaced false) t ∙ any_push false (take i xs) x
