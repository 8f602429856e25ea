-- The items of the first bodies.
use Rattle.std.proofs.Common.{◌<◌, ◌≤◌, ◌+◌, ℕ, zero, suc, List, [], ◌∷◌, length, get_or, take, arith}
use Rattle.sloth_base.specs.declared.app.Func.{Func}
use Rattle.map_text.specs.LineRows.{item_count}

-- they are no more than all
pub counted_within : (funcs : List Func) (n : ℕ) → item_count (take n funcs) ≤ item_count funcs
counted_within [] zero = omega arith
counted_within [] (suc n) = omega arith
counted_within (f ∷ funcs) zero = omega arith
counted_within (f ∷ funcs) (suc n) = let rest = counted_within funcs n in omega (arith, rest)

-- nor with those of the next body
pub counted_with : (d : Func) (funcs : List Func) (n : ℕ) → n < length funcs → item_count (take n funcs) + length (get_or funcs n d).items ≤ item_count funcs
counted_with d [] n h = omega (arith, h)
counted_with d (f ∷ funcs) zero h = omega arith
counted_with d (f ∷ funcs) (suc n) h = let rest = counted_with d funcs n (omega (arith, h)) in omega (arith, rest)
