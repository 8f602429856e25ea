-- The least set is one, and so are the lengths that it gives.
use Rattle.std.proofs.Common.{◌≡◌, ◌∙◌, ℕ, ◌<◌, length, get_or, sym, ap, arith}
use Rattle.std.proofs.lemmas.List.{ext_get_or}
use Rattle.std.specs.Cmp.{both_ways}
use Rattle.sloth_base.specs.Named.{function, no_function}
use Rattle.rv32_expand.specs.InPlace.{IsAppItem}
use Rattle.rv32_expand.specs.ItemLengths.{LeastIsOne, SizesAreOne}
use Rattle.rv32_expand.proofs.Agreeing.{size_same}
use Rattle.rv32_expand.proofs.Locating.{locate}

-- two least sets have the same branches
pub least_is_one : LeastIsOne
least_is_one app body a b p q index target g = both_ways (a index) (b index) (p.least b q.suffices index target g) (q.least a p.suffices index target g)

-- and so task code has one list of lengths
pub sizes_are_one : SizesAreOne
sizes_are_one app xs ys p q = ext_get_or 0 xs ys (p.count ∙ sym q.count) same
  where
    same : (k : ℕ) → k < length xs → get_or xs k 0 ≡ get_or ys k 0
    same k h =
        let c = p.count in
        let at = locate app.funcs k no_function (omega (arith, c, h)) in
        let item : IsAppItem app at.func at.index = record { declared = at.declared; inside = at.inside } in
        ap (λ (n : ℕ). get_or xs n 0) at.is ∙ p.each at.func at.index item
        ∙ size_same app (function app at.func) (p.long at.func) (q.long at.func)
        (λ i t g. least_is_one app (function app at.func) (p.long at.func) (q.long at.func) (p.least at.func at.declared) (q.least at.func at.declared) i t g) at.index at.inside
        ∙ sym (q.each at.func at.index item) ∙ ap (λ (n : ℕ). get_or ys n 0) (sym at.is)
