-- One number more of a range.
use Rattle.std.proofs.Common.{◌≡◌, ◌∙◌, ℕ, suc, ◌+◌, ◌-◌, ◌<◌, List, ◌++◌, append_assoc, arith, sym, ap}
use Rattle.std.specs.List.{flat_map, range_with_len}

-- a loop over the numbers from a to n appends the text of each
pub put_more : (f : ℕ → List ℕ) (all old new : List ℕ) (i n : ℕ) → i < n → new ≡ old ++ f i
    → old ++ flat_map f (range_with_len i (n - i)) ≡ all → new ++ flat_map f (range_with_len (i + 1) (n - (i + 1))) ≡ all
put_more f all old new i n h put before =
    let e : n - i ≡ suc (n - (i + 1)) = omega arith in
    ap (λ x. x ++ flat_map f (range_with_len (i + 1) (n - (i + 1)))) put
    ∙ append_assoc old (f i) (flat_map f (range_with_len (i + 1) (n - (i + 1))))
    ∙ ap (λ k. old ++ flat_map f (range_with_len i k)) (sym e)
    ∙ before
