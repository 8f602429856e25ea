-- Where pieces right behind one another end.
use Rattle.std.proofs.Common.{◌≡◌, ◌≤◌, ◌<◌, ◌+◌, ◌*◌, ℕ, List, [], ◌∷◌, length, get_or, drop, ap, arith}
use Rattle.std.specs.Prelude.{map}
use Rattle.std.proofs.lemmas.List.{drop_more}
use Rattle.mem_map.specs.Starts.{end_of, code_byte_count}

-- the end is not below the start
pub end_above : (from : ℕ) (lengths : List ℕ) → from ≤ end_of from lengths
end_above from [] = omega arith
end_above from (len ∷ lengths) = let r = end_above (from + len) lengths in omega (arith, r)

-- in a loop, the next piece of code ends by the end
pub next_code_fits : (free bound : ℕ) (sizes : List ℕ) (i : ℕ) → i < length sizes → end_of free (map code_byte_count (drop i sizes)) ≡ bound → bound < 4294967296
    → free + 4 * get_or sizes i 0 < 4294967296
next_code_fits free bound sizes i h e fits =
    let cut = ap (λ rest. end_of free (map code_byte_count rest)) (drop_more sizes i 0 h) in
    let a = end_above (free + 4 * get_or sizes i 0) (map code_byte_count (drop (i + 1) sizes)) in
    omega (arith, cut, e, a, fits)
