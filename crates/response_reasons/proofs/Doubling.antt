-- Nodes twice, node by node.
use Rattle.std.proofs.Common.{◌≡◌, ℕ, ◌+◌, ◌<◌, ◌≤◌, List, [], ◌∷◌, ◌++◌, length, get_or, refl, ap, sym, ◌∙◌, subst, arith, ⊎_elim}
use Rattle.std.proofs.lemmas.Bool.{cases_lt}
use Rattle.std.proofs.lemmas.List.{length-append, get_or_append_left}
use Rattle.std.proofs.Math.Seq.{get_or-append_seam}
use Rattle.walk_sums.specs.declared.graph.Ways.{Ways}
use Rattle.walk_sums.specs.Graph.{no_ways, ways_of}
use Rattle.response_reasons.specs.Doubled.{second_ways, first_ways, AreDoubled}

-- the first nodes, and so many second ones
pub record AreSome (ways : List Ways) (steps : List ℕ) (twice : List Ways) (k : ℕ) : Type 0 where
  pub count : length twice ≡ length ways + k
  pub first : (i : ℕ) → i < length ways → ways_of twice i ≡ first_ways ways steps i
  pub second : (i : ℕ) → i < k → ways_of twice (length ways + i) ≡ second_ways (length ways) (ways_of ways i)

pub second_more : (ways : List Ways) (steps : List ℕ) (old new : List Ways) (x : Ways) (k : ℕ) → AreSome ways steps old k → new ≡ old ++ x ∷ []
    → x ≡ second_ways (length ways) (ways_of ways k) → AreSome ways steps new (k + 1)
second_more ways steps old new x k some e is = subst (λ l. AreSome ways steps l (k + 1)) (sym e) (record {
  count = let l = length-append old (x ∷ []) in let count = some.count in omega (arith, l, count);
  first = λ i lt. get_or_append_left old (x ∷ []) no_ways i (let count = some.count in omega (arith, lt, count)) ∙ some.first i lt;
  second = λ i lt. ⊎_elim
      (λ less. get_or_append_left old (x ∷ []) no_ways (length ways + i) (let count = some.count in omega (arith, less, count)) ∙ some.second i less)
      (λ le.
      let count = some.count in
      let same : i ≡ k = omega (arith, lt, le) in
      let at : length ways + k ≡ length old = omega (arith, count) in
      let here = ap (λ m. get_or (old ++ x ∷ []) m no_ways) at ∙ get_or-append_seam old x [] no_ways ∙ is in
      subst (λ v. ways_of (old ++ x ∷ []) (length ways + v) ≡ second_ways (length ways) (ways_of ways v)) (sym same) here)
      (cases_lt i k);
})

pub all_doubled : (ways : List Ways) (steps : List ℕ) (twice : List Ways) (k : ℕ) → k ≡ length ways → AreSome ways steps twice k → AreDoubled ways steps twice
all_doubled ways steps twice k e some =
    let all = subst (AreSome ways steps twice) e some in record { count = all.count; first = all.first; second = all.second }
