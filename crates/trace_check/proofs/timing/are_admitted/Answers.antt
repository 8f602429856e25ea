use Rattle.std.proofs.Common.{◌≡◌, List, ℕ, subst}
use Rattle.std.specs.Bool.{Decides}
use Rattle.std.proofs.lemmas.Slice.Eq.{bytes_eq-Decides}
use Rattle.std.proofs.lemmas.Bool.Decides.{Decides-at}
use Rattle.std.specs.List.Sorted.{IsPermutation}
use Rattle.trace_check.proofs.Decided.{decides_counts}
use Rattle.trace_check.proofs.timing.are_admitted.Goals as goal

pub returns : goal.returns
returns c =
    let admits = c.sort.new.numbers.items in
    let numbers = c.sort-2.new.numbers.items in
    let P : List ℕ → Type 0 = λ l. IsPermutation l numbers in
    let Q : List ℕ → List ℕ → Type 0 = λ l m. Decides c.eq.result (l ≡ m) in
    let same = Decides-at _ _ c.eq.ensures (bytes_eq-Decides c.as_slice.result.now c.as_slice-2.result.now) in
    decides_counts _ _ admits numbers c.in_ok-sort.ensures.permutation (subst P c.in_ok-numbers.ensures c.in_ok-sort-2.ensures.permutation)
    c.in_ok-sort.ensures.sorted c.in_ok-sort-2.ensures.sorted c.eq.result
    (subst (λ (l : List ℕ). Q l numbers) c.as_slice.ensures.value (subst (λ (m : List ℕ). Q c.as_slice.result.now m) c.as_slice-2.ensures.value same))
