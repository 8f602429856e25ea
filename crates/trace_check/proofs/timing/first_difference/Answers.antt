use Rattle.std.proofs.Common.{◌∙◌, List, ℕ, ap, subst}
use Rattle.std.specs.List.Sorted.{IsPermutation}
use Rattle.trace_check.specs.Counts.{least_apart}
use Rattle.trace_check.proofs.FirstDifferences.{first_apart}
use Rattle.trace_check.proofs.timing.first_difference.Goals as goal

pub returns : goal.returns
returns c =
    let admits = c.sort.new.numbers.items in
    let numbers = c.sort-2.new.numbers.items in
    let P : List ℕ → Type 0 = λ l. IsPermutation l admits in
    let Q : List ℕ → Type 0 = λ l. IsPermutation l numbers in
    first_apart c.args.arrivals.now c.args.events.now c.requires.admits c.requires.lines admits numbers (subst P c.in_ok-admits.ensures c.in_ok-sort.ensures.permutation)
    (subst Q c.in_ok-numbers.ensures c.in_ok-sort-2.ensures.permutation) c.in_ok-sort.ensures.sorted c.in_ok-sort-2.ensures.sorted c.least_apart.result
    (c.least_apart.ensures
    ∙ (ap (λ (l : List ℕ). least_apart l c.as_slice-2.result.now) c.as_slice.ensures.value ∙ ap (λ (l : List ℕ). least_apart admits l) c.as_slice-2.ensures.value))
