-- The first of what numbers say, number by number.
use Rattle.std.proofs.Common.{◌≡◌, ◌∙◌, ℕ, ◌+◌, suc, ap, sym, subst, arith}
use Rattle.std.specs.Prelude.{Option}
use Rattle.run_windows.specs.declared.costs.Untold.{Untold}
use Rattle.run_windows.specs.FirstUntold.{earlier, first_below}

pub one_further : (f : ℕ → Option Untold) (j : ℕ) (found one next : Option Untold) → found ≡ first_below f j → one ≡ f j → next ≡ earlier found one
    → next ≡ first_below f (j + 1)
one_further f j found one next so_far here e =
    let more : next ≡ first_below f (suc j) = e ∙ (ap (λ x. earlier x one) so_far ∙ ap (earlier (first_below f j)) here) in
    let same : suc j ≡ j + 1 = omega arith in
    subst (λ (i : ℕ). next ≡ first_below f i) same more
