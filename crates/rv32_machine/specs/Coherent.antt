-- Steps that hang together, from a count on where MIE is this.
use Rattle.std.specs.Prelude.{ℕ, ◌≡◌, ◌+◌, Bool, List, [], ◌∷◌}
use Rattle.sloth_base.specs.declared.numbers.Step.{Step}

-- their counts follow one another, and each finds MIE as the one before left it
abbrev pub AreCoherent : ℕ → Bool → List Step → Type 0
AreCoherent count enabled [] = Unit {0}
AreCoherent count enabled (step ∷ steps) =
    (step.count ≡ count) × (step.enabled_before ≡ enabled) × AreCoherent (count + 1) step.enabled_after steps
