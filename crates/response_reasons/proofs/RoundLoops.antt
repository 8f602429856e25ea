-- Loops of rounds of a task that is clean, and of turns of one that is not.
use Rattle.std.proofs.Common.{ℕ, ◌⊎◌, inl, inr, List, Option, ⊎_elim}
use Rattle.sloth_base.specs.declared.config.Config.{Config}
use Rattle.sloth_base.specs.declared.app.App.{App}
use Rattle.bound_rules.specs.declared.bound.BodyWeights.{BodyWeights}
use Rattle.run_windows.specs.RunWindows.{IsLeastOf}
use Rattle.run_windows.proofs.Leasts.{same_least}
use Rattle.walk_sums.specs.declared.levels.Kind.TheVariants as kinds
use Rattle.walk_sums.specs.Rounds.{IsClean}
use Rattle.response_reasons.specs.Loops.{HasTurnLoop}
use Rattle.response_reasons.specs.Reasons.{HasRoundLoop}

module _ (config : Config) (app : App) (weights : List BodyWeights) (k : ℕ) (line : Option ℕ) where
  pub of_rounds : IsClean app k → IsLeastOf (HasTurnLoop config app weights kinds.Rounds k) line → IsLeastOf (HasRoundLoop config app weights k) line
  of_rounds clean =
      same_least (HasTurnLoop config app weights kinds.Rounds k) (HasRoundLoop config app weights k) line (λ n h. inl (clean, h))
      (λ n. ⊎_elim (λ p. p.1) (λ p. absurd (p.0 clean)))

  pub of_turns : ¬ (IsClean app k) → IsLeastOf (HasTurnLoop config app weights kinds.Turns k) line → IsLeastOf (HasRoundLoop config app weights k) line
  of_turns stained =
      same_least (HasTurnLoop config app weights kinds.Turns k) (HasRoundLoop config app weights k) line (λ n h. inr (stained, h))
      (λ n. ⊎_elim (λ p. absurd (stained p.0)) (λ p. p.1))
