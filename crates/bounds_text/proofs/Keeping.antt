-- Runs keep the bounds that are told.
use Rattle.std.proofs.Common.{◌≡◌, ◌<◌, ◌≤◌, ℕ, List, length, Option, Some, None, sym, ap, arith, ◌⊎◌, inl, inr, refl}
use Rattle.std.specs.Prelude.{◌≢◌, IfSome, IfNone}
use Rattle.std.proofs.lemmas.Bool.{cases_eq, cases_lt}
use Rattle.sloth_base.specs.declared.config.Config.{Config}
use Rattle.sloth_base.specs.declared.app.App.{App}
use Rattle.sloth_base.specs.ConfigRange.{InRange}
use Rattle.sloth_base.specs.Named.{undeclared_task}
use Rattle.code_rules.specs.WellFormed.{WellFormed}
use Rattle.osek_scheduler.specs.Apart.{static_priority}
use Rattle.run_counts.proofs.Runs.{keeps_blocking_bounds}
use Rattle.bound_rules.specs.declared.bound.Bound.{Bound}
use Rattle.bounds_text.specs.Bounds.{AreToldBounds}
use Rattle.bounds_text.proofs.KeptTold.{told-bound}
use Rattle.bounds_text.specs.BoundsText.{HasLines, bound_lines}
use Rattle.bounds_text.specs.KeptRuns.{RunsKeepAll}
use Rattle.bounds_text.specs.Highest.{IsHighestAmong}
use Rattle.bounds_text.specs.Latency.{IsHighestTask}

pub runs-keep-all : (config : Config) (app : App) (bounds : List Bound) → WellFormed config app → AreToldBounds config app bounds → RunsKeepAll config app bounds
runs-keep-all config app bounds code are image arrivals n sound h b is =
    let kept = keeps_blocking_bounds config app image arrivals n code sound in
    record {
      items = λ before behind made found s events-are leads makes.
          kept.bounds before behind made h b found s events-are leads makes (told-bound config app bounds h b are makes.declared is);
      counts = λ before behind made found s events-are leads makes.
          kept.counts before behind made h b found s events-are leads makes (told-bound config app bounds h b are makes.declared is);
    }

-- ---- the task of highest priority

pub highest-task : (config : Config) (highest : Option ℕ) → InRange config → IfSome highest (IsHighestAmong config.tasks)
    → IfNone highest (length config.tasks ≡ 0) → IsHighestTask config highest
highest-task config None range some none = none
highest-task config (Some h) range is none = (is.0, λ t within other. above t within other (is.1 t within))
  where
    above : (t : ℕ) → t < length config.tasks → t ≢ h → static_priority config t ≤ static_priority config h → static_priority config t < static_priority config h
    above t within other le = by (cases_lt t h)
      where
        by : (t < h) ⊎ (h ≤ t) → static_priority config t < static_priority config h
        by (inl before) =
            let differ : static_priority config t ≢ static_priority config h =
            range.priorities_differ t h undeclared_task before is.0 in
            omega (arith, le, differ)
        by (inr behind) =
            let differ : static_priority config h ≢ static_priority config t = range.priorities_differ h t undeclared_task (omega (arith, behind, other)) within in
            let apart : static_priority config t ≢ static_priority config h = λ same. differ (sym same) in
            omega (arith, le, apart)

-- it is one
pub one-highest : (config : Config) (one other : Option ℕ) → IsHighestTask config one → IsHighestTask config other → one ≡ other
one-highest config None None a b = refl
one-highest config None (Some h) a b = let within = b.0 in absurd (let wrong : ⊥ = omega (arith, a, within) in wrong)
one-highest config (Some h) None a b = let within = a.0 in absurd (let wrong : ⊥ = omega (arith, b, within) in wrong)
one-highest config (Some h) (Some k) a b = by (cases_eq h k)
  where
    by : (h ≡ k) ⊎ (h ≢ k) → Some h ≡ Some k
    by (inl same) = ap Some same
    by (inr differ) =
        let one : static_priority config h < static_priority config k = b.1 h a.0 differ in
        let other : static_priority config k < static_priority config h = a.1 k b.0 (λ same. differ (sym same)) in
        absurd (let wrong : ⊥ = omega (arith, one, other) in wrong)

-- ---- the lines

pub has_lines : (config : Config) (app : App) (bounds : List Bound) (text : List ℕ) → WellFormed config app → AreToldBounds config app bounds
    → text ≡ bound_lines config.tasks bounds (length config.tasks) → HasLines config app text
has_lines config app bounds text code are lines =
    record { bounds = bounds; are_bounds = are; lines = lines; kept = runs-keep-all config app bounds code are }
