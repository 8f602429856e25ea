-- The sums that count Schedules tell which tasks are steady.
use Rattle.std.proofs.Common.{ℕ, ◌<◌, Bool, false, ◌&&◌, leb, List, length, get_or, None, refl, ap, sym, ◌∙◌}
use Rattle.std.specs.Prelude.{Decides}
use Rattle.std.proofs.lemmas.Bool.{and_parts}
use Rattle.sloth_base.specs.declared.config.Config.{Config}
use Rattle.sloth_base.specs.declared.app.App.{App}
use Rattle.sloth_base.specs.Named.{body_of, declaration}
use Rattle.code_rules.specs.WellFormed.{WellFormed}
use Rattle.bound_rules.specs.declared.bound.Summary.{Summary}
use Rattle.bound_rules.specs.Summaries.{summary_of}
use Rattle.walk_sums.proofs.Bodily.{facts_of}
use Rattle.walk_sums.specs.declared.levels.Kind.TheVariants as kinds
use Rattle.walk_sums.specs.declared.counted.Counted.TheVariants as counts
use Rattle.walk_sums.specs.Rounds.{IsSteady}
use Rattle.walk_sums.specs.Counted.{counted_weights}
use Rattle.walk_sums.specs.Known.{AreSums}
use Rattle.walk_sums.specs.Clears.{AreSteadyMarks}
use Rattle.walk_sums.proofs.Reaching.{none_decided}

pub marks_decide : (config : Config) (app : App) → WellFormed config app → (table : List Summary) → AreSums config app (counted_weights counts.Schedules app) kinds.Turns None table
    → (marks : List Bool) → AreSteadyMarks config.tasks app.funcs (length config.tasks) table marks → (t : ℕ) → t < length config.tasks → Decides (get_or marks t false) (IsSteady config app t)
marks_decide config app well table are marks m t lt =
    let d = none_decided counts.Schedules (λ o. refl) config app (facts_of config app well) table are t lt in (
      λ e.
          let both = and_parts (declaration config t).non (leb (summary_of table (body_of app.funcs t)).on 1) (sym (m.exact t lt) ∙ e) in
          record { non = both.0; none = d.0 both.1 },
      λ s. m.exact t lt ∙ ap (λ b. b && leb (summary_of table (body_of app.funcs t)).on 1) s.non ∙ d.1 s.none,
    )
