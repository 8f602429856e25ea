-- Task code that was read is what images are generated of.
use Rattle.std.proofs.Common.{ℕ, ◌<◌, length}
use Rattle.sloth_base.specs.declared.app.App.{App}
use Rattle.sloth_base.specs.declared.config.Config.{Config}
use Rattle.sloth_base.specs.Named.{body_of, IsBodyOf}
use Rattle.code_rules.specs.WellFormed.{WellFormed}
use Rattle.osek_scheduler.proofs.Facts.{facts}
use Rattle.osek_scheduler.proofs.Stacks.{has_body}
use Rattle.sloth_build.specs.Gathered.{MayBuild}
use Rattle.sloth_base.specs.declared.limits.Bounds.{Bounds}
use Rattle.stack_bounds.specs.Bounds.{AreBounds}
use Rattle.sloth_source.specs.SourceText.{BodiesAreNamed}

module _ (config : Config) (app : App) (w : WellFormed config app) where
  body : (t : ℕ) → t < length config.tasks → IsBodyOf app t (body_of app.funcs t)
  body t declared = has_body config app (facts config app w) t declared

  pub may_build : BodiesAreNamed config app → (bounds : Bounds) → AreBounds config app bounds → MayBuild config app bounds
  may_build named bounds are = record {
    well_formed = w;
    named = λ t below. let is = body t below in (body_of app.funcs t, is.0, is.1, named (body_of app.funcs t) t is);
    are_bounds = are;
  }
