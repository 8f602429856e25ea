-- Loops of sections are found in the table of the level that the task's body has to reach.
use Rattle.std.proofs.Common.{◌≡◌, ℕ, Bool, true, false, cond, List, Option, Some, None, sym, subst}
use Rattle.sloth_base.specs.declared.config.Config.{Config}
use Rattle.sloth_base.specs.declared.app.App.{App}
use Rattle.sloth_base.specs.Named.{declaration, body_of}
use Rattle.osek_scheduler.specs.Apart.{static_priority}
use Rattle.bound_rules.specs.declared.bound.BodyWeights.{BodyWeights}
use Rattle.run_windows.specs.RunWindows.{IsLeastOf}
use Rattle.walk_sums.specs.declared.levels.Kind.{Kind}
use Rattle.walk_sums.specs.declared.levels.Kind.TheVariants as kinds
use Rattle.response_reasons.specs.Loops.{HasLoopAt, HasTurnLoop, HasSectionLoop}

module _ (config : Config) (app : App) (weights : List BodyWeights) (t b : ℕ) (is_body : b ≡ body_of app.funcs t) (line : Option ℕ) where
  pub of_turns : (kind : Kind) → IsLeastOf (HasLoopAt config app weights kind None b) line → IsLeastOf (HasTurnLoop config app weights kind t) line
  of_turns kind l = subst (λ f. IsLeastOf (HasLoopAt config app weights kind None f) line) is_body l

  module _ (h : ℕ) where
    at_level : (non : Bool) → (declaration config t).non ≡ non → IsLeastOf (HasLoopAt config app weights kinds.Sections (cond non None (Some (static_priority config h))) b) line
        → IsLeastOf (HasSectionLoop config app weights h t) line
    at_level non e l =
        subst (λ f. IsLeastOf (HasLoopAt config app weights kinds.Sections (cond (declaration config t).non None (Some (static_priority config h))) f) line) is_body
        (subst (λ (n : Bool). IsLeastOf (HasLoopAt config app weights kinds.Sections (cond n None (Some (static_priority config h))) b) line) (sym e) l)

    pub of_whole : (declaration config t).non ≡ true → IsLeastOf (HasLoopAt config app weights kinds.Sections None b) line → IsLeastOf (HasSectionLoop config app weights h t) line
    of_whole e l = at_level true e l

    pub of_own : (declaration config t).non ≡ false → IsLeastOf (HasLoopAt config app weights kinds.Sections (Some (static_priority config h)) b) line
        → IsLeastOf (HasSectionLoop config app weights h t) line
    of_own e l = at_level false e l
