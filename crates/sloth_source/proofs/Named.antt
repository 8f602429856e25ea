-- The body of a task has the task's name.
use Rattle.std.proofs.Common.{◌≡◌, ◌∙◌, ap, sym, ℕ, Bool, true, false, cond, List, [], get_or, Some, None, arith}
use Rattle.std.specs.Prelude.{position}
use Rattle.std.specs.Str.{bytes_eq}
use Rattle.std.proofs.lemmas.List.{length-map, get_or-map}
use Rattle.sloth_base.specs.Named.{function, no_function, declaration, undeclared_task}
use Rattle.sloth_base.specs.declared.app.Func.{Func}
use Rattle.sloth_base.specs.declared.config.Config.{Config}
use Rattle.sloth_base.specs.declared.config.TaskDecl.{TaskDecl}
use Rattle.asm_lines.specs.declared.source_line.SourceLine.{SourceLine}
use Rattle.asm_scopes.specs.Bodies.{BodyText, bodies_of, body_name, is_task_body}
use Rattle.sloth_base.specs.DeclaredNames.{task_names}
use Rattle.asm_scopes.specs.Scopes.{scope_of}
use Rattle.asm_parse.specs.Apps.{func_of, app_of}
use Rattle.asm_parse.proofs.BodiesRead.{no_body}
use Rattle.asm_parse.proofs.Places.{stands}
use Rattle.sloth_source.specs.SourceText.{BodiesAreNamed}

module _ (config : Config) (ls : List SourceLine) where
  abbrev bodies : List BodyText
  bodies = bodies_of ls

  -- the task with the number of a name has this name
  has_name : (name : List ℕ) (t : ℕ) → position (bytes_eq name) (task_names config) ≡ Some t → name ≡ (declaration config t).name
  has_name name t found =
      let at = stands (task_names config) name t [] found in
      let inside = at.0 in
      let count = length-map config.tasks (λ (task : TaskDecl). task.name) in
      sym at.1 ∙ get_or-map (λ (task : TaskDecl). task.name) config.tasks t undeclared_task [] (omega (arith, inside, count))

  -- only the body of a task has one
  of_task : (body : BodyText) (t : ℕ) (b : Bool) → cond b (position (bytes_eq (body_name body)) (task_names config)) None ≡ Some t
      → body_name body ≡ (declaration config t).name
  of_task body t true found = has_name (body_name body) t found
  of_task body t false found = absurd cc

  pub named : BodiesAreNamed config (app_of config ls)
  named f t is =
      let below = is.0 in
      let count = length-map bodies (func_of config (scope_of config ls bodies)) in
      let at : function (app_of config ls) f ≡ func_of config (scope_of config ls bodies) (get_or bodies f no_body) =
      get_or-map (func_of config (scope_of config ls bodies)) bodies f no_body no_function (omega (arith, below, count)) in
      ap (λ (g : Func). g.name) at ∙ of_task (get_or bodies f no_body) t (is_task_body (get_or bodies f no_body)) (sym (ap (λ (g : Func). g.task) at) ∙ is.1)
