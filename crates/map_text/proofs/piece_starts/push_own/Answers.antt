use Rattle.std.proofs.Common.{rules, ◌≡◌, ◌∙◌, ◌++◌, ◌∷◌, [], List, get_or, sym, ap}
use Rattle.std.proofs.lemmas.List.{get_or_default}
use Rattle.sloth_base.specs.Named.{undeclared_task}
use Rattle.sloth_base.specs.declared.config.TaskDecl.{TaskDecl}
use Rattle.mem_map.specs.StackParts.{is_extended}
use Rattle.mem_map.specs.Zones.{stack_of}
use Rattle.map_text.specs.Rows.{extent_row}
use Rattle.map_text.specs.declared.piece_starts.Kind.TheVariants as kind
use Rattle.map_text.proofs.OneRow.{own_begin, own_more, own_passed}
use Rattle.map_text.proofs.piece_starts.push_own.Goals as goal
use Rattle.map_text.proofs.piece_starts.push_own.Goals.{then-tasks-task+in_ok-push, else-tasks-task}

pub loop-task-init : goal.loop-task-init
loop-task-init c = own_begin c.args.config.now c.args.map.now c.args.rows.now.items

pub loop-task-preserved : goal.loop-task-preserved
loop-task-preserved c =
    let config = c.args.config.now in
    let tasks = c.items-tasks.result.now in
    let t = c.loop-task.task in
    let old = c.args.rows.now.items in
    let is : (get_or tasks t c.index-tasks-task.result).extended ≡ is_extended config.tasks t =
    ap (λ (d : TaskDecl). d.extended) (get_or_default tasks t c.index-tasks-task.result undeclared_task c.loop-task-test.true)
    ∙ ap (λ (l : List TaskDecl). is_extended l t) c.items-tasks.ensures
    in
    elim c.if-tasks-task.branch [
      | then-tasks-task+in_ok-push w ↦
          let more : c.if-tasks-task.rows.items ≡ c.loop-task.rows.items ++ extent_row kind.Stack t (stack_of c.args.map.now t) ∷ [] = search rules in
          own_more config c.args.map.now t old c.loop-task.rows.items c.loop-task.invariant c.if-tasks-task.rows.items (sym is ∙ w.if-tasks-task.true) more
      | else-tasks-task w ↦
          ap (λ r. r.items) w.rows-is
          ∙ own_passed config c.args.map.now t old c.loop-task.rows.items c.loop-task.invariant (sym is ∙ w.if-tasks-task.false)
    ]
