use Rattle.std.proofs.Common.{◌≡◌, ◌+◌, suc, List, ◌∷◌, [], ◌++◌, ℕ, sym, ap, ◌∙◌, subst, get_or, arith}
use Rattle.std.proofs.lemmas.List.{get_or_default}
use Rattle.sloth_base.specs.Named.{undeclared_task}
use Rattle.sloth_base.specs.declared.config.TaskDecl.{TaskDecl}
use Rattle.stack_bounds.specs.Bounds.{bytes_of}
use Rattle.mem_map.specs.Stacks.{AreStackLengths}
use Rattle.mem_map.specs.StackParts.{is_extended}
use Rattle.mem_map.proofs.StackLengths.{more, same}
use Rattle.mem_map.proofs.stacks.stack_lengths.Goals as goal
use Rattle.mem_map.proofs.stacks.stack_lengths.Goals.{then-task+in_ok-push, else-task}

pub loop-number-preserved : goal.loop-number-preserved
loop-number-preserved c =
    let tasks = c.args.tasks.now in
    let bounds = c.args.bounds.now in
    let number = c.loop-number.number in
    let before = c.loop-number.lengths.items in
    let is : c.index-tasks-number.result.extended ≡ is_extended tasks number =
    ap (λ (d : TaskDecl). d.extended) (c.index-tasks-number.is ∙ get_or_default tasks number c.index-tasks-number.result undeclared_task c.loop-number-test.true)
    in
    let next : suc number ≡ number + 1 = omega arith in
    let len = get_or c.items-bytes.result.now number 0 in
    let len_is : len ≡ bytes_of bounds number = ap (λ (l : List ℕ). get_or l number 0) c.items-bytes.ensures in
    let range = c.requires.lengths number c.loop-number-test.true in
    elim c.if-task.branch [
      | then-task+in_ok-push w ↦
          subst (AreStackLengths tasks bounds (number + 1)) (sym (ap (λ v. v.items) w.lengths-is ∙ w.in_ok-push.ensures.items))
          (subst (λ e. AreStackLengths tasks bounds e (before ++ len ∷ [])) next
          (more tasks bounds number before c.loop-number.invariant len (sym is ∙ w.if-task.true) len_is (omega (arith, len_is, range.0)) (omega (arith, len_is, range.1))))
      | else-task w ↦
          subst (AreStackLengths tasks bounds (number + 1)) (sym (ap (λ v. v.items) w.lengths-is))
          (subst (λ e. AreStackLengths tasks bounds e before) next (same tasks bounds number before c.loop-number.invariant (sym is ∙ w.if-task.false)))
    ]
