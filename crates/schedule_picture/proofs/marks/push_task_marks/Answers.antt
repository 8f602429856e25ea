use Rattle.std.proofs.Common.{rules, ◌≡◌, ◌∙◌, List, [], ◌∷◌, ◌++◌, ap, append_assoc}
use Rattle.std.specs.Prelude.{cond}
use Rattle.schedule_picture.specs.declared.marks.Mark.{Mark}
use Rattle.schedule_picture.specs.declared.marks.Sign.TheVariants as sign
use Rattle.schedule_picture.specs.Marks.{is_task_woken, is_task_activated}
use Rattle.schedule_picture.proofs.marks.push_task_marks.Goals as goal

pub returns : goal.returns
returns c =
    let a = c.args in
    let before = a.before.now in
    let now = a.now.now in
    let one : List Mark = cond (is_task_woken before now a.task) (record { at = now.count; actor = a.by; sign = sign.Wakes a.task } ∷ []) [] in
    let two : List Mark = cond (is_task_activated a.arrivals.now before now a.task) (record { at = now.count; actor = a.by; sign = sign.Activates a.task } ∷ []) [] in
    let first : c.push_marked.new.marks.items ≡ a.marks.now.items ++ one = search rules in
    let second : c.push_marked-2.new.marks.items ≡ c.push_marked.new.marks.items ++ two = search rules in
    second ∙ ap (λ t. t ++ two) first ∙ append_assoc a.marks.now.items one two
