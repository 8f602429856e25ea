use Rattle.std.proofs.Common.{◌≡◌, ℕ, List, ◌+◌, ◌%◌, ◌++◌, ◌∙◌, ap, append_assoc}
use Rattle.std.specs.Prelude.{codes, decimal}
use Rattle.std.proofs.lemmas.Result.{on_ok_weaker}
use Rattle.app_gen.specs.Pieces.{number_behind}
use Rattle.app_gen.specs.Oil.{task_object, event_attribute}
use Rattle.app_gen.proofs.Steps.{behind}
use Rattle.app_gen.proofs.oil.put_task.Goals as goal

regrouped : (a b c d e f g h i j k : List ℕ)
    → a ++ b ++ c ++ d ++ e ++ f ++ g ++ h ++ i ++ j ++ k ≡ a ++ b ++ (c ++ d) ++ e ++ f ++ g ++ h ++ (i ++ j) ++ k
regrouped a b c d e f g h i j k = simp append_assoc

pub returns : goal.returns
unfolding task_object number_behind
returns c =
    let old = c.args.text.now.items in
    let i = c.args.task in
    let same =
    regrouped (codes "TASK T") (decimal i) (codes " { PRIORITY = ") (decimal (i + 1)) (codes "; SCHEDULE = ") c.schedule_word.result.now (codes "; ACTIVATION = 1; AUTOSTART = ")
    c.autostart_value.result.now (codes "; RESOURCE = R") (decimal (i % 4)) (codes ";") in
    let event = behind old _ _ _ (event_attribute i) (c.in_ok-line.ensures ∙ ap (λ t. old ++ t) same) c.in_ok-put_event_attribute.ensures in
    on_ok_weaker c.line-2.result
    (λ h. rw (← c.schedule_word.ensures, ← c.autostart_value.ensures) (behind old _ _ _ (codes " };\n") event h))
    c.line-2.ensures
