use Rattle.std.proofs.Common.{◌∙◌, ◌++◌, [], ◌∷◌, List, ℕ, length, ap, sym, subst}
use Rattle.std.specs.Prelude.{◌||◌, ◌&&◌, ◌==◌}
use Rattle.std.specs.List.{list_any}
use Rattle.oil_parse.specs.declared.tree.OilAttr.{OilAttr}
use Rattle.oil_parse.specs.declared.tree.OilObject.{OilObject}
use Rattle.oil_table.specs.ListedEvents.{lists_event, is_listing, AreTasks}
use Rattle.oil_table.proofs.Indexes.{tasks_passed, tasks_more}
use Rattle.oil_table.proofs.task_events.TaskEvents.with.Goals as goal

pub invariant_of-result : goal.invariant_of-result
invariant_of-result c =
    let i = c.self.inside in
    let o = c.args.object.now in
    subst (λ (objects : List OilObject). AreTasks objects i.names i.listed) (ap (λ (objects : List OilObject). objects ++ o ∷ []) c.self.view_is ∙ sym c.requires)
    (tasks_passed i.objects.now o i.names i.listed c.self.invariant (sym c.is_of_kind.ensures ∙ c.if-not-is_of_kind.true))

pub invariant_of-result-2 : goal.invariant_of-result-2
invariant_of-result-2 c =
    let i = c.self.inside in
    let o = c.args.object.now in
    let more = c.add_events.new.listed in
    subst (λ (objects : List OilObject). AreTasks objects c.in_ok-names.names more) (ap (λ (objects : List OilObject). objects ++ o ∷ []) c.self.view_is ∙ sym c.requires)
    (subst (λ (names : List (List ℕ)). AreTasks (i.objects.now ++ o ∷ []) names more)
    (sym (c.in_ok-names.ensures ∙ ap (λ (w : List ℕ). i.names ++ w ∷ []) c.bytes.ensures))
    (tasks_more i.objects.now o i.names i.listed c.self.invariant more (sym c.is_of_kind.ensures ∙ c.if-not-is_of_kind.false)
    (λ number word.
    c.in_ok-add_events.ensures number word
    ∙ ap (λ (n : ℕ). list_any (is_listing number word) i.listed.keys || ((n == number) && list_any (lists_event word) c.items.result.now)) c.count.ensures
    ∙ ap (λ (xs : List OilAttr). list_any (is_listing number word) i.listed.keys || ((length i.names == number) && list_any (lists_event word) xs)) c.items.ensures)))
