use Rattle.std.proofs.Common.{◌∙◌, take, ap, sym}
use Rattle.std.specs.Prelude.{◌||◌, ◌&&◌, ◌==◌}
use Rattle.std.specs.List.{list_any}
use Rattle.std.proofs.lemmas.List.Folds.{list_any_more}
use Rattle.oil_table.specs.ListedEvents.{lists_event, is_listing}
use Rattle.oil_table.proofs.Indexes.{none_more, one_more}
use Rattle.oil_table.proofs.task_events.add_events.Goals as goal

pub loop-attr-init : goal.loop-attr-init
loop-attr-init c = λ number word. none_more (list_any (is_listing number word) c.args.listed.now.keys) (c.args.task == number)

pub loop-attr-preserved : goal.loop-attr-preserved
loop-attr-preserved c = λ number word.
    let xs = c.args.attrs.now in
    let i = c.loop-attr.attr-index in
    let x = c.attr-item.result in
    let p = lists_event word in
    let old = list_any (is_listing number word) c.args.listed.now.keys in
    let this = c.args.task == number in
    c.in_ok-add_event.ensures number word
    ∙ ap (λ b. b || (this && p x)) (c.loop-attr.invariant number word)
    ∙ one_more old this (list_any p (take i xs)) (p x)
    ∙ ap (λ b. old || (this && b)) (sym (list_any_more p xs i x c.loop-attr-test.true ∙ ap (λ y. list_any p (take i xs) || p y) (sym c.attr-item.is)))
