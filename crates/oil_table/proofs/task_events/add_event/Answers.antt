use Rattle.std.proofs.Common.{◌∙◌, List, ℕ, ap, sym}
use Rattle.std.specs.Prelude.{◌||◌, ◌&&◌, ◌==◌, option_copied}
use Rattle.std.specs.Borrow.{Bor}
use Rattle.std.specs.List.{list_any}
use Rattle.oil_table.specs.ListedEvents.{is_listing}
use Rattle.oil_table.proofs.Indexes.{listed_more, listed_word, listed_none, none_more}
use Rattle.oil_table.proofs.task_events.add_event.Goals as goal

pub returns-in_default : goal.returns-in_default
returns-in_default c = λ number word.
    let old = list_any (is_listing number word) c.args.listed.now.keys in
    none_more old (c.args.task == number)
    ∙ ap (λ b. old || ((c.args.task == number) && b)) (sym (listed_none word c.args.attr.now (sym c.event_word.ensures ∙ ap option_copied c.in_default.is)))

pub returns : goal.returns
returns c = λ number word.
    let old = c.args.listed.now.keys in
    let event = c.in-Some.word in
    ap (λ (ks : List (ℕ × Bor (List ℕ))). list_any (is_listing number word) ks) c.in_ok-insert.ensures
    ∙ listed_more old c.args.task event number word
    ∙ ap (λ b. list_any (is_listing number word) old || ((c.args.task == number) && b))
    (sym (listed_word event.now word c.args.attr.now (sym c.event_word.ensures ∙ ap option_copied c.in-Some.is)))
