use Rattle.std.proofs.Common.{rules, sym, ◌∙◌, Ok, Err}
use Rattle.std.proofs.lemmas.Option.{slice_get-get_or}
use Rattle.std.proofs.lemmas.List.Sorted.{answers_always}
use Rattle.observe.proofs.Places.{searched}
use Rattle.trace_text.proofs.event_line.word_mark.Goals as goal

-- the closure gives a mark's address
pub returns-in-Ok : goal.returns-in-Ok
returns-in-Ok c =
    let by_address = c.in-Ok.ensures.position (λ mark. mark.address) (answers_always _ _ _ (λ f a r g called. search rules)) in
    let found = searched c.args.marks.now c.requires c.args.address (Ok c.in-Ok.place) c.in-Ok.ensures.bound by_address in
    sym (found ∙ slice_get-get_or c.args.marks.now c.in-Ok.place _ c.in-Ok.ensures.bound)

pub returns-in-Err : goal.returns-in-Err
returns-in-Err c =
    let by_address = c.in-Err.ensures.position (λ mark. mark.address) (answers_always _ _ _ (λ f a r g called. search rules)) in
    sym (searched c.args.marks.now c.requires c.args.address (Err c.in-Err.field-0) c.in-Err.ensures.bound by_address)
