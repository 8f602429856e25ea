use Rattle.std.proofs.Common.{rules, sym, ◌∙◌, ap, Ok, Err}
use Rattle.std.proofs.lemmas.Option.{slice_get-get_or}
use Rattle.std.proofs.lemmas.List.Sorted.{answers_always}
use Rattle.observe.specs.Observe.{View, mark_at}
use Rattle.observe.proofs.Places.{searched}
use Rattle.observe.proofs.image_view.ImageView.search.Goals as goal

-- the closure gives a mark's address
pub returns-in-Ok : goal.returns-in-Ok
returns-in-Ok c =
    let by_address = c.in-Ok.ensures.position (λ mark. mark.address) (answers_always _ _ _ (λ f a r g called. search rules)) in
    let found = searched c.self.inside.marks.now c.self.invariant.0 c.args.address (Ok c.in-Ok.place) c.in-Ok.ensures.bound by_address in
    sym (found ∙ slice_get-get_or c.self.inside.marks.now c.in-Ok.place _ c.in-Ok.ensures.bound) ∙ ap (λ (view : View). mark_at view c.args.address) c.self.view_is

pub returns-in-Err : goal.returns-in-Err
returns-in-Err c =
    let by_address = c.in-Err.ensures.position (λ mark. mark.address) (answers_always _ _ _ (λ f a r g called. search rules)) in
    sym (searched c.self.inside.marks.now c.self.invariant.0 c.args.address (Err c.in-Err.field-0) c.in-Err.ensures.bound by_address) ∙ ap (λ (view : View). mark_at view c.args.address) c.self.view_is
