use Rattle.std.proofs.Common.{◌∙◌, ap, subst, Option}
use Rattle.std.specs.Prelude.{IfSome}
use Rattle.observe.specs.Observe.{View, mark_at}
use Rattle.observe.specs.MarkTable.{Table, IsMarkTable, mark_of}
use Rattle.observe.proofs.image_view.ImageView.mark.Goals as goal

-- the table tells what a search does
pub returns-in-Some : goal.returns-in-Some
returns-in-Some c =
    let marks = c.self.inside.marks.now in
    let T : Option Table → Type 0 = λ t. IfSome t (IsMarkTable marks) in
    let told = subst T c.in-Some.is c.self.invariant.1 in
    c.mark_of.ensures ∙ ap (mark_of marks) c.number.ensures ∙ told c.args.address ∙ ap (λ (view : View). mark_at view c.args.address) c.self.view_is
