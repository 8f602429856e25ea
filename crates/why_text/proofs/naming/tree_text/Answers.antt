use Rattle.std.proofs.Common.{sym, subst}
use Rattle.std.proofs.lemmas.Result.{IfOk-weaker}
use Rattle.sloth_base.specs.declared.refusal.Part.TheVariants.{Oil}
use Rattle.stage_faults.specs.Told.{TellSame}
use Rattle.stage_faults.specs.ToldModel.{ToldModel}
use Rattle.why_text.specs.NameLines.{TellsNamed, AreNamedLines}
use Rattle.why_text.proofs.Trees.{named_lines_of}
use Rattle.why_text.proofs.naming.tree_text.Goals as goal

pub returns : goal.returns
returns c =
    let F = ToldModel c.args.tree.now in
    let notes = c.in_ok-notes.notes.items in
    let told = c.as_slice.result.now in
    let same = subst (TellSame notes) (sym c.as_slice.ensures.value) c.in_ok-faults.ensures.same in
    IfOk-weaker c.named_text.result (λ lines. TellsNamed told lines) (AreNamedLines Oil F)
    (λ lines t. named_lines_of Oil F notes told lines c.in_ok-notes.ensures same t) c.named_text.ensures
