use Rattle.std.proofs.Common.{subst}
use Rattle.std.proofs.lemmas.Result.{IfOk-weaker}
use Rattle.sloth_base.specs.declared.refusal.Part.TheVariants.{Oil}
use Rattle.stage_faults.specs.ToldModel.{ToldModel}
use Rattle.why_text.specs.NameLines.{AreNamedLines}
use Rattle.why_text.specs.WhyLines.{LacksTree, TellsMeaning}
use Rattle.why_text.proofs.Trees.{meaning_of_tree, no_meaning}
use Rattle.why_text.proofs.naming.oil_text.Goals as goal

pub returns-in-Ok : goal.returns-in-Ok
returns-in-Ok c =
    let oil = c.args.oil.now in
    IfOk-weaker c.tree_text.result (AreNamedLines Oil (ToldModel c.in-Ok.tree)) (TellsMeaning oil) (λ lines l. meaning_of_tree oil lines c.in-Ok.tree c.in-Ok.ensures.tree l) c.tree_text.ensures

pub returns-in-Err-Refused : goal.returns-in-Err-Refused
returns-in-Err-Refused c =
    let oil = c.args.oil.now in
    no_meaning oil c.from_vec.result c.in-Err-Refused.field-0-0 (subst (LacksTree oil) c.in-Err-Refused.field-0-is c.in-Err-Refused.ensures.refused)
