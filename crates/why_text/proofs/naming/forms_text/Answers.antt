use Rattle.std.proofs.lemmas.Result.{IfOk-weaker}
use Rattle.sloth_base.specs.declared.refusal.Part.TheVariants.{Src}
use Rattle.stage_faults.specs.ToldNarrow.{ToldForm}
use Rattle.why_text.specs.NameLines.{TellsNotes}
use Rattle.why_text.specs.WhyLines.{TellsForms}
use Rattle.why_text.proofs.FaultLines.{fault_lines}
use Rattle.why_text.proofs.naming.forms_text.Goals as goal

pub returns : goal.returns
returns c =
    let src = c.args.src.now in
    let notes = c.in_ok-notes.notes.items in
    IfOk-weaker c.source_text.result (λ lines. TellsNotes notes lines) (TellsForms src) (λ lines t. fault_lines Src (ToldForm src) notes lines c.in_ok-notes.ensures t) c.source_text.ensures
