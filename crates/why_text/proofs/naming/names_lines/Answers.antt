use Rattle.std.proofs.lemmas.Result.{IfOk-weaker}
use Rattle.sloth_base.specs.declared.refusal.Part.TheVariants.{Src}
use Rattle.stage_faults.specs.ToldNames.{ToldName}
use Rattle.why_text.specs.NameLines.{TellsNotes, AreFaultLines}
use Rattle.why_text.proofs.FaultLines.{fault_lines}
use Rattle.why_text.proofs.naming.names_lines.Goals as goal

pub returns : goal.returns
returns c =
    let notes = c.in_ok-notes.notes.items in
    let F = ToldName c.args.config.now c.args.lines.now in
    IfOk-weaker c.source_text.result (λ lines. TellsNotes notes lines) (AreFaultLines Src F) (λ lines t. fault_lines Src F notes lines c.in_ok-notes.ensures t) c.source_text.ensures
