use Rattle.std.proofs.Common.{subst}
use Rattle.sloth_base.specs.Order.{ErrorIs}
use Rattle.asm_lines.specs.Faults.{SourceLinesFault}
use Rattle.why_text.proofs.FaultLines.{no_names_for}
use Rattle.why_text.proofs.naming.names_text.Goals as goal

pub returns-in-Err-Refused : goal.returns-in-Err-Refused
returns-in-Err-Refused c =
    let src = c.args.src.now in
    no_names_for c.args.config.now src c.from_vec.result c.in-Err-Refused.field-0-0 (subst (ErrorIs (SourceLinesFault src)) c.in-Err-Refused.field-0-is c.in-Err-Refused.ensures.refused)
