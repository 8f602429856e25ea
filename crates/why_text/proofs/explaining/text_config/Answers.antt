use Rattle.std.proofs.Common.{subst}
use Rattle.sloth_source.specs.OilText.{OilErrorIs}
use Rattle.why_text.proofs.FaultLines.{undeclared}
use Rattle.why_text.proofs.explaining.text_config.Goals as goal

pub returns-in-Err-Refused-clause-none : goal.returns-in-Err-Refused-clause-none
returns-in-Err-Refused-clause-none c =
    undeclared c.args.oil.now c.in-Err-Refused.field-0-0 (subst (OilErrorIs c.args.oil.now) c.in-Err-Refused.field-0-is c.in-Err-Refused.ensures.refused)
