use Rattle.std.proofs.lemmas.Result.{IfOk-weaker}
use Rattle.tool_commands.proofs.LabelsAnswers.{as_labels}
use Rattle.tool_commands.proofs.why_command.refused.Goals as goal

pub returns : goal.returns
returns c =
    let early = c.requires.early in
    IfOk-weaker c.why.result _ _ (λ answer is. as_labels c.args.oil.now c.args.src.now early.0 early.1 answer is) c.why.ensures
