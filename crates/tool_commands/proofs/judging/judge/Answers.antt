use Rattle.std.proofs.Common.{◌≡◌, ℕ, List, sym, subst}
use Rattle.std.specs.Prelude.{IfOk}
use Rattle.std.proofs.lemmas.Result.{IfOk-weaker}
use Rattle.command_line.specs.Command.{words_of}
use Rattle.command_line.specs.declared.tool.Tool.{Tool}
use Rattle.command_line.specs.declared.tool.Tool.TheVariants as tool
use Rattle.tool_commands.specs.Answers.{IsAnswer, input}
use Rattle.tool_commands.specs.LabelsAnswers.{IsLabelsAnswer}
use Rattle.tool_commands.proofs.judging.judge.Goals as goal

pub returns-in-Labels : goal.returns-in-Labels
returns-in-Labels c =
    let inputs : List (List ℕ) = c.args.inputs.now in
    let asked : c.args.tool ≡ tool.Labels = c.in-Labels.is in
    let P : Tool → Type 0 = λ t. IfOk c.labels.result (λ answer. IsAnswer t c.args.counts (words_of c.args.names.now) inputs answer) in
    subst P (sym asked)
    (IfOk-weaker c.labels.result _ _
    (λ answer h. subst (λ a. IsLabelsAnswer a (input inputs 1) answer) c.file-first.ensures.is
    (subst (λ b. IsLabelsAnswer c.file-first.result.now b answer) c.file-second.ensures.is h))
    c.labels.ensures)
