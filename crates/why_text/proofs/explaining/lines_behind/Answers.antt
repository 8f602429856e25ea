use Rattle.std.proofs.Common.{◌∙◌, sym, subst}
use Rattle.std.specs.Prelude.{IfOk}
use Rattle.why_text.specs.declared.explaining.Cause.{Cause}
use Rattle.why_text.specs.WhyLines.{lines_limit, TellsCycle, TellsFault, AreLinesBy}
use Rattle.why_text.proofs.FewLines.{few_told}
use Rattle.why_text.proofs.explaining.lines_behind.Goals as goal

pub returns-in-OilName : goal.returns-in-OilName
returns-in-OilName c =
    subst (λ (cause : Cause). IfOk c.oil_text.result (AreLinesBy cause c.args.oil.now c.args.src.now c.args.refusal)) (sym c.in-OilName.is ∙ c.code_cause.ensures) c.oil_text.ensures

pub returns-in-SourceForm : goal.returns-in-SourceForm
returns-in-SourceForm c =
    subst (λ (cause : Cause). IfOk c.forms_text.result (AreLinesBy cause c.args.oil.now c.args.src.now c.args.refusal)) (sym c.in-SourceForm.is ∙ c.code_cause.ensures) c.forms_text.ensures

pub returns-in-SourceName : goal.returns-in-SourceName
returns-in-SourceName c =
    subst (λ (cause : Cause). IfOk c.name_lines.result (AreLinesBy cause c.args.oil.now c.args.src.now c.args.refusal)) (sym c.in-SourceName.is ∙ c.code_cause.ensures) c.name_lines.ensures

pub returns-in_ok-refusal_cycle-in-Cycle : goal.returns-in_ok-refusal_cycle-in-Cycle
returns-in_ok-refusal_cycle-in-Cycle c =
    let oil = c.args.oil.now in
    let src = c.args.src.now in
    let lines = c.few_lines.result in
    let found = c.in_ok-refusal_cycle-in-Cycle in
    subst (λ (cause : Cause). AreLinesBy cause oil src c.args.refusal lines) (sym c.in-Cycle.is ∙ c.code_cause.ensures)
    (few_told found.field-0 (TellsCycle oil src c.args.refusal) lines_limit lines found.ensures c.few_lines.ensures)

pub returns-in_ok-refusal_fault-in-Rule : goal.returns-in_ok-refusal_fault-in-Rule
returns-in_ok-refusal_fault-in-Rule c =
    let oil = c.args.oil.now in
    let src = c.args.src.now in
    let lines = c.few_lines-in-Rule.result in
    let found = c.in_ok-refusal_fault-in-Rule in
    subst (λ (cause : Cause). AreLinesBy cause oil src c.args.refusal lines) (sym c.in-Rule.is ∙ c.code_cause.ensures)
    (few_told found.field-0 (TellsFault oil src c.args.refusal) lines_limit lines found.ensures c.few_lines-in-Rule.ensures)

pub returns-in-Nothing : goal.returns-in-Nothing
returns-in-Nothing c =
    subst (λ (cause : Cause). AreLinesBy cause c.args.oil.now c.args.src.now c.args.refusal c.no_lines.result) (sym c.in-Nothing.is ∙ c.code_cause.ensures) c.no_lines.ensures
