use Rattle.std.proofs.Common.{◌∙◌, ap}
use Rattle.std.specs.Prelude.{◌&&◌, not, codes}
use Rattle.sloth_base.specs.declared.refusal.Code.TheVariants.{O13, O15}
use Rattle.sloth_base.proofs.Kept.{both_are}
use Rattle.oil_table.specs.Cases.{OilCase}
use Rattle.oil_table.specs.Objects.{is_use, number_of}
use Rattle.oil_rules.specs.TaskFaults.{is_taken, repeats_priority, shares_bit}
use Rattle.sloth_base.specs.declared.refusal.Part.TheVariants.{Oil}
use Rattle.sloth_base.proofs.Cases.{case_found}
use Rattle.oil_rules.proofs.judging.task_fault.Goals as goal

pub returns : goal.returns
returns c =
    let a = c.args.attr.now in
    let front = c.args.front.now in
    let before = c.args.before.now in
    let repeats = repeats_priority front before.attrs a in
    let shares = shares_bit before.events before.attrs a in
    both_are (OilCase repeats a.line O13) (OilCase shares a.line O15) c.fault_if-repeated.result c.fault_if-shared.result c.merge.result
    (case_found Oil repeats c.repeats_priority-repeated.result a.line O13 c.fault_if-repeated.result c.fault_if-repeated.ensures
    (c.repeats_priority-repeated.ensures ∙ ap (λ b. (is_use (codes "PRIORITY") a && not b) && is_taken front (number_of a.value)) c.requires))
    (case_found Oil shares c.shares_bit.result a.line O15 c.fault_if-shared.result c.fault_if-shared.ensures c.shares_bit.ensures)
    c.merge.ensures
